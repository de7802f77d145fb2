-- Whether a record goes on, by its rate and its start alone.
use Rattle.std.specs.Prelude.{ℤ}
use Rattle.mseed_time.specs.Rate.{Ratio, SameRate}
use Rattle.mseed_time.specs.Ratios.{ratio_of}
use Rattle.mseed_repack.specs.Stretches.{IsOnTime}
use Rattle.mseed_repack.specs.declared.stretch.Stretch.{Stretch}

-- the rate is the stretch's, and the start is on time
pub record IsNext (s : Stretch) (next : Ratio) (start : ℤ) : Type 0 where
  pub same : SameRate (ratio_of s.rate) next
  pub on_time : IsOnTime s.start s.samples (ratio_of s.rate) s.added start
