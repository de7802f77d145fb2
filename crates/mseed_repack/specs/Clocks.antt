-- What is kept of a stretch while its records come.
use Rattle.std.specs.Prelude.{◌≡◌, ◌↔◌, IsTrue, List, [], ◌∷◌, length, Some}
use Rattle.mseed_time.specs.Ratios.{ratio_of}
use Rattle.mseed_record.specs.declared.leap.Leap.TheVariants.{Both}
use Rattle.mseed_record.specs.Header.{key_at, factor_at, multiplier_at}
use Rattle.mseed_record.specs.View.{View, start_of, leap_of}
use Rattle.mseed_audit.specs.Judging.{known_rate}
use Rattle.mseed_repack.specs.Stretches.{added_by, last_of, samples_of}
use Rattle.mseed_repack.specs.declared.stretch.Stretch.{Stretch}

-- of the first record its channel, start and rate, the counts of all, the microseconds that their leap seconds added,
-- and whether the last one has both leap flags
pub record IsStretchAt (s : Stretch) (first : View) (rest : List View) : Type 0 where
  pub codes_is : s.codes ≡ key_at first.bytes
  pub start_is : s.start ≡ start_of first
  pub rate_is : known_rate first ≡ Some (ratio_of s.rate)
  pub factor_is : s.rate.factor ≡ factor_at first.order first.bytes
  pub multiplier_is : s.rate.multiplier ≡ multiplier_at first.order first.bytes
  pub records_is : s.records ≡ length (first ∷ rest)
  pub samples_is : s.samples ≡ samples_of (first ∷ rest)
  pub added_is : s.added ≡ added_by (first ∷ rest)
  pub closed_is : IsTrue s.closed ↔ (leap_of (last_of first rest).bytes ≡ Both)

-- what is kept of these records
abbrev pub IsStretchOf : Stretch → List View → Type 0
IsStretchOf s [] = ⊥
IsStretchOf s (first ∷ rest) = IsStretchAt s first rest
