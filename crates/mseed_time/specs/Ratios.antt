-- The ratio of a `Rate`.
use Rattle.std.specs.Prelude.{unwrap_or}
use Rattle.mseed_time.specs.Rate.{Ratio, rate_of}
use Rattle.mseed_time.specs.declared.rate.Rate.{Rate}

-- the ratio that the factor and the multiplier give; there is always one
abbrev pub ratio_of : Rate → Ratio
ratio_of r = unwrap_or (rate_of r.factor r.multiplier) (record { num = 0; den = 0 })
