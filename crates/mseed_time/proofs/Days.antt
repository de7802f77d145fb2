-- The calendar's day numbers are those of the definition.
use Rattle.std.proofs.Common.{◌≡◌, ℕ, suc, ◌+◌, ◌-◌, ◌*◌, ◌≤◌, arith, pos, ◌+ℤ◌}
use Rattle.jiff_core.specs.Calendar.{days_from_civil}
use Rattle.jiff_core.proofs.CalendarLemmas.{days_from_civil-day_count}
use Rattle.jiff_core.proofs.MarchLemmas.{day_count-early}
use Rattle.jiff_core.proofs.SignedLemmas.{signed_arith}
use Rattle.mseed_time.specs.Btime.{Parts, day_of, microsecond_of}

-- the first of January
pub days_from_civil-first : (y : ℕ) → 1 ≤ y → days_from_civil (pos y) 1 1 ≡ day_of y 1
days_from_civil-first y low =
    let here : pos y +ℤ pos 10000 ≡ pos (suc (y + 9999)) = omega (arith, signed_arith) in
    omega (
      arith,
      signed_arith,
      days_from_civil-day_count (pos y) 1 1,
      day_count-early (pos y) (y + 9999) 1 1 here (omega arith) (omega arith) (omega arith),
    )

-- a time, by its day from 1900
pub microsecond_of-counted : (t : Parts) (days : ℕ) → day_of t.year t.day +ℤ pos 25_567 ≡ pos days
    → microsecond_of t +ℤ pos 2_208_988_800_000_000
    ≡ pos (((days * 24 + t.hour) * 60 + t.minute) * 60 * 1_000_000 + t.second * 1_000_000 + t.fraction * 100)
microsecond_of-counted t days e = omega (arith, signed_arith, e)

-- the same, by the first day of its year
pub microsecond_of-natural : (t : Parts) (days : ℕ) → 1 ≤ t.day → day_of t.year 1 +ℤ pos 25_567 ≡ pos days
    → microsecond_of t +ℤ pos 2_208_988_800_000_000
    ≡ pos ((((days + t.day - 1) * 24 + t.hour) * 60 + t.minute) * 60 * 1_000_000 + t.second * 1_000_000 + t.fraction
    * 100)
microsecond_of-natural t days low e =
    microsecond_of-counted t (days + t.day - 1) (omega (arith, signed_arith, e))
