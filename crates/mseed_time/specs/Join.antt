-- When a record begins where the one before it ends (a sample period after its last sample).
use Rattle.std.specs.Prelude.{ℕ, suc, ◌*◌, ◌/◌, ◌^◌, ◌≤◌, nat_le, if◌then◌else◌, ℤ, pos, negsuc, ◌+ℤ◌, ◌-ℤ◌, ◌*ℤ◌}
use Rattle.std.specs.Prelude.{unsigned_abs, Option, Some, None}
use Rattle.mseed_time.specs.Rate.{Ratio}
use Rattle.mseed_time.specs.declared.outcome.Join.{Join}
use Rattle.mseed_time.specs.declared.outcome.Join.TheVariants.{Meets, Late, Early}
use Rattle.mseed_time.specs.declared.outcome.LeapStep.{LeapStep}
use Rattle.mseed_time.specs.declared.outcome.LeapStep.TheVariants.{Plus, Minus}

-- the microseconds that a leap second adds to the time between two readings of the clock
abbrev pub step_of : Option LeapStep → ℤ
step_of None = pos 0
step_of (Some Plus) = pos (10 ^ 6)
step_of (Some Minus) = negsuc 999_999

-- By how much the next start misses the instant of the sample after n others, of which the first is at `start`, and
-- where leap seconds added `added` microseconds: in microseconds times num, positive where it is late.
abbrev pub drift_of : ℤ → ℕ → Ratio → ℤ → ℤ → ℤ
drift_of start n rate added next = (next -ℤ start +ℤ added) *ℤ pos rate.num -ℤ pos (n * rate.den * 10 ^ 6)

-- By how much it misses the end of a record of n samples, with the leap second during it.
abbrev pub miss_of : ℤ → ℕ → Ratio → Option LeapStep → ℤ → ℤ
miss_of start n rate step next = drift_of start n rate (step_of step) next

-- within half a sample period, the half included
abbrev pub Joins : ℤ → ℕ → Ratio → Option LeapStep → ℤ → Type 0
Joins start n rate step next = 2 * unsigned_abs (miss_of start n rate step next) ≤ rate.den * 10 ^ 6

-- late or early, by the whole microseconds
abbrev pub missed_by : ℤ → ℕ → Join
missed_by (pos miss) num = Late (miss / num)
missed_by (negsuc miss) num = Early (suc miss / num)

-- what a miss means: nothing within half a period
abbrev pub join_by : ℤ → Ratio → Join
join_by miss rate =
    if nat_le (2 * unsigned_abs miss) (rate.den * 10 ^ 6) then Meets else missed_by miss rate.num

abbrev pub join_of : ℤ → ℕ → Ratio → Option LeapStep → ℤ → Join
join_of start n rate step next = join_by (miss_of start n rate step next) rate
