-- What is found of a record, by what it says and by the record of its channel before it.
use Rattle.std.specs.Prelude.{◌≡◌, ◌*◌, ◌==◌, if◌then◌else◌, List, ℤ, Option, Some, None}
use Rattle.mseed_time.specs.declared.fault.TimeFault.{TimeFault}
use Rattle.mseed_time.specs.declared.outcome.Join.{Join}
use Rattle.mseed_time.specs.declared.outcome.Join.TheVariants.{Meets, Late, Early}
use Rattle.mseed_time.specs.Join.{join_of}
use Rattle.mseed_time.specs.Rate.{Ratio}
use Rattle.mseed_record.specs.declared.leap.Leap.{Leap}
use Rattle.mseed_record.specs.declared.leap.Leap.TheVariants.{None as NoLeap, Positive, Negative, Both}
use Rattle.mseed_record.specs.View.{View, start_of, leap_of}
pub use Rattle.mseed_record.specs.View.{step_in}
pub use Rattle.mseed_record.specs.Selection.{rate_in, start_fault as time_fault_of}
use Rattle.mseed_steim.specs.declared.fault.ReadFault.{ReadFault}
use Rattle.mseed_steim.specs.Reading.{count_of, IsFault, IsWhole}
use Rattle.mseed_audit.specs.declared.finding.Why.{Why}
use Rattle.mseed_audit.specs.declared.finding.Why.TheVariants.{Time, Rate, Read, RateChange, Leap as UnknownLeap, Gap}
use Rattle.mseed_audit.specs.declared.finding.Why.TheVariants.{Overlap}

-- the sample rate, unless a field of the start is out of its range
abbrev pub rate_unless : Option TimeFault → Option Ratio → Option Ratio
rate_unless None rate = rate
rate_unless (Some fault) rate = None

-- the sample rate of a record whose start has a valid time; else nobody can say where the record ends
abbrev pub known_rate : View → Option Ratio
known_rate v = rate_unless (time_fault_of v) (rate_in v)

-- a next record that is late leaves a gap, one that is early overlaps
abbrev pub why_of : Join → Option Why
why_of Meets = None
why_of (Late us) = Some (Gap us)
why_of (Early us) = Some (Overlap us)

-- by the leap flags of the record before
abbrev pub why_by : Leap → Join → Option Why
why_by NoLeap join = why_of join
why_by Positive join = why_of join
why_by Negative join = why_of join
why_by Both join = Some UnknownLeap

-- why a record doesn't follow the one before it, by their rates: another rate comes first, then a leap second
-- that nobody can say, then the join
abbrev pub why_between : View → Ratio → View → Ratio → Option Why
why_between b rate v next =
    if rate.num * next.den == next.num * rate.den
    then why_by (leap_of b.bytes) (join_of (start_of b) (count_of b) rate (step_in (leap_of b.bytes)) (start_of v))
    else Some RateChange

abbrev pub why_from : View → Option Ratio → View → Ratio → Option Why
why_from b None v next = None
why_from b (Some rate) v next = why_between b rate v next

-- of the channel's record before, if there is one and its time and rate are valid
abbrev pub why_after : Option View → View → Ratio → Option Why
why_after None v next = None
why_after (Some b) v next = why_from b (known_rate b) v next

-- What is found of a record: the first reason that holds, in this order; or nothing.
pub data IsFound (before : Option View) (v : View) : Option Why → Type 0 where
  time : (fault : TimeFault) → time_fault_of v ≡ Some fault → IsFound before v (Some (Time fault))
  rate : time_fault_of v ≡ None → rate_in v ≡ None → IsFound before v (Some Rate)
  read : (next : Ratio) → known_rate v ≡ Some next → (fault : ReadFault) → IsFault v fault
      → IsFound before v (Some (Read fault))
  after : (next : Ratio) → known_rate v ≡ Some next → (samples : List ℤ) → IsWhole v samples
      → IsFound before v (why_after before v next)
