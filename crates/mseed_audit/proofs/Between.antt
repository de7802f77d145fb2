-- Nothing is found between two records exactly where the next one follows.
use Rattle.std.proofs.Common.{◌≡◌, ◌≢◌, ◌*◌, ◌^◌, ℕ, ℤ, pos, negsuc, unsigned_abs, Bool, true, false, if◌then◌else◌}
use Rattle.std.proofs.Common.{◌==◌, nat_le, Option, Some, None, refl, eq-eqb, eqb-true}
use Rattle.std.proofs.lemmas.Bool.{le-leb, leb-true}
use Rattle.mseed_time.specs.declared.outcome.Join.{Join}
use Rattle.mseed_time.specs.declared.outcome.Join.TheVariants.{Meets}
use Rattle.mseed_time.specs.declared.outcome.LeapStep.{LeapStep}
use Rattle.mseed_time.specs.Join.{Joins, miss_of, missed_by, join_of}
use Rattle.mseed_time.specs.Rate.{Ratio}
use Rattle.mseed_record.specs.declared.leap.Leap.{Leap}
use Rattle.mseed_record.specs.declared.leap.Leap.TheVariants.{Both}
use Rattle.mseed_record.specs.View.{View, start_of, leap_of}
use Rattle.mseed_steim.specs.Reading.{count_of}
use Rattle.mseed_audit.specs.declared.finding.Why.{Why}
use Rattle.mseed_audit.specs.declared.finding.Why.TheVariants.{RateChange}
use Rattle.mseed_audit.specs.Follows.{FollowsAt}
use Rattle.mseed_audit.specs.Judging.{known_rate, step_in, why_of, why_by, why_between}

-- a miss beyond half a period is late or early
met_by : (b : Bool) (miss : ℤ) (num : ℕ) → why_of (if b then Meets else missed_by miss num) ≡ None → b ≡ true
met_by true miss num e = refl
met_by false (pos n) num e = cc
met_by false (negsuc n) num e = cc

meets_joins : (start : ℤ) (n : ℕ) (rate : Ratio) (step : Option LeapStep) (next : ℤ)
    → why_of (join_of start n rate step next) ≡ None → Joins start n rate step next
meets_joins start n rate step next e =
    let miss : ℤ = miss_of start n rate step next in
    leb-true (2 * unsigned_abs miss) (rate.den * 10 ^ 6)
    (met_by (nat_le (2 * unsigned_abs miss) (rate.den * 10 ^ 6)) miss rate.num e)

-- by the leap flags of the record before
by_none : (leap : Leap) (join : Join) → why_by leap join ≡ None → (leap ≢ Both) × (why_of join ≡ None)
by_none Both join e = cc
by_none leap join e = ((λ both. cc), e)

by_met : (leap : Leap) (join : Join) → leap ≢ Both → why_of join ≡ None → why_by leap join ≡ None
by_met Both join ne e = absurd (ne refl)
by_met leap join ne e = e

same_else : (b : Bool) (why : Option Why) → (if b then why else Some RateChange) ≡ None → (b ≡ true) × (why ≡ None)
same_else true why e = (refl, e)
same_else false why e = cc

-- nothing is found between two records where the next one follows
pub follows_of : (b v : View) (rate next : Ratio) → known_rate b ≡ Some rate → known_rate v ≡ Some next
    → why_between b rate v next ≡ None → FollowsAt rate next b v
follows_of b v rate next known known-next e =
    let join : Join = join_of (start_of b) (count_of b) rate (step_in (leap_of b.bytes)) (start_of v) in
    let parts : ((rate.num * next.den == next.num * rate.den) ≡ true) × (why_by (leap_of b.bytes) join ≡ None) =
    same_else (rate.num * next.den == next.num * rate.den) (why_by (leap_of b.bytes) join) e in
    let met : (leap_of b.bytes ≢ Both) × (why_of join ≡ None) = by_none (leap_of b.bytes) join parts.1 in
    record {
      before_is = known;
      next_is = known-next;
      same = eqb-true (rate.num * next.den) (next.num * rate.den) parts.0;
      one_step = met.0;
      joins = meets_joins (start_of b) (count_of b) rate (step_in (leap_of b.bytes)) (start_of v) met.1;
    }

pub between_none : (b v : View) (rate next : Ratio) → FollowsAt rate next b v → why_between b rate v next ≡ None
between_none b v rate next h =
    rw (eq-eqb (rate.num * next.den) (next.num * rate.den) h.same)
    (by_met (leap_of b.bytes) (join_of (start_of b) (count_of b) rate (step_in (leap_of b.bytes)) (start_of v))
    h.one_step (rw (le-leb _ (rate.den * 10 ^ 6) h.joins) refl))
