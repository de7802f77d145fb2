-- What is found of a record, by what's kept of the one before it.
use Rattle.std.proofs.Common.{◌≡◌, ◌*◌, if◌then◌else◌, ◌==◌, Option, Some, None, IsSome, refl, ap}
use Rattle.std.proofs.Common.{sym, ◌∙◌}
use Rattle.mseed_time.specs.declared.fault.TimeFault.{TimeFault}
use Rattle.mseed_time.specs.Join.{join_of}
use Rattle.mseed_time.specs.Rate.{Ratio}
use Rattle.mseed_record.specs.View.{View}
use Rattle.mseed_audit.specs.declared.channel.Examined.{Examined}
use Rattle.mseed_audit.specs.declared.tail.Tail.{Tail}
use Rattle.mseed_audit.specs.declared.finding.Why.TheVariants.{RateChange}
use Rattle.mseed_audit.specs.Judging.{time_fault_of, rate_in, rate_unless, known_rate, why_between, why_from, why_after}
use Rattle.mseed_audit.specs.Judging.{IsFound, after, step_in, why_by}
use Rattle.mseed_audit.specs.Audit.{IsTail, break_by}
use Rattle.mseed_audit.specs.private.ChannelState.{IsExamined, IsReadTo, IsTailBefore, break_after}

pub none_unless : {X : Type 0} (x : Option X) → ¬ (IsSome x) → x ≡ None
none_unless None h = refl
none_unless (Some x) h = absurd (h refl)

-- a record without a time has no rate that is known
pub unknown_timed : (v : View) (fault : TimeFault) → time_fault_of v ≡ Some fault → known_rate v ≡ None
unknown_timed v fault e = ap (λ (f : Option TimeFault). rate_unless f (rate_in v)) e

-- with a time, the rate is what the record says
pub known_timed : (v : View) (rate : Option Ratio) → time_fault_of v ≡ None → rate_in v ≡ rate → known_rate v ≡ rate
known_timed v rate e r = ap (λ (f : Option TimeFault). rate_unless f (rate_in v)) e ∙ r

-- what is kept of two records says what lies between them
between : (t next : Tail) (b v : View) → IsTail t b → IsTail next v
    → break_by t next.start next.rate ≡ why_between b t.rate v next.rate
between t next b v h k = λ i.
    if t.rate.num * next.rate.den == next.rate.num * t.rate.den
    then why_by (h.leap i) (join_of (h.start i) (h.samples i) t.rate (step_in (h.leap i)) (k.start i))
    else Some RateChange

-- whether the one before has a rate or not
after_either : (before : Option Tail) (next : Tail) (b : Option View) (v : View) → IsTailBefore before b
    → IsTail next v → why_after b v next.rate ≡ break_after before next
after_either None next None v h k = refl
after_either None next (Some b) v h k = ap (λ (rate : Option Ratio). why_from b rate v next.rate) h
after_either (Some t) next None v h k = absurd h
after_either (Some t) next (Some b) v h k =
    ap (λ (rate : Option Ratio). why_from b rate v next.rate) h.rate ∙ sym (between t next b v h k)

-- its samples are whole
pub found_whole : (examined : Examined) (before : Option Tail) (b : Option View) (v : View) → IsExamined examined v
    → examined.fault ≡ None → IsTailBefore before b → IsFound b v (break_after before examined.tail)
found_whole examined before b v is none kept =
    let whole : IsReadTo v None = rw none at is.read in
    rw (← after_either before examined.tail b v kept is.tail) (after examined.tail.rate is.tail.rate whole.0 whole.1)
