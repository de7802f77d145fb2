-- What an audit says of records that a series is packed into.
use Rattle.std.proofs.Common.{◌≡◌, ◌↔◌, ℕ, List, IsTrue, refl, ap, ◌⊎◌, inl, inr, Result, Ok, Err}
use Rattle.mseed_record.specs.View.{View}
use Rattle.mseed_audit.specs.declared.assembly.NotContinuous.{NotContinuous}
use Rattle.mseed_audit.specs.declared.assembly.NotContinuous.TheVariants.{Absent, Broken, Memory}
use Rattle.mseed_audit.specs.declared.verdict.Verdict.{Verdict}
use Rattle.mseed_audit.specs.Channels.{Placed, views_in}
use Rattle.mseed_audit.specs.Follows.{IsContinuous}
use Rattle.mseed_audit.specs.Series.{Trace, IsSeriesOf, IsSeries}
use Rattle.mseed_audit.specs.Verdict.{IsVerdict, says_continuous}
use Rattle.mseed_pack.specs.ReadBack.{AreViewsOf, IsAssembled, ReadsAs}

-- what the audit's layer says: a verdict is exact, and a channel has one series
abbrev pub ExactVerdicts : Type 0
ExactVerdicts = (verdict : Verdict) (ps : List Placed) → IsVerdict verdict ps
    → (IsTrue (says_continuous verdict) ↔ IsContinuous (views_in ps))

abbrev pub OneSeries : Type 0
OneSeries = (s t : Trace) (vs : List View) → IsSeriesOf s vs → IsSeriesOf t vs → s ≡ t

same_views : (s : Trace) (records : List (List ℕ)) (vs : List View) → (reads : ReadsAs s records)
    → AreViewsOf records vs → IsContinuous vs × IsSeriesOf s vs
same_views s records vs reads are =
    let same : vs ≡ reads.views = reads.only vs are in
    (rw same reads.continuous, rw same reads.series)

pub called : ExactVerdicts → (s : Trace) (records : List (List ℕ)) (ps : List Placed) (verdict : Verdict)
    → ReadsAs s records → AreViewsOf records (views_in ps) → IsVerdict verdict ps → IsTrue (says_continuous verdict)
called exact s records ps verdict reads are is =
    (exact verdict ps is).1 (same_views s records (views_in ps) reads are).0

-- what is assembled of a continuous channel
pub assembled_of : (ps : List Placed) (answer : Result Trace NotContinuous) → IsContinuous (views_in ps)
    → IsSeries answer ps → IsAssembled answer (views_in ps)
assembled_of ps (Ok t) continuous is = (continuous, is.1)
assembled_of ps (Err Absent) continuous is = continuous.some (ap (λ (qs : List Placed). views_in qs) is)
assembled_of ps (Err (Broken first)) continuous is = is.0 continuous
assembled_of ps (Err Memory) continuous is = tt

pub answered : OneSeries
    → (s : Trace) (records : List (List ℕ)) (ps : List Placed) (answer : Result Trace NotContinuous)
    → ReadsAs s records → AreViewsOf records (views_in ps) → IsSeries answer ps
    → (answer ≡ Ok s) ⊎ (answer ≡ Err Memory)
answered one s records ps (Ok t) reads are is =
    inl (ap Ok (one t s (views_in ps) is.1 (same_views s records (views_in ps) reads are).1))
answered one s records ps (Err Memory) reads are is = inr refl
answered one s records ps answer reads are is =
    absurd (assembled_of ps answer (same_views s records (views_in ps) reads are).0 is)
