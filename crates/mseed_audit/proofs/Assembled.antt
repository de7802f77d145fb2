-- The series of a continuous channel.
use Rattle.std.proofs.Common.{◌≡◌, ◌<◌, ℕ, ℤ, List, [], ◌∷◌, true, length}
use Rattle.std.proofs.Common.{drop, map, take, get_or, ◌+◌, Option, Some, None, Result, Ok, Err, IfOk, IfErr, IsTrue}
use Rattle.std.proofs.Common.{◌↔◌, ◌∙◌, arith, refl}
use Rattle.std.specs.List.{filter}
use Rattle.std.proofs.lemmas.List.Elements.{filter_passes}
use Rattle.mseed_time.specs.declared.fault.TimeFault.{TimeFault}
use Rattle.mseed_time.specs.declared.rate.Rate.{Rate}
use Rattle.mseed_time.specs.Rate.{Ratio}
use Rattle.mseed_record.specs.Header.{key_at}
use Rattle.mseed_record.specs.declared.view.RecordView.{RecordView}
use Rattle.mseed_record.specs.View.{View}
use Rattle.mseed_record.specs.Viewing.{view_of}
use Rattle.mseed_audit.specs.declared.assembly.NotContinuous.{NotContinuous}
use Rattle.mseed_audit.specs.declared.assembly.NotContinuous.TheVariants.{Memory}
use Rattle.mseed_audit.specs.declared.channel.Channel.{Channel}
use Rattle.mseed_audit.specs.declared.verdict.Verdict.{Verdict}
use Rattle.mseed_audit.specs.declared.verdict.Verdict.TheVariants.{Continuous}
use Rattle.mseed_audit.specs.Audit.{Stands, verdict_of}
use Rattle.mseed_audit.specs.Channels.{Placed, added_from, is_of_channel, records_of, views_in}
use Rattle.mseed_audit.specs.Follows.{IsContinuous}
use Rattle.mseed_audit.specs.Judging.{rate_in, rate_unless, time_fault_of}
use Rattle.mseed_audit.specs.private.ChannelState.{IsFirstRate}
use Rattle.mseed_audit.specs.Series.{Trace, HoldsAll, IsSeriesOf, IsSeries}
use Rattle.mseed_audit.specs.Verdict.{IsVerdict, says_continuous}
use Rattle.mseed_audit.proofs.Following.{kept_around, views_are}
use Rattle.mseed_audit.proofs.ChannelState.{AreExact}
use Rattle.mseed_audit.proofs.ChannelState.{stands_verdict}
use Rattle.mseed_audit.proofs.Maps.{key_of, same_is}

-- the verdict on a channel is one on its records, and says that they are continuous exactly where they are
pub said : AreExact → (verdict : Verdict) (c : Channel) (ps : List Placed) → verdict ≡ verdict_of c → Stands c ps
    → IsVerdict verdict ps × (IsTrue (says_continuous verdict) ↔ IsContinuous (views_in ps))
said exact verdict c ps e stands =
    let is : IsVerdict verdict ps = rw e (stands_verdict c ps stands) in (is, exact verdict ps is)

-- the first record of a channel has its key
pub first_key : (key : List ℕ) (vs : List View) (first : View) (rest : List View)
    → filter (is_of_channel key) vs ≡ first ∷ rest → key ≡ key_at first.bytes
first_key key vs first rest e =
    let passes = rw e at (filter_passes (is_of_channel key) vs) in
    same_is key (key_at first.bytes) (key_of key first (passes 0 first (omega arith)))

first_alone : (v : View) (vs : List View) (rate : Option Rate) → IsFirstRate (v ∷ []) rate → IsFirstRate (v ∷ vs) rate
first_alone v vs None h = h
first_alone v vs (Some rate) h = h

-- the first record of a channel, after others that are of none or of another
pub first_there : (key : List ℕ) (rs : List RecordView) (n : ℕ) (r : RecordView) (rate : Option Rate) → n < length rs
    → r ≡ get_or rs n r → true ≡ is_of_channel key (view_of r)
    → filter (is_of_channel key) (map view_of (take n rs)) ≡ [] → IsFirstRate (view_of r ∷ []) rate
    → IsFirstRate (filter (is_of_channel key) (map view_of rs)) rate
first_there key rs n r rate l is of none h =
    let later : List View = filter (is_of_channel key) (map view_of (drop (n + 1) rs)) in
    rw (kept_around key rs n r l is of, none) (first_alone (view_of r) later rate h)

-- a record with a known rate has one
rate_there : (fault : Option TimeFault) (rate : Option Ratio) (known : Ratio) → rate_unless fault rate ≡ Some known
    → rate ≡ None → ⊥
rate_there None rate known e none = cc (e, none)
rate_there (Some fault) rate known e none = cc (e)

module _ (key : List ℕ) (vs : List View) (start : ℤ) (rate : Ratio) (records samples : ℕ)
    (verdict : IsVerdict (Continuous start rate records samples) (records_of key (added_from 0 vs))) where
  -- the first record of a continuous channel has a rate
  pub has_rate : IsFirstRate (filter (is_of_channel key) vs) None → ⊥
  has_rate h =
      let first : Placed = verdict.0 in
      rate_there (time_fault_of first.view) (rate_in first.view) rate verdict.1.1.1.rate_is
      (rw (← views_are key vs, verdict.1.1.0) at h)

  -- what is answered of a continuous channel
  pub assembled : (written : Rate) (result : Result Trace NotContinuous)
      → IsContinuous (views_in (records_of key (added_from 0 vs)))
      → IsFirstRate (filter (is_of_channel key) vs) (Some written)
      → IfOk result (λ s. HoldsAll key start written (filter (is_of_channel key) vs) s)
      → IfErr result (λ e. e ≡ Memory) → IsSeries result (records_of key (added_from 0 vs))
  assembled written (Err e) continuous is holds memory = rw memory continuous
  assembled written (Ok s) continuous is holds memory =
      let first : View = verdict.0.view in
      let rest : List View = views_in verdict.1.0 in
      let same : filter (is_of_channel key) vs ≡ first ∷ rest = rw (← views_are key vs, verdict.1.1.0) refl in
      let numbers = rw same at is in
      let series : IsSeriesOf s (filter (is_of_channel key) vs) = record {
        first = first;
        rest = rest;
        parts = same;
        codes = holds.codes_is ∙ first_key key vs first rest same;
        start = holds.start_is ∙ verdict.1.1.1.start_is;
        factor = rw holds.rate_is numbers.0;
        multiplier = rw holds.rate_is numbers.1;
        samples = holds.samples;
        steps = holds.steps;
      } in (continuous, rw (views_are key vs) series)
