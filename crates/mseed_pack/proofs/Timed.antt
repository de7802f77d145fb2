-- The clock of some records, one after another, of those that a series is packed into.
use Rattle.std.proofs.Common.{◌≡◌, ℕ, ◌+◌, ◌≤◌, List, [], ◌∷◌, ◌++◌, length, map}
use Rattle.std.proofs.Common.{refl, sym, ap, subst, ◌∙◌, arith, ℤ, Option, Some, None}
use Rattle.std.proofs.Common.{length-append}
use Rattle.std.specs.List.{filter}
use Rattle.std.proofs.Common.{inl, inr}
use Rattle.std.proofs.lemmas.Bool.{cases_lt, le-leb, le-ltb, lt-leb, lt-ltb}
use Rattle.std.proofs.lemmas.List.{append_cancel_right, map-append}
use Rattle.mseed_time.specs.declared.outcome.LeapStep.{LeapStep}
use Rattle.mseed_record.specs.View.{View}
use Rattle.mseed_steim.specs.Reading.{count_of, HasOneReading}
use Rattle.mseed_audit.specs.Series.{Trace, AreStepsFrom, AreJoined, none, one, step_at, steps_from, IsSeriesOf}
use Rattle.mseed_audit.proofs.Joined.{count_is}
use Rattle.mseed_pack.specs.declared.options.Options.{Options}
use Rattle.mseed_pack.specs.Fitting.{Fits}
use Rattle.mseed_pack.specs.Outcome.{IsTrace}
use Rattle.mseed_pack.specs.Packing.{IsPacking}
use Rattle.mseed_pack.specs.ReadBack.{AreViewsOf, HaveSamples, IsTimedFrom, is_among, moved}
use Rattle.mseed_pack.proofs.Followed.{AreAt, joined_at, steps_on}
use Rattle.mseed_pack.proofs.Leaps.{before, later}
use Rattle.mseed_pack.proofs.Parted.{only_views, thirds}
use Rattle.mseed_pack.proofs.ReadBack.{lies_at, reads_as}
use Rattle.mseed_pack.proofs.Viewed.{HeadersReadBack, PackedSpells}

-- how many samples the records of some views have
abbrev counted : List View → ℕ
counted [] = 0
counted (v ∷ vs) = count_of v + counted vs

joined_count : (vs : List View) (samples : List ℤ) → AreJoined vs samples → length samples ≡ counted vs
joined_count [] _ none = refl
joined_count (v ∷ vs) _ (one _ _ xs rest is more) =
    omega (arith, length-append xs rest, count_is v xs is, joined_count vs rest more)

-- the samples that the last of some views hold, and the first
at_behind : (s : Trace) (first : ℕ) (us vs : List View) (samples : List ℤ) → AreAt s first (us ++ vs) samples
    → (rest : List ℤ) × AreAt s (first + counted us) vs rest
at_behind s first [] vs samples h = let same : first + 0 ≡ first = omega arith in (samples, rw same h)
at_behind s first (u ∷ us) vs samples h =
    let rest = at_behind s (first + length h.0) us vs h.1.0 h.1.1.2 in
    let place : first + length h.0 + counted us ≡ first + (count_of u + counted us) =
    omega (arith, h.1.1.1.count) in
    (rest.0, rw place at rest.1)

at_ahead : (s : Trace) (first : ℕ) (us vs : List View) (samples : List ℤ) → AreAt s first (us ++ vs) samples
    → (prefix : List ℤ) × AreAt s first us prefix
at_ahead s first [] vs samples h = ([], refl)
at_ahead s first (u ∷ us) vs samples h =
    let rest = at_ahead s (first + length h.0) us vs h.1.0 h.1.1.2 in
    (h.0 ++ rest.0, (h.0, (rest.0, (refl, h.1.1.1, rest.1))))

-- between two places some leap seconds stand, before those that are left after them
among_steps : (low size : ℕ) (steps : List (ℕ × LeapStep)) (a b : ℕ) → a ≤ b → AreStepsFrom low size steps
    → later steps a ≡ filter (is_among a b) steps ++ later steps b
among_steps low size [] a b h are = refl
among_steps low size (t ∷ ts) a b h are =
    let rest = among_steps t.0 size ts a b h are.2 in
    elim (cases_lt a t.0) [
      | inl next ↦
          let all = (before t.0 size ts a (omega (arith, next)) are.2).all in
          elim (cases_lt b t.0) [
            | inl over ↦
                let behind = (before t.0 size ts b (omega (arith, over)) are.2).all in
                let none : [] ≡ filter (is_among a b) ts =
                append_cancel_right [] (filter (is_among a b) ts) ts (rw (all, behind) at rest) in
                rw (lt-ltb a t.0 next, lt-leb t.0 b over, lt-ltb b t.0 over, ← none)
            | inr inside ↦
                rw (lt-ltb a t.0 next, le-leb t.0 b inside, le-ltb b t.0 inside)
                (ap (λ (l : List (ℕ × LeapStep)). t ∷ l) (sym all ∙ rest))
          ]
      | inr past ↦ rw (le-ltb a t.0 past, le-ltb b t.0 (omega (arith, past, h))) rest
    ]

-- leap seconds, counted from another sample
moved_step : (n k : ℕ) (o : Option LeapStep) → map (moved n) (step_at k o) ≡ step_at (n + k) o
moved_step n k None = refl
moved_step n k (Some t) = refl

moved_steps : (n k : ℕ) (vs : List View) → map (moved n) (steps_from k vs) ≡ steps_from (n + k) vs
moved_steps n k [] = refl
moved_steps n k (v ∷ vs) =
    let place : n + (k + count_of v) ≡ n + k + count_of v = omega arith in
    rw (map-append, moved_step, moved_steps n (k + count_of v) vs, place)

-- records have one list of samples
abbrev pub HaveOneSamples : Type 0
HaveOneSamples = (vs : List View) (xs ys : List ℤ) → AreJoined vs xs → AreJoined vs ys → xs ≡ ys

-- what is known where the part's views stand among the series'
timed_at : HaveOneSamples → (s part : Trace) (place : ℕ) (views : List View) (samples : List ℤ) → IsTrace s
    → AreAt s place views samples → IsSeriesOf part views → IsTimedFrom s place part
timed_at same s part place views samples trace at series =
    let end = place + length part.samples in
    let first = (rw series.parts at at).1.1.1 in
    let left = steps_on s trace.steps place views samples at in
    let found = among_steps 0 (length s.samples) s.steps place end (omega arith) trace.steps in
    let zero : place + 0 ≡ place = omega arith in
    record {
      start = series.start ∙ first.start;
      factor = series.factor ∙ first.factor;
      multiplier = series.multiplier ∙ first.multiplier;
      steps = rw (series.steps, moved_steps, zero)
          (append_cancel_right (steps_from place views) (filter (is_among place end) s.steps) (later s.steps end)
          (sym (rw (same views samples part.samples (joined_at s place views samples at) series.samples) at left)
          ∙ found));
    }

pub timed : HeadersReadBack → PackedSpells → ((v : View) → HasOneReading v) → HaveOneSamples
    → (s part : Trace) (o : Options) (before held after : List (List ℕ)) (views : List View) (older : List ℤ)
    → IsTrace s → Fits s o → IsPacking s o (before ++ (held ++ after)) → AreViewsOf held views → IsSeriesOf part views
    → HaveSamples before older → IsTimedFrom s (length older) part
timed headers spells single same s part o before held after views older trace fits k are series ahead =
    let lies = lies_at headers spells single s o (before ++ (held ++ after)) trace fits k in
    let reads = reads_as headers spells single s o (before ++ (held ++ after)) trace fits k in
    let back = thirds s before held after views reads are in
    let is = reads.only lies.0 lies.1.0
    ∙ sym (only_views s before held after views reads are ahead.0 back.back ahead.1 back.second) in
    let behind = at_behind s 0 ahead.0 (views ++ back.back) s.samples (rw is at lies.1.1) in
    let own = at_ahead s (0 + counted ahead.0) views back.back behind.0 behind.1 in
    let place : 0 + counted ahead.0 ≡ length older = omega (arith, joined_count ahead.0 older ahead.2) in
    timed_at same s part (length older) views own.0 trace
    (subst (λ (n : ℕ). AreAt s n views own.0) place own.1) series
