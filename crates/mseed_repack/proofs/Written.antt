-- The channels of what was written when an archive was packed anew.
use Rattle.mseed_pack.proofs.Called.{ExactVerdicts}
use Rattle.std.proofs.Common.{arith}
use Rattle.std.proofs.Common.{◌≡◌, ◌≢◌, ◌⊎◌, inl, inr, ℕ, List, [], ◌∷◌, length, map, Bool, true, false, Option}
use Rattle.std.proofs.Common.{Some, None, IsSome, unwrap_or, refl, sym, ap, subst, ◌∙◌}
use Rattle.std.specs.List.{AllByRecursion}
use Rattle.std.specs.Map.{lookup, keys_of}
use Rattle.std.specs.Ordering.{nat_cmp}
use Rattle.std.specs.Cmp.Lexicographic.{slice_cmp}
use Rattle.std.specs.List.Sorted.{IsStrictlySortedBy}
use Rattle.std.proofs.lemmas.Bool.{false≢true}
use Rattle.std.proofs.lemmas.Map.Entries.{lookup_head, lookup_tail}
use Rattle.mseed_time.specs.declared.fault.TimeFault.{TimeFault}
use Rattle.mseed_time.specs.declared.rate.Rate.{Rate}
use Rattle.mseed_time.specs.Rate.{Ratio}
use Rattle.mseed_time.specs.Ratios.{ratio_of}
use Rattle.mseed_record.specs.Header.{factor_at, multiplier_at}
use Rattle.mseed_record.specs.View.{View, start_of}
use Rattle.mseed_audit.specs.declared.verdict.Verdict.{Verdict}
use Rattle.mseed_audit.specs.declared.verdict.Verdict.TheVariants.{Continuous}
use Rattle.mseed_audit.specs.Channels.{Added, Placed, added_from, records_of, sample_count, same_key, views_in}
use Rattle.mseed_audit.specs.Follows.{AllNeighbours, Follows, IsContinuous, IsSound}
use Rattle.mseed_audit.specs.Judging.{known_rate, rate_unless, why_after, why_from, IsFound}
use Rattle.mseed_audit.specs.Judging.{after as by_after}
use Rattle.mseed_audit.specs.Series.{Trace, IsSeriesOf}
use Rattle.mseed_audit.specs.Verdict.{AreFindings, AreVerdicts, IsExactAt, IsVerdict, IsVerdictAt, none, one}
use Rattle.mseed_audit.proofs.Between.{between_none}
use Rattle.mseed_audit.proofs.Maps.{same_is, same_itself}
use Rattle.mseed_pack.specs.ReadBack.{Packed}
use Rattle.mseed_repack.proofs.Joining.{rate_there}
use Rattle.mseed_repack.specs.Repack.{Channel, records_in}

-- Nothing is found of a continuous channel.

-- a record that follows the one before it
after_none : (b v : View) → (h : Follows b v) → why_after (Some b) v h.1.0 ≡ None
after_none b v h = ap (λ (r : Option Ratio). why_from b r v h.1.0) h.1.1.before_is ∙ between_none b v h.0 h.1.0 h.1.1

found_after : (b v : View) → IsSound v → Follows b v → IsFound (Some b) v None
found_after b v sound h = rw (sym (after_none b v h)) (by_after h.1.0 h.1.1.next_is sound.samples sound.whole)

found_first : (v : View) → IsSound v → IsFound None v None
found_first v sound = let rate = rate_there (known_rate v) sound.timed in
    by_after rate.0 rate.1 sound.samples sound.whole

none_after : (b : View) (ps : List Placed) → AllByRecursion IsSound (views_in ps)
    → AllNeighbours Follows (b ∷ views_in ps) → AreFindings (Some b) ps []
none_after b [] each follow = none (Some b)
none_after b (p ∷ ps) each follow =
    one (Some b) p ps None [] (found_after b p.view each.0 follow.0) (none_after p.view ps each.1 follow.1)

-- a rate that is known is the one that the factor and the multiplier give
known_as : (fault : Option TimeFault) (rate : Option Ratio) (other : Ratio) → IsSome (rate_unless fault rate)
    → rate_unless fault rate ≡ Some (unwrap_or rate other)
known_as fault rate other h = grind (arith, false≢true)

pub rate_as : (v : View) (rate : Rate) → IsSound v → rate.factor ≡ factor_at v.order v.bytes
    → rate.multiplier ≡ multiplier_at v.order v.bytes → known_rate v ≡ Some (ratio_of rate)
rate_as v rate h h2 h3 = grind (arith, known_as)

-- the verdict on a continuous channel, by its series
verdict_of : (s : Trace) (ps : List Placed) → IsContinuous (views_in ps) → IsSeriesOf s (views_in ps)
    → IsVerdict (Continuous s.start (ratio_of s.rate) (length ps) (sample_count ps)) ps
verdict_of s [] continuous series = absurd (continuous.some refl)
verdict_of s (p ∷ ps) continuous series =
    let same : p.view ≡ series.first = cc (series.parts) in (
      p,
      (
        ps,
        (
          refl,
          record {
            findings = one None p ps None [] (found_first p.view continuous.each.0)
                (none_after p.view ps continuous.each.1 continuous.follow);
            start_is = series.start ∙ ap start_of (sym same);
            rate_is = rate_as p.view s.rate continuous.each.0
                (series.factor ∙ ap (λ (v : View). factor_at v.order v.bytes) (sym same))
                (series.multiplier ∙ ap (λ (v : View). multiplier_at v.order v.bytes) (sym same));
            records_is = refl;
            samples_is = refl;
          },
        ),
      ),
    )

-- The verdicts on some channels, each continuous and of one series.

pub record IsWritten (written : List View) (p : Packed) : Type 0 where
  pub continuous : IsContinuous (records_in written p.series.codes)
  pub series : IsSeriesOf p.series (records_in written p.series.codes)

abbrev pub entry : List View → Packed → Channel
entry written p = (
  p.series.codes,
  Continuous p.series.start (ratio_of p.series.rate) (length (records_of p.series.codes (added_from 0 written)))
      (sample_count (records_of p.series.codes (added_from 0 written))),
)

abbrev pub entries : List View → List Packed → List Channel
entries written packed = map (entry written) packed

abbrev pub codes_of : List Packed → List (List ℕ)
codes_of packed = map (λ (p : Packed). p.series.codes) packed

pub entry_keys : (written : List View) (packed : List Packed) → keys_of (entries written packed) ≡ codes_of packed
entry_keys written [] = refl
entry_keys written (p ∷ ps) = ap (λ (ks : List (List ℕ)). p.series.codes ∷ ks) (entry_keys written ps)

-- a key is another one where the two don't compare equal
other_key : (key code : List ℕ) → same_key key code ≡ false → code ≢ key
other_key key code e same = false≢true (sym e ∙ ap (λ (k : List ℕ). same_key key k) same ∙ same_itself key)

pub unlike : (key code : List ℕ) → code ≢ key → same_key key code ≡ false
unlike key code other = by (same_key key code) refl
  where
    by : (b : Bool) → same_key key code ≡ b → same_key key code ≡ false
    by true e = absurd (other (sym (same_is key code e)))
    by false e = e

abbrev pub Others : List ℕ → List Packed → Type 0
Others key packed = AllByRecursion (λ (p : Packed). p.series.codes ≢ key) packed

-- where no channel has a key, no record has it
abbrev pub HasNoOthers : List View → List Packed → Type 0
HasNoOthers written packed = (key : List ℕ) → Others key packed → records_of key (added_from 0 written) ≡ []

verdict_at : (written : List View) (key : List ℕ) (packed : List Packed) → AllByRecursion (IsWritten written) packed
    → (Others key packed → records_of key (added_from 0 written) ≡ [])
    → IsVerdictAt (lookup (same_key key) (entries written packed)) (records_of key (added_from 0 written))
verdict_at written key [] each gone = gone tt
verdict_at written key (p ∷ ps) each gone =
    by (same_key key p.series.codes) refl (λ rest. verdict_at written key ps each.1 rest)
  where
    added : List Added
    added = added_from 0 written

    by : (b : Bool) → same_key key p.series.codes ≡ b → ((Others key ps → records_of key added ≡ [])
        → IsVerdictAt (lookup (same_key key) (entries written ps)) (records_of key added))
        → IsVerdictAt (lookup (same_key key) (entry written p ∷ entries written ps)) (records_of key added)
    by true e later =
        let own : IsVerdict (entry written p).1 (records_of p.series.codes added) =
        verdict_of p.series (records_of p.series.codes added) each.0.continuous each.0.series in
        subst (λ (o : Option Verdict). IsVerdictAt o (records_of key added))
        (sym (lookup_head (same_key key) (entry written p) (entries written ps) e))
        (rw (same_is key p.series.codes e) own)
    by false e later = subst (λ (o : Option Verdict). IsVerdictAt o (records_of key added))
        (sym (lookup_tail (same_key key) (entry written p) (entries written ps) e))
        (later (λ rest. gone (other_key key p.series.codes e, rest)))

exact_at : ExactVerdicts → (o : Option Verdict) (ps : List Placed) → IsVerdictAt o ps → IsExactAt o ps
exact_at h o ps h2 = grind (arith)

pub are_verdicts : ExactVerdicts → (written : List View) (packed : List Packed)
    → IsStrictlySortedBy (slice_cmp nat_cmp) (codes_of packed) → AllByRecursion (IsWritten written) packed
    → HasNoOthers written packed
    → AreVerdicts (added_from 0 written) (entries written packed)
are_verdicts h written packed h2 h3 h4 = grind (arith, verdict_at, entry_keys, exact_at)

-- of a key, either a channel has it or none has
pub either_key : (key : List ℕ) (packed : List Packed) (P : Packed → Type 0) → AllByRecursion P packed
    → ((p : Packed) × (P p × (p.series.codes ≡ key))) ⊎ Others key packed
either_key key [] P each = inr tt
either_key key (p ∷ ps) P each = by (same_key key p.series.codes) refl (either_key key ps P each.1)
  where
    by : (b : Bool) → same_key key p.series.codes ≡ b → ((q : Packed) × (P q × (q.series.codes ≡ key))) ⊎ Others key ps
        → ((q : Packed) × (P q × (q.series.codes ≡ key))) ⊎ Others key (p ∷ ps)
    by true e later = inl (p, (each.0, sym (same_is key p.series.codes e)))
    by false e (inl found) = inl found
    by false e (inr rest) = inr (other_key key p.series.codes e, rest)

-- and none of the audit's channels has it then
pub not_there : (key : List ℕ) (packed : List Packed) (cs : List Channel) → codes_of packed ≡ keys_of cs
    → Others key packed → lookup (same_key key) cs ≡ None
not_there key [] [] e others = refl
not_there key (p ∷ ps) (c ∷ cs) e others =
    let first : p.series.codes ≡ c.0 = cc in
    let rest : codes_of ps ≡ keys_of cs = cc in
    let unequal : same_key key c.0 ≡ false = unlike key c.0 (λ same. others.0 (first ∙ same)) in
    lookup_tail (same_key key) c cs unequal ∙ not_there key ps cs rest others.1
not_there key packed cs e others = cc
