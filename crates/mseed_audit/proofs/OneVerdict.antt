-- Records have one verdict at most.
use Rattle.std.proofs.Common.{◌≡◌, ◌≢◌, ◌∙◌, ℕ, pos, List, [], ◌∷◌, ◌++◌, length, Option, Some, None, refl, ap, sym}
use Rattle.std.specs.Map.{lookup}
use Rattle.std.specs.Option.{option_map}
use mathlib.Core.HLevel.{is_prop→PathP}
use Rattle.mseed_time.specs.declared.rate.Rate.{Rate}
use Rattle.mseed_record.specs.View.{View, start_of}
use Rattle.mseed_steim.specs.declared.fault.ReadFault.{ReadFault}
use Rattle.mseed_steim.specs.Reading.{IsFault}
use Rattle.mseed_audit.specs.declared.finding.Why.{Why}
use Rattle.mseed_audit.specs.declared.finding.Finding.{Finding}
use Rattle.mseed_audit.specs.declared.verdict.Verdict.{Verdict}
use Rattle.mseed_audit.specs.declared.verdict.Verdict.TheVariants.{Continuous, Broken}
use Rattle.mseed_audit.specs.Channels.{Placed, channel_in, same_key, sample_count}
use Rattle.mseed_audit.specs.Judging.{known_rate, IsFound, time as by_time, rate as by_rate, read as by_read}
use Rattle.mseed_audit.specs.Judging.{after as by_after}
use Rattle.mseed_audit.specs.Reported.{finding_count}
use Rattle.mseed_audit.specs.Verdict.{finding_at, AreFindings, AreVerdictsAmong, IsVerdict, IsVerdictAt, none, one}
use Rattle.mseed_audit.proofs.Alike.{one_list}
use Rattle.mseed_audit.proofs.Judged.{unknown_timed, known_timed}
use Rattle.mseed_audit.proofs.Continuity.{Excludes}

-- no record has two faults
abbrev pub HasOneFault : Type 0
HasOneFault = (v : View) (f g : ReadFault) → IsFault v f → IsFault v g → f ≡ g

-- a rate is its factor and its multiplier
pub same_rate : (a b : Rate) → a.factor ≡ b.factor → a.multiplier ≡ b.multiplier → a ≡ b
same_rate a b e h = λ i. record {
  factor = e i;
  multiplier = h i;
  factor_counts = is_prop→PathP (λ j. e j ≢ pos 0) (λ j. hlevel) a.factor_counts b.factor_counts i;
  multiplier_counts = is_prop→PathP (λ j. h j ≢ pos 0) (λ j. hlevel) a.multiplier_counts b.multiplier_counts i;
}

-- the verdict on records with these findings
abbrev verdict_on : List Finding → List Placed → Option Verdict
verdict_on (f ∷ fs) ps = Some (Broken f (length (f ∷ fs)))
verdict_on [] [] = None
verdict_on [] (p ∷ ps) =
    option_map (λ rate. Continuous (start_of p.view) rate (length (p ∷ ps)) (sample_count (p ∷ ps))) (known_rate p.view)

-- a verdict, or none, is by the findings of the records, and has as many
pub by_findings : (o : Option Verdict) (ps : List Placed) → IsVerdictAt o ps
    → (found : List Finding) × AreFindings None ps found × (o ≡ verdict_on found ps) × (finding_count o ≡ length found)
by_findings None ps e = ([], rw e (none None), rw e refl, refl)
by_findings (Some (Continuous start rate records samples)) ps (first, (rest, (e, run))) =
    ([], rw e run.findings, rw (e, run.rate_is, run.start_is, run.records_is, run.samples_is) refl, refl)
by_findings (Some (Broken first count)) ps (rest, (are, e)) = (first ∷ rest, are, rw e refl, e)

module _ (only : HasOneFault) (excludes : Excludes) where
  pub found_one : (before : Option View) (v : View) {a b : Option Why} → IsFound before v a → IsFound before v b
      → a ≡ b
  found_one before v (by_time f e) (by_time g h) = cc (e, h)
  found_one before v (by_time f e) (by_rate h r) = cc (e, h)
  found_one before v (by_time f e) (by_read next known g h) = cc (unknown_timed v f e, known)
  found_one before v (by_time f e) (by_after next known samples whole) = cc (unknown_timed v f e, known)
  found_one before v (by_rate e r) (by_time g h) = cc (e, h)
  found_one before v (by_rate e r) (by_rate h k) = refl
  found_one before v (by_rate e r) (by_read next known g h) = cc (known_timed v None e r, known)
  found_one before v (by_rate e r) (by_after next known samples whole) = cc (known_timed v None e r, known)
  found_one before v (by_read next known f e) (by_time g h) = cc (unknown_timed v g h, known)
  found_one before v (by_read next known f e) (by_rate h r) = cc (known_timed v None h r, known)
  found_one before v (by_read next known f e) (by_read other same g h) = cc (only v f g e h)
  found_one before v (by_read next known f e) (by_after other same samples whole) =
      absurd (excludes v f samples e whole)
  found_one before v (by_after next known samples whole) (by_time g h) = cc (unknown_timed v g h, known)
  found_one before v (by_after next known samples whole) (by_rate h r) = cc (known_timed v None h r, known)
  found_one before v (by_after next known samples whole) (by_read other same g h) =
      absurd (excludes v g samples h whole)
  found_one before v (by_after next known samples whole) (by_after other same others all) = cc (known, same)

  pub findings_same : (before : Option View) (ps : List Placed) {a b : List Finding} → AreFindings before ps a
      → AreFindings before ps b → a ≡ b
  findings_same before [] (none _) (none _) = refl
  findings_same before (p ∷ ps) (one _ _ _ why rest h later) (one _ _ _ other others k latter) =
      λ i. finding_at p (found_one before p.view h k i) ++ findings_same (Some p.view) ps later latter i

  pub verdict_at : (a b : Option Verdict) (ps : List Placed) → IsVerdictAt a ps → IsVerdictAt b ps → a ≡ b
  verdict_at a b ps h k =
      let one = by_findings a ps h in
      let other = by_findings b ps k in
      one.2 ∙ ap (λ (found : List Finding). verdict_on found ps) (findings_same None ps one.1 other.1) ∙ sym other.2

  -- an archive has one list of verdicts at most
  pub verdicts_one : (ps : List Placed) (vs ws : List (List ℕ × Verdict)) → AreVerdictsAmong ps vs
      → AreVerdictsAmong ps ws → vs ≡ ws
  verdicts_one ps vs ws h k = one_list vs ws h.ascending k.ascending
      (λ key. verdict_at (lookup (same_key key) vs) (lookup (same_key key) ws) (channel_in key ps) (h.each key)
      (k.each key))

  pub verdict_one : (v w : Verdict) (ps : List Placed) → IsVerdict v ps → IsVerdict w ps → v ≡ w
  verdict_one v w ps h k = cc (verdict_at (Some v) (Some w) ps h k)
