-- Without a window, what the audit of the records that are asked for says of a channel is what the audit of all says.
use Rattle.std.proofs.Common.{◌≡◌, ℕ, ◌++◌, List, [], ◌∷◌, Bool, true, false, Option, None, if◌then◌else◌, cond}
use Rattle.std.proofs.Common.{refl, sym, ap, ◌∙◌, arith, inl, inr}
use Rattle.std.proofs.lemmas.Bool.{cases_Bool}
use Rattle.std.proofs.lemmas.List.Elements.{filter-append}
use Rattle.std.proofs.lemmas.List.Kept.{IsStrictlySortedBy-filter}
use Rattle.std.proofs.lemmas.Map.Entries.{lookup-filter-keys}
use Rattle.std.specs.Cmp.Lexicographic.{slice_cmp}
use Rattle.std.specs.List.{filter}
use Rattle.std.specs.Map.{keys_of, lookup}
use Rattle.std.specs.Ordering.{nat_cmp}
use Rattle.mseed_record.specs.Header.{key_at}
use Rattle.mseed_record.specs.View.{View}
use Rattle.mseed_record.specs.Pattern.{is_of_channels}
use Rattle.mseed_record.specs.Selection.{Selection, asks_for, is_asked}
use Rattle.mseed_record.specs.declared.answer.Answer.TheVariants.{AskedFor, Left}
use Rattle.mseed_stream.specs.Device.{BytesRead}
use Rattle.mseed_audit.specs.declared.verdict.Verdict.{Verdict}
use Rattle.mseed_audit.specs.Channels.{Placed, channel_in, is_of_channel, same_key}
use Rattle.mseed_audit.specs.Each.{AuditedEach, AuditedEachIn}
use Rattle.mseed_audit.specs.Reported.{AreReported, Reported, none, one}
use Rattle.mseed_audit.specs.Scope.{HasNoWindow, asked, placed_of}
use Rattle.mseed_audit.specs.Summary.{Audited, AuditedIn}
use Rattle.mseed_audit.specs.Verdict.{IsVerdictAt}
use Rattle.mseed_audit.proofs.Alike.{one_list}
use Rattle.mseed_audit.proofs.Continuity.{Excludes}
use Rattle.mseed_audit.proofs.Maps.{key_of, same_is}
use Rattle.mseed_audit.proofs.OneAudit.{HasOneInput}
use Rattle.mseed_audit.proofs.OneReport.{last_without, reported_kept, reported_one}
use Rattle.mseed_audit.proofs.OneVerdict.{HasOneFault, verdict_at}

-- of those that pass a test, those that pass another, where the one goes by the other
filtered : (p test : Placed → Bool) (b : Bool) → ((x : Placed) → p x ≡ true → test x ≡ b) → (ps : List Placed)
    → filter p (filter test ps) ≡ cond b (filter p ps) []
filtered p test true by [] = refl
filtered p test false by [] = refl
filtered p test b by (x ∷ ps) = grind (arith, filtered p test b by ps, by x)

by_match : (b : Bool) → is_asked (if b then AskedFor else Left) ≡ b
by_match true = refl
by_match false = refl

-- where nothing is there
verdict_where : (b : Bool) (o : Option Verdict) (ps : List Placed) → IsVerdictAt o ps
    → IsVerdictAt (cond b o None) (cond b ps [])
verdict_where true o ps is = is
verdict_where false o ps is = refl

module _ (s : Selection) (free : HasNoWindow s) where
  abbrev matching : List ℕ → Bool
  matching key = is_of_channels s.channels key

  -- a record is asked for by its channel alone
  asks_so : (v : View) → asks_for s v ≡ matching (key_at v.bytes)
  asks_so v = rw (free.0, free.1) (by_match (matching (key_at v.bytes)))

  asks_of : (key : List ℕ) (v : View) → is_of_channel key v ≡ true → asks_for s v ≡ matching key
  asks_of key v e = asks_so v ∙ ap matching (sym (same_is key (key_at v.bytes) (key_of key v e)))

  abbrev wanted : List Placed → List Placed
  wanted ps = filter (λ p. asks_for s p.view) ps

  -- ---- the verdicts
  abbrev those : List (List ℕ × Verdict) → List (List ℕ × Verdict)
  those es = filter (λ e. matching e.0) es

  keys_those : (es : List (List ℕ × Verdict)) → keys_of (those es) ≡ filter (λ key. matching key) (keys_of es)
  keys_those [] = refl
  keys_those (e ∷ es) = grind (arith, keys_those es)

  pub verdicts_alike : HasOneFault → Excludes → HasOneInput → (h : BytesRead) (a : AuditedIn (asked s) h)
      (b : Audited h) → a.verdicts ≡ those b.verdicts
  verdicts_alike only excludes input h a b =
      let views = (input h a.views b.views a.end b.end a.all b.all).0 in
      one_list a.verdicts (those b.verdicts) a.are_verdicts.ascending
      (rw (keys_those b.verdicts) (IsStrictlySortedBy-filter (slice_cmp nat_cmp) (λ key. matching key)
      (keys_of b.verdicts) b.are_verdicts.ascending))
      (λ key.
      let found : Option Verdict = lookup (same_key key) b.verdicts in
      let ps : List Placed = channel_in key (placed_of b.views) in
      let those_found = lookup-filter-keys (same_key key) (λ k. matching k) (matching key)
      (λ k e. ap matching (sym (same_is key k e))) b.verdicts in
      let those_of = filtered (λ p. is_of_channel key p.view) (λ p. asks_for s p.view) (matching key)
      (λ p. asks_of key p.view) (placed_of b.views) in
      verdict_at only excludes (lookup (same_key key) a.verdicts) (cond (matching key) found None)
      (cond (matching key) ps []) (rw (views, those_of) at (a.are_verdicts.each key))
      (verdict_where (matching key) found ps (b.are_verdicts.each key)) ∙ sym those_found)

  -- ---- what is reported
  abbrev chosen : List Reported → List Reported
  chosen ts = filter (λ t. matching (key_at t.view.bytes)) ts

  -- before a record, each channel that is asked for has the same records in both
  abbrev AreAlike : List Placed → List Placed → Type 0
  AreAlike some all = (key : List ℕ) → matching key ≡ true → channel_in key some ≡ channel_in key all

  alike_past : (some all : List Placed) (p : Placed) → asks_for s p.view ≡ false → AreAlike some all
      → AreAlike some (all ++ p ∷ [])
  alike_past some all p e alike key m = elim (cases_Bool (is_of_channel key p.view)) [
    | inl of ↦ absurd (let same = asks_of key p.view of in cc)
    | inr other ↦ rw (last_without key p all other) (alike key m)
  ]

  chosen_are : (some all ps : List Placed) (ts : List Reported) → AreAlike some all → AreReported all ps ts
      → AreReported some (wanted ps) (chosen ts)
  chosen_are some all [] ts alike (none _) = none some
  chosen_are some all (p ∷ ps) ts alike (one _ _ _ why rest h later) =
      let kept = reported_kept (λ v. matching (key_at v.bytes)) p why rest in
      let asked = asks_so p.view in elim (cases_Bool (asks_for s p.view)) [
        | inl e ↦
            let more : AreAlike (some ++ p ∷ []) (all ++ p ∷ []) =
            λ key m. rw (filter-append, filter-append, alike key m) refl in
            rw (e, kept true (sym asked ∙ e)) (one some p (wanted ps) why (chosen rest)
            (rw (alike (key_at p.view.bytes) (sym asked ∙ e)) h)
            (chosen_are (some ++ p ∷ []) (all ++ p ∷ []) ps rest more later))
        | inr e ↦ rw (e, kept false (sym asked ∙ e))
            (chosen_are some (all ++ p ∷ []) ps rest (alike_past some all p e alike) later)
      ]

  pub reported_alike : HasOneFault → Excludes → HasOneInput → (h : BytesRead) (a : AuditedEachIn (asked s) h)
      (b : AuditedEach h) → a.reported ≡ chosen b.reported
  reported_alike only excludes input h a b =
      let views = (input h a.audited.views b.audited.views a.audited.end b.audited.end a.audited.all
      b.audited.all).0 in
      reported_one only excludes [] (wanted (placed_of b.audited.views)) a.reported (chosen b.reported)
      (rw views at a.are_reported)
      (chosen_are [] [] (placed_of b.audited.views) b.reported (λ key m. refl) b.are_reported)
