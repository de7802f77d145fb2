-- What is reported of an archive is reported once, and of each channel it is the channel's findings.
use Rattle.std.proofs.Common.{◌≡◌, ℕ, ◌+◌, ◌++◌, List, [], ◌∷◌, length, Bool, true, false, cond, inl, inr}
use Rattle.std.proofs.Common.{Option, Some, None, refl, sym, ap, ◌∙◌, append_assoc, append-nil, arith}
use Rattle.std.proofs.lemmas.Bool.{cases_Bool, cases_lt}
use Rattle.std.proofs.lemmas.List.{length-map}
use Rattle.std.proofs.lemmas.List.Elements.{filter-append}
use Rattle.std.specs.List.{filter}
use Rattle.std.specs.Map.{lookup}
use Rattle.mseed_record.specs.Header.{key_at}
use Rattle.mseed_record.specs.View.{View}
use Rattle.mseed_steim.specs.Reading.{count_of}
use Rattle.mseed_stream.specs.Device.{IsPrefixOf}
use Rattle.mseed_audit.specs.declared.finding.Why.{Why}
use Rattle.mseed_audit.specs.declared.verdict.Verdict.{Verdict}
use Rattle.mseed_audit.specs.Channels.{Added, Placed, is_of_channel, numbered, records_of, same_key}
use Rattle.mseed_audit.specs.Judging.{IsFound}
use Rattle.mseed_audit.specs.Text.{reported_lines}
use Rattle.mseed_audit.specs.Reported.{Reported, AreReported, AreReportedOf, IsFoundOf, channel_in, finding_count}
use Rattle.mseed_audit.specs.Reported.{findings_in, last_of, reported_at, reported_with, none, one}
use Rattle.mseed_audit.specs.Verdict.{AreFindings, AreVerdicts, none as no_finding}
use Rattle.mseed_audit.specs.Verdict.{one as one_finding}
use Rattle.mseed_audit.proofs.Continuity.{Excludes}
use Rattle.mseed_audit.proofs.Lasts.{last_snoc}
pub use Rattle.mseed_audit.proofs.Maps.{key_of}
use Rattle.mseed_audit.proofs.Maps.{of_some, same_is, samples_of}
use Rattle.mseed_audit.proofs.More.{placed_at}
use Rattle.mseed_audit.proofs.OneVerdict.{HasOneFault, by_findings, found_one, findings_same}
use Rattle.mseed_audit.proofs.Reporting.{lines_after}

-- what is reported of a record is kept by a test of the view where the record's view passes it
pub reported_kept : (test : View → Bool) (p : Placed) (why : Option Why) (rest : List Reported) (b : Bool)
    → test p.view ≡ b → filter (λ t. test t.view) (reported_at p why ++ rest)
    ≡ cond b (reported_at p why) [] ++ filter (λ t. test t.view) rest
reported_kept test p None rest true e = refl
reported_kept test p None rest false e = refl
reported_kept test p (Some why) rest true e = rw e refl
reported_kept test p (Some why) rest false e = rw e refl

-- a record of another channel is none of this one's
pub last_without : (key : List ℕ) (p : Placed) (earlier : List Placed) → is_of_channel key p.view ≡ false
    → channel_in key (earlier ++ p ∷ []) ≡ channel_in key earlier
last_without key p earlier e = rw (filter-append, e) (append-nil (channel_in key earlier))

reported_elsewhere : (key : List ℕ) (p : Placed) (why : Option Why) (rest : List Reported) (channel : List Placed)
    → is_of_channel key p.view ≡ false → IsFoundOf channel p.view why
    → reported_with key (reported_at p why ++ rest) ≡ reported_with key rest
reported_elsewhere key p why rest channel e h = elim (cases_lt 0 (count_of p.view)) [
  | inl some ↦ reported_kept (λ v. same_key key (key_at v.bytes)) p why rest false (sym (of_some key p.view some) ∙ e)
  | inr silent ↦ rw (h.silent (omega (arith, silent))) refl
]

-- what is reported of a channel's records after another, each judged by the one just before it
pub data AreReportedIn : Option View → List Placed → List Reported → Type 0 where
  nothing_in : (before : Option View) → AreReportedIn before [] []
  one_in : (before : Option View) (p : Placed) (ps : List Placed) (why : Option Why) (reported : List Reported)
      → IsFound before p.view why
      → AreReportedIn (Some p.view) ps reported → AreReportedIn before (p ∷ ps) (reported_at p why ++ reported)

reported_channel : (key : List ℕ) (earlier ps : List Placed) (reported : List Reported)
    → AreReported earlier ps reported
    → AreReportedIn (last_of None (channel_in key earlier)) (channel_in key ps) (reported_with key reported)
reported_channel key earlier [] reported (none _) = nothing_in (last_of None (channel_in key earlier))
reported_channel key earlier (p ∷ ps) reported (one _ _ _ why rest h later) =
    let more = reported_channel key (earlier ++ p ∷ []) ps rest later in
    elim (cases_Bool (is_of_channel key p.view)) [
      | inl e ↦
          let same : key ≡ key_at p.view.bytes = same_is key (key_at p.view.bytes) (key_of key p.view e) in
          let found : IsFound (last_of None (channel_in key earlier)) p.view why =
          rw same (h.judged (samples_of key p.view e)) in
          rw (e, reported_kept (λ v. same_key key (key_at v.bytes)) p why rest true (key_of key p.view e))
          (one_in _ p _ why _ found (rw (filter-append, e, last_snoc) at more))
      | inr e ↦ rw (e, reported_elsewhere key p why rest _ e h) (rw (last_without key p earlier e) at more)
    ]

-- what is reported of a channel's records
pub channel_reported : (added : List Added) (reported : List Reported) (key : List ℕ) → AreReportedOf added reported
    → AreReportedIn None (records_of key added) (reported_with key reported)
channel_reported added reported key are = reported_channel key [] (numbered 1 added) reported are

findings_of : (before : Option View) (ps : List Placed) (reported : List Reported) → AreReportedIn before ps reported
    → AreFindings before ps (findings_in reported)
findings_of before [] reported (nothing_in _) = no_finding before
findings_of before (p ∷ ps) reported (one_in _ _ _ None rest h later) =
    one_finding before p ps None (findings_in rest) h (findings_of (Some p.view) ps rest later)
findings_of before (p ∷ ps) reported (one_in _ _ _ (Some why) rest h later) =
    one_finding before p ps (Some why) (findings_in rest) h (findings_of (Some p.view) ps rest later)

-- what is reported of a channel's records are its findings
pub channel_findings : (added : List Added) (reported : List Reported) (key : List ℕ) → AreReportedOf added reported
    → AreFindings None (records_of key added) (findings_in (reported_with key reported))
channel_findings added reported key are =
    findings_of None (records_of key added) (reported_with key reported) (channel_reported added reported key are)

reported_prefix : (earlier ps qs : List Placed) (all : List Reported) → AreReported earlier (ps ++ qs) all
    → (prefix : List Reported) × (rest : List Reported) × AreReported earlier ps prefix × (all ≡ prefix ++ rest)
reported_prefix earlier [] qs all are = ([], all, none earlier, refl)
reported_prefix earlier (p ∷ ps) qs all (one _ _ _ why rest h later) =
    let more = reported_prefix (earlier ++ p ∷ []) ps qs rest later in
    let same = ap (λ (ts : List Reported). reported_at p why ++ ts) more.3
    ∙ sym (append_assoc (reported_at p why) _ _) in
    (reported_at p why ++ more.0, more.1, one earlier p ps why more.0 h more.2, same)

numbered_prefix : (n : ℕ) (xs ys : List Added) → (rest : List Placed) × (numbered n (xs ++ ys) ≡ numbered n xs ++ rest)
numbered_prefix n [] ys = (numbered n ys, refl)
numbered_prefix n (x ∷ xs) ys =
    let more = numbered_prefix (n + 1) xs ys in (more.0, ap (λ (ps : List Placed). placed_at x n ∷ ps) more.1)

module _ (only : HasOneFault) (excludes : Excludes) where
  of_one : (channel : List Placed) (v : View) {a b : Option Why} → IsFoundOf channel v a → IsFoundOf channel v b
      → a ≡ b
  of_one channel v h k = elim (cases_lt 0 (count_of v)) [
    | inl some ↦ found_one only excludes (last_of None channel) v (h.judged some) (k.judged some)
    | inr silent ↦ h.silent (omega (arith, silent)) ∙ sym (k.silent (omega (arith, silent)))
  ]

  pub reported_one : (earlier ps : List Placed) (a b : List Reported) → AreReported earlier ps a
      → AreReported earlier ps b → a ≡ b
  reported_one earlier [] a b (none _) (none _) = refl
  reported_one earlier (p ∷ ps) a b (one _ _ _ why rest h later) (one _ _ _ other others k latter) =
      λ i. reported_at p (of_one (channel_in (key_at p.view.bytes) earlier) p.view h k i)
      ++ reported_one (earlier ++ p ∷ []) ps rest others later latter i

  -- a channel has as many findings as are reported with its key
  pub channel_count : (added : List Added) (reported : List Reported) (verdicts : List (List ℕ × Verdict))
      (key : List ℕ) → AreReportedOf added reported → AreVerdicts added verdicts
      → finding_count (lookup (same_key key) verdicts) ≡ length (reported_with key reported)
  channel_count added reported verdicts key are is =
      let by = by_findings (lookup (same_key key) verdicts) (records_of key added) (is.each key) in
      let same : by.0 ≡ findings_in (reported_with key reported) =
      findings_same only excludes None (records_of key added) by.1 (channel_findings added reported key are) in
      by.3 ∙ ap length same ∙ length-map (reported_with key reported) (λ t. t.finding)

  -- the lines of an archive's first records are the first of its lines
  pub lines_prefix : (added more : List Added) (reported all : List Reported) → AreReportedOf added reported
      → AreReportedOf (added ++ more) all → IsPrefixOf (reported_lines reported) (reported_lines all)
  lines_prefix added more reported all first whole =
      let numbers = numbered_prefix 1 added more in
      let parts = reported_prefix [] (numbered 1 added) numbers.0 all (rw numbers.1 at whole) in
      let same = reported_one [] (numbered 1 added) parts.0 reported parts.2 first in
      (reported_lines parts.1, rw (← same) (ap reported_lines parts.3 ∙ lines_after parts.0 parts.1))
