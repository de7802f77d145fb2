-- What is kept of a channel, with one more record, and the verdicts on what is kept.
use Rattle.std.proofs.Common.{◌≡◌, ℕ, ◌+◌, length, List, [], ◌∷◌, ◌++◌, Option, Some, None, refl, ap, ◌∙◌}
use Rattle.std.proofs.Common.{append_assoc, arith, ◌↔◌, IsTrue, map}
use Rattle.std.proofs.lemmas.List.{append-nil, length-append}
use Rattle.mseed_record.specs.View.{View}
use Rattle.mseed_steim.specs.Reading.{count_of}
use Rattle.mseed_audit.specs.declared.tail.Tail.{Tail}
use Rattle.mseed_audit.specs.declared.finding.Why.{Why}
use Rattle.mseed_audit.specs.declared.finding.Finding.{Finding}
use Rattle.mseed_audit.specs.declared.channel.Channel.{Channel}
use Rattle.mseed_audit.specs.declared.channel.Findings.{Findings}
use Rattle.mseed_audit.specs.declared.channel.Findings.TheVariants.{Nothing, Counted}
use Rattle.mseed_audit.specs.declared.channel.Judged.{Judged}
use Rattle.mseed_audit.specs.declared.channel.Judged.TheVariants.{Sound, Faulty}
use Rattle.mseed_audit.specs.Channels.{Placed, sample_count, Added, channel_in, numbered, same_key, views_in}
use Rattle.mseed_audit.specs.Judging.{IsFound}
use Rattle.mseed_audit.specs.Audit.{AreCounted, IsHeadOf, IsTailOf, Stands, head_in, tail_in, verdict_by, verdict_of}
use Rattle.mseed_audit.specs.Audit.{AreChannels, Held, StandsAt, IsAuditAmong}
use Rattle.mseed_audit.specs.private.ChannelState.{IsTailBefore, TakesIn, end_in, why_in, with_judged}
use Rattle.mseed_audit.specs.Reported.{last_of}
use Rattle.mseed_audit.specs.Verdict.{finding_at, AreFindings, IsRun, IsVerdict, none, one, IsVerdictAt, IsExactAt}
use Rattle.mseed_audit.specs.Verdict.{says_continuous, AreVerdicts, AreVerdictsAmong}
use Rattle.mseed_audit.proofs.Lasts.{last_snoc}
use Rattle.std.specs.Map.{lookup, keys_of}
use Rattle.std.specs.Option.{option_map}
use Rattle.std.specs.Ordering.{nat_cmp}
use Rattle.std.specs.Cmp.Lexicographic.{slice_cmp}
use Rattle.std.specs.List.Sorted.{IsStrictlySortedBy}
use Rattle.mseed_audit.specs.declared.verdict.Verdict.{Verdict}
use Rattle.mseed_audit.specs.Follows.{IsContinuous}
use Rattle.std.proofs.lemmas.Map.Made.{keys_of-map_values, lookup-map_values}

-- with one more record
findings_more : (before : Option View) (ps : List Placed) (p : Placed) (why : Option Why) (found : List Finding)
    → AreFindings before ps found → IsFound (last_of before ps) p.view why
    → AreFindings before (ps ++ p ∷ []) (found ++ finding_at p why)
findings_more before [] p why found (none _) k =
    rw (← append-nil (finding_at p why)) (one before p [] why [] k (none (Some p.view)))
findings_more before (q ∷ ps) p why found (one _ _ _ first rest h later) k =
    rw append_assoc (one before q (ps ++ p ∷ []) first (rest ++ finding_at p why) h
    (findings_more (Some q.view) ps p why rest later k))

samples_more : (ps : List Placed) (p : Placed) → sample_count (ps ++ p ∷ []) ≡ sample_count ps + count_of p.view
samples_more [] p = omega arith
samples_more (q ∷ ps) p = omega (arith, samples_more ps p)

-- a further record that was judged
judged_head : (findings : Findings) (p : Placed) (j : Judged) → head_in (with_judged findings p j) ≡ head_in findings
judged_head findings p j = search (arith)

judged_tail : (findings : Findings) (p : Placed) (j : Judged) → tail_in (with_judged findings p j) ≡ end_in j
judged_tail findings p j = search (arith)

judged_counted : (findings : Findings) (p : Placed) (j : Judged) (found : List Finding) → AreCounted findings found
    → AreCounted (with_judged findings p j) (found ++ finding_at p (why_in j))
judged_counted (Nothing head tail) p (Sound end) found h = rw (h) refl
judged_counted (Counted count first head tail) p (Sound end) found h = rw append-nil h
judged_counted (Nothing head tail) p (Faulty why end) found h = rw h ([], (refl, refl))
judged_counted (Counted count first head tail) p (Faulty why end) found h =
    rw h.1.0 (h.0 ++ finding_at p (Some why), (refl, simp length-append (omega (arith, h.1.1, ap length h.1.0))))

-- a channel of one record
pub one_stands : (c : Channel) (p : Placed) (why : Option Why) → IsFound None p.view why → c.records ≡ 1
    → c.samples ≡ count_of p.view → IsHeadOf (head_in c.findings) p → IsTailOf (tail_in c.findings) p.view
    → AreCounted c.findings (finding_at p why ++ []) → Stands c (p ∷ [])
one_stands c p why is records samples head tail counted = record {
  records = records;
  samples = omega (arith, samples);
  first = p;
  rest = [];
  begins = refl;
  head = head;
  prefix = [];
  last = p;
  ends = refl;
  tail = tail;
  found = finding_at p why ++ [];
  are_found = one None p [] why [] is (none (Some p.view));
  counted = counted;
}

-- what was kept of the last record is what is kept of the one before the next
tail_before : (t : Option Tail) (v : View) → IsTailOf t v → IsTailBefore t (Some v)
tail_before None v h = h
tail_before (Some t) v h = h

-- a channel with a further record that was judged by what is kept of the one before it
pub takes_in : (c : Channel) (p : Placed) (j : Judged) (samples : ℕ) (findings : Findings)
    → ((b : Option View) → IsTailBefore (tail_in c.findings) b → IsFound b p.view (why_in j))
    → IsTailOf (end_in j) p.view → samples ≡ count_of p.view → findings ≡ with_judged c.findings p j
    → TakesIn c (record { records = c.records + 1; samples = c.samples + samples; findings = findings }) p (why_in j)
takes_in c p j samples findings judged end many is =
    let found : (ps : List Placed) → Stands c ps → IsFound (last_of None ps) p.view (why_in j) =
    λ ps s. rw (s.ends, last_snoc None s.prefix s.last)
    (judged (Some s.last.view) (tail_before (tail_in c.findings) s.last.view s.tail)) in record {
      stands = λ ps s. record {
        records = omega (arith, s.records, length-append ps (p ∷ []));
        samples = omega (arith, many, s.samples, samples_more ps p);
        first = s.first;
        rest = s.rest ++ p ∷ [];
        begins = ap (λ (qs : List Placed). qs ++ p ∷ []) s.begins;
        head = rw (is, judged_head c.findings p j) s.head;
        prefix = ps;
        last = p;
        ends = refl;
        tail = rw (is, judged_tail c.findings p j) end;
        found = s.found ++ finding_at p (why_in j);
        are_found = findings_more None ps p (why_in j) s.found s.are_found (found ps s);
        counted = rw is (judged_counted c.findings p j s.found s.counted);
      };
      found = found;
    }

-- the verdict on a channel is that on its records
pub stands_verdict : (c : Channel) (ps : List Placed) → Stands c ps → IsVerdict (verdict_of c) ps
stands_verdict c ps s =
    elim c.findings as (λ f. IsHeadOf (head_in f) s.first → AreCounted f s.found
    → IsVerdict (verdict_by f c.records c.samples) ps) [
      | Nothing head tail ↦ λ is none.
          let run : IsRun s.first s.rest head.start head.rate c.records c.samples = record {
            findings = rw (s.begins, none) at s.are_found;
            start_is = is.start;
            rate_is = is.rate;
            records_is = s.records ∙ ap length s.begins;
            samples_is = s.samples ∙ ap sample_count s.begins;
          } in
          (s.first, (s.rest, (s.begins, run)))
      | Counted count first head tail ↦ λ is counted.
          (counted.0, (rw counted.1.0 at s.are_found, counted.1.1 ∙ ap length counted.1.0))
    ] s.head s.counted

-- ---- what is kept of the channels, as their verdicts
verdict_at : (o : Option Channel) (ps : List Placed) → StandsAt o ps → IsVerdictAt (option_map verdict_of o) ps
verdict_at None ps s = s
verdict_at (Some c) ps s = stands_verdict c ps s

-- each verdict says that its channel is continuous exactly where it is
abbrev pub AreExact : Type 0
AreExact = (verdict : Verdict) (ps : List Placed) → IsVerdict verdict ps
    → (IsTrue (says_continuous verdict) ↔ IsContinuous (views_in ps))

pub exact_at : AreExact → (o : Option Verdict) (ps : List Placed) → IsVerdictAt o ps → IsExactAt o ps
exact_at exact None ps is = tt
exact_at exact (Some verdict) ps is = exact verdict ps is

pub finished : AreExact → (h : Held) (ps : List Placed) (count : ℕ) (verdicts : List (List ℕ × Verdict))
    → IsStrictlySortedBy (slice_cmp nat_cmp) (keys_of verdicts)
    → ((key : List ℕ) → lookup (same_key key) verdicts ≡ option_map verdict_of (lookup (same_key key) h.channels))
    → IsAuditAmong h ps count → AreVerdictsAmong ps verdicts
finished exact h ps count verdicts sorted found is =
    let each : (key : List ℕ) → IsVerdictAt (lookup (same_key key) verdicts) (channel_in key ps) =
    λ key. rw (found key) (verdict_at (lookup (same_key key) h.channels) (channel_in key ps) (is.each key)) in record {
      ascending = sorted;
      each = each;
      exact = λ key. exact_at exact (lookup (same_key key) verdicts) (channel_in key ps) (each key);
    }

-- channels in their order are enough for it
pub channels_finished : AreExact → (added : List Added) (channels : List (List ℕ × Channel))
    → AreChannels added channels → AreVerdicts added (map (λ e. (e.0, verdict_of e.1)) channels)
channels_finished exact added channels is =
    finished exact (record { channels = channels; added = length added }) (numbered 1 added) (length added)
    (map (λ e. (e.0, verdict_of e.1)) channels)
    (rw (keys_of-map_values verdict_of channels) is.ascending)
    (λ key. lookup-map_values verdict_of (same_key key) channels) (record { number = refl; each = is.each })
