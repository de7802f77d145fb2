-- The part of what was read, by what is kept of its channels, and what is written of it.
use Rattle.std.proofs.Common.{◌≡◌, ℕ, ◌+◌, ◌++◌, List, [], ◌∷◌, length, map, Option, refl, sym, ap, ◌∙◌, subst, arith}
use Rattle.std.proofs.Common.{inr, is_some, Err}
use Rattle.std.proofs.lemmas.List.{length-append, length-map}
use Rattle.std.specs.List.{concat}
use Rattle.mseed_record.specs.View.{View}
use Rattle.mseed_stream.specs.Device.{BytesRead, BytesWritten}
use Rattle.mseed_stream.specs.declared.fault.StreamFault.{StreamFault}
use Rattle.mseed_audit.specs.declared.summary.Summary.{Summary}
use Rattle.mseed_audit.specs.declared.channel.Channel.{Channel}
use Rattle.mseed_audit.specs.declared.each.EachFault.TheVariants.{Write}
use Rattle.mseed_audit.specs.Audit.{AreChannels, Held}
use Rattle.mseed_audit.specs.Channels.{added_from}
use Rattle.mseed_stream.specs.Gathered.{AreGathered, IsCutOff}
use Rattle.mseed_audit.specs.Summary.{IsGathered, IsSummary, IsWritten, broken_count}
use Rattle.mseed_audit.specs.Text.{reported_lines}
use Rattle.mseed_audit.specs.Reported.{Reported, AreReportedOf}
use Rattle.mseed_audit.specs.Verdict.{AreVerdicts}
use Rattle.mseed_stream.proofs.Gathered.{all_behind, cut_part}
use Rattle.mseed_audit.proofs.Outcomes.{added_length}
use Rattle.mseed_audit.proofs.OneAudit.{HasOneInput}
use Rattle.mseed_join.specs.Parts.{Held as Part, IsPartOf, bytes_in}
use Rattle.mseed_join.specs.AuditPart.{AuditedPart, IsPartEachOutcome, ReportedPart, reported_text}
use Rattle.mseed_join.specs.Joined.{verdict_at}
use Rattle.mseed_join.specs.Written.{Written, part_text}
use Rattle.mseed_join.specs.private.Parted.{IsPushed}

-- the sum of their lengths
pub sizes : (views : List View) → length (concat (map (λ v. v.bytes) views)) ≡ bytes_in views
sizes [] = refl
sizes (v ∷ views) = search (arith, length-append, sizes views)

-- the part, and the audit with the verdicts of its channels
abbrev pub parted_of : (held : Held) (end : Option StreamFault) (bytes : ℕ) (h : BytesRead) (views : List View)
    (channels : List (List ℕ × Channel)) → IsGathered held end bytes h views
    → AreChannels (added_from 0 views) channels → AreVerdicts (added_from 0 views) (map verdict_at channels)
    → AuditedPart h
parted_of held end bytes h views channels found are verdicts = record {
  audited = record {
    views = views;
    end = end;
    verdicts = map verdict_at channels;
    all = found.all;
    are_verdicts = verdicts;
  };
  written = record {
    part = record { channels = channels; records = held.added; bytes = bytes };
    faults = 0;
    end = end;
  };
  part = record {
    records = found.audit.number ∙ added_length 0 views;
    bytes = sym found.size ∙ sizes views;
    ascending = are.ascending;
    each = are.each;
  };
  faults = refl;
  end = refl;
}

-- its text was added
pub pushed : (s : Summary) (held : Held) (end : Option StreamFault) (bytes : ℕ) (h : BytesRead) (views : List View)
    (channels slice : List (List ℕ × Channel)) (records : ℕ) (text next : List ℕ) → IsGathered held end bytes h views
    → AreChannels (added_from 0 views) channels → AreVerdicts (added_from 0 views) (map verdict_at channels)
    → slice ≡ channels → records ≡ held.added
    → next ≡ text ++ part_text (record {
      part = record { channels = slice; records = records; bytes = bytes };
      faults = 0;
      end = end;
    }) → s.records ≡ held.added → s.channels ≡ length channels → s.broken ≡ broken_count (map verdict_at channels)
    → s.fault ≡ is_some end → s.end ≡ end → IsPushed s h views text next
pushed s held end bytes h views channels slice records text next found are verdicts same number is counted size broken
    fault last = record {
      parted = parted_of held end bytes h views channels found are verdicts;
      views_are = refl;
      summary = record {
        records = counted ∙ (found.audit.number ∙ added_length 0 views);
        channels = size ∙ sym (length-map channels verdict_at);
        broken = broken;
        fault = fault;
        end = last;
      };
      text_is = is ∙ (λ i. text ++ part_text (record {
        part = record { channels = same i; records = number i; bytes = bytes };
        faults = 0;
        end = end;
      }));
    }

-- it was written
pub part_written : {h : BytesRead} (s : Summary) (views : List View) (start next text : List ℕ)
    (old new : BytesWritten) → IsPushed s h views start next → start ≡ [] → text ≡ next
    → new.bytes ≡ old.bytes ++ text → new.failures ≡ old.failures
    → (a : AuditedPart h) × (IsSummary s a.audited × IsWritten (part_text a.written) old new)
part_written s views start next text old new p empty same bytes fine = (
  p.parted,
  (
    p.summary,
    record {
      bytes = bytes ∙ ap (λ (xs : List ℕ). old.bytes ++ xs) (same ∙ p.text_is
          ∙ ap (λ (xs : List ℕ). xs ++ part_text p.parted.written) empty);
      fine = fine;
    },
  ),
)

-- or a prefix of it
pub part_cut_off : {h : BytesRead} (s : Summary) (taken : ℕ) (views : List View) (start next : List ℕ)
    (old new : BytesWritten) → IsPushed s h views start next → start ≡ [] → IsCutOff taken next old new
    → (a : AuditedPart h) × IsCutOff taken (part_text a.written) old new
part_cut_off s taken views start next old new p empty cut =
    let is : next ≡ part_text p.parted.written = search arith in
    (p.parted, subst (λ (xs : List ℕ). IsCutOff taken xs old new) is cut)

-- ---- with lines before it
abbrev pub reported_part : {h : BytesRead} (s : Summary) (views : List View) (text next : List ℕ)
    (reported : List Reported)
    → IsPushed s h views text next → AreReportedOf (added_from 0 views) reported → ReportedPart h
reported_part s views text next reported p are = record {
  parted = p.parted;
  reported = reported;
  are_reported = subst (λ (vs : List View). AreReportedOf (added_from 0 vs) reported) (sym p.views_are) are;
}

pub reported_written : {h : BytesRead} (s : Summary) (views : List View) (text next taken : List ℕ)
    (reported : List Reported)
    (first old new : BytesWritten) → IsPushed s h views text next → AreReportedOf (added_from 0 views) reported
    → AreGathered first old text (reported_lines reported) → taken ≡ next → new.bytes ≡ old.bytes ++ taken
    → old.failures ≡ first.failures → new.failures ≡ old.failures
    → (a : ReportedPart h) × (IsSummary s a.parted.audited × IsWritten (reported_text a) first new)
reported_written s views text next taken reported first old new p are before same bytes same_failures fine =
    let tail : List ℕ = part_text p.parted.written in (
      reported_part s views text next reported p are,
      (
        p.summary,
        record {
          bytes = all_behind first old new text (reported_lines reported) tail before
              (bytes ∙ ap (λ (xs : List ℕ). old.bytes ++ xs) (same ∙ p.text_is));
          fine = fine ∙ same_failures;
        },
      ),
    )

-- or a prefix of both
pub reported_cut_off : {h : BytesRead} (s : Summary) (taken : ℕ) (views : List View) (text next : List ℕ)
    (reported : List Reported) (first old new : BytesWritten) → IsPushed s h views text next
    → AreReportedOf (added_from 0 views) reported → AreGathered first old text (reported_lines reported)
    → IsCutOff taken next old new → old.failures ≡ first.failures → IsPartEachOutcome (Err Write) h first new
reported_cut_off s taken views text next reported first old new p are before cut same =
    let tail : List ℕ = part_text p.parted.written in (
      cut.failed ∙ ap (λ (n : ℕ). n + 1) same,
      inr (
        reported_part s views text next reported p are,
        cut_part first old new taken text (reported_lines reported) tail before
            (subst (λ (xs : List ℕ). IsCutOff taken xs old new) p.text_is cut),
      ),
    )

-- ---- the part of what was read is one
written_one : (a b : Written) → a.part ≡ b.part → a.faults ≡ b.faults → a.end ≡ b.end → a ≡ b
written_one a b part faults end = λ i. record { part = part i; faults = faults i; end = end i }

pub one_of_input : HasOneInput
    → ((a b : Part) (views : List View) → IsPartOf a views → IsPartOf b views → a ≡ b)
    → (h : BytesRead) (a b : AuditedPart h) → a.written ≡ b.written
one_of_input input only h a b =
    let both = input h a.audited.views b.audited.views a.audited.end b.audited.end a.audited.all b.audited.all in
    let part : IsPartOf a.written.part b.audited.views = search arith in
    written_one a.written b.written (only a.written.part b.written.part b.audited.views part b.part)
    (a.faults ∙ sym b.faults) (a.end ∙ both.1 ∙ sym b.end)
