-- What is kept of a channel after more records.
use Rattle.std.proofs.Common.{◌≡◌, ℕ, ◌+◌, List, [], ◌∷◌, map, Option, Some, None, refl, sym, ap, ◌∙◌, subst, arith}
use Rattle.std.specs.Option.{option_map}
use Rattle.std.proofs.lemmas.List.{length-map, map-append}
use Rattle.mseed_record.specs.View.{View}
use Rattle.mseed_steim.specs.Reading.{count_of}
use Rattle.mseed_audit.specs.declared.finding.Finding.{Finding}
use Rattle.mseed_audit.specs.declared.finding.Why.{Why}
use Rattle.mseed_audit.specs.Channels.{Placed, sample_count}
use Rattle.mseed_audit.specs.Verdict.{finding_at, AreFindings, none, one}
use Rattle.mseed_audit.specs.declared.channel.Channel.{Channel}
use Rattle.mseed_audit.specs.declared.channel.Findings.{Findings}
use Rattle.mseed_audit.specs.declared.channel.Head.{Head}
use Rattle.mseed_audit.specs.declared.tail.Tail.{Tail}
use Rattle.mseed_join.specs.Joining.{moved_head, moved_finding, moved_findings, moved_channel}
use Rattle.mseed_audit.specs.Audit.{IsHeadOf, IsTailOf, head_in, tail_in, AreCounted, Stands, StandsAt}
use Rattle.mseed_join.proofs.Placing.{moved, moved_also}

pub head_moves : (d e : ℕ) (f : Findings) → head_in (moved_findings d e f) ≡ option_map (moved_head d e) (head_in f)
head_moves d e f = grind arith

pub tail_moves : (d e : ℕ) (f : Findings) → tail_in (moved_findings d e f) ≡ tail_in f
tail_moves d e f = grind arith

is_head : (d e : ℕ) (h : Option Head) (p : Placed) → IsHeadOf h p
    → IsHeadOf (option_map (moved_head d e) h) (moved d e p)
is_head d e h p h1 = grind arith

finding_moved : (d e : ℕ) (p : Placed) (why : Option Why)
    → finding_at (moved d e p) why ≡ map (moved_finding d e) (finding_at p why)
finding_moved d e p why = grind arith

findings_moved : (d e : ℕ) (before : Option View) (ps : List Placed) (found : List Finding)
    → AreFindings before ps found → AreFindings before (map (moved d e) ps) (map (moved_finding d e) found)
findings_moved d e before [] found (none _) = none before
findings_moved d e before (p ∷ ps) found (one _ _ _ why rest h later) =
    moved_also (λ (fs : List Finding). AreFindings before (moved d e p ∷ map (moved d e) ps) fs) (moved_finding d e)
    (finding_at p why) (finding_at (moved d e p) why) rest (finding_moved d e p why)
    (one before (moved d e p) (map (moved d e) ps) why (map (moved_finding d e) rest) h (findings_moved d e (Some
    p.view) ps rest later))

samples_moved : (d e : ℕ) (ps : List Placed) → sample_count (map (moved d e) ps) ≡ sample_count ps
samples_moved d e [] = refl
samples_moved d e (p ∷ ps) = ap (λ (n : ℕ). count_of p.view + n) (samples_moved d e ps)

counted_moved : (d e : ℕ) (f : Findings) (found : List Finding) → AreCounted f found
    → AreCounted (moved_findings d e f) (map (moved_finding d e) found)
counted_moved d e f found h1 = grind (arith, length-map)

stands_moved : (d e : ℕ) (c : Channel) (ps : List Placed) → Stands c ps
    → Stands (moved_channel d e c) (map (moved d e) ps)
stands_moved d e c ps s = record {
  records = s.records ∙ sym (length-map ps (moved d e));
  samples = s.samples ∙ sym (samples_moved d e ps);
  first = moved d e s.first;
  rest = map (moved d e) s.rest;
  begins = ap (λ (qs : List Placed). map (moved d e) qs) s.begins;
  head = rw (head_moves d e c.findings) (is_head d e (head_in c.findings) s.first s.head);
  prefix = map (moved d e) s.prefix;
  last = moved d e s.last;
  ends = ap (λ (qs : List Placed). map (moved d e) qs) s.ends ∙ map-append (moved d e) s.prefix (s.last ∷ []);
  tail = subst (λ (t : Option Tail). IsTailOf t s.last.view) (sym (tail_moves d e c.findings)) s.tail;
  found = map (moved_finding d e) s.found;
  are_found = findings_moved d e None ps s.found s.are_found;
  counted = counted_moved d e c.findings s.found s.counted;
}

pub stands_at_moved : (d e : ℕ) (o : Option Channel) (ps : List Placed) → StandsAt o ps
    → StandsAt (option_map (moved_channel d e) o) (map (moved d e) ps)
stands_at_moved d e o ps h1 = grind (arith, moved, stands_moved)
