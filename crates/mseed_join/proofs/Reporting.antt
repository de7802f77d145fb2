-- What is reported of a channel's records, of further ones after them, and after a border.
use Rattle.std.proofs.Common.{◌≡◌, ℕ, List, [], ◌∷◌, ◌++◌, map, Option, Some, None, refl, sym, ap, ◌∙◌, subst, arith}
use Rattle.std.proofs.Common.{append_assoc}
use Rattle.std.proofs.lemmas.List.{map-append}
use Rattle.std.specs.Option.{option_to_list}
use Rattle.mseed_record.specs.View.{View}
use Rattle.mseed_audit.specs.declared.finding.Finding.{Finding}
use Rattle.mseed_audit.specs.declared.finding.Why.{Why}
use Rattle.mseed_audit.specs.declared.channel.Head.{Head}
use Rattle.mseed_audit.specs.declared.tail.Tail.{Tail}
use Rattle.mseed_audit.specs.Audit.{IsHeadOf, IsTailOf}
use Rattle.mseed_audit.specs.Channels.{Placed}
use Rattle.mseed_audit.specs.Reported.{Reported, last_of, reported_at}
use Rattle.mseed_audit.specs.Verdict.{finding_at}
use Rattle.mseed_audit.proofs.OneReport.{AreReportedIn, nothing_in as none, one_in as one}
use Rattle.mseed_join.specs.Joining.{border_of, moved_finding}
use Rattle.mseed_join.proofs.Following.{HaveOneFinding, found_after}
use Rattle.mseed_join.proofs.Placing.{moved, moved_also}

-- it is reported once
pub reported_one : HaveOneFinding → (before : Option View) (ps : List Placed) (a b : List Reported)
    → AreReportedIn before ps a
    → AreReportedIn before ps b → a ≡ b
reported_one only before [] a b (none _) (none _) = refl
reported_one only before (p ∷ ps) a b (one _ _ _ why rest h later) (one _ _ _ other others k latter) =
    search (arith, reported_one only (Some p.view) ps rest others later latter)

-- ---- of records and of further ones after them
pub reported_append : (before : Option View) (ps qs : List Placed) (reported further : List Reported)
    → AreReportedIn before ps reported
    → AreReportedIn (last_of before ps) qs further → AreReportedIn before (ps ++ qs) (reported ++ further)
reported_append before [] qs reported further (none _) k = k
reported_append before (p ∷ ps) qs reported further (one _ _ _ why rest h later) k =
    subst (λ (ts : List Reported). AreReportedIn before (p ∷ (ps ++ qs)) ts)
    (sym (append_assoc (reported_at p why) rest further))
    (one before p (ps ++ qs) why (rest ++ further) h (reported_append (Some p.view) ps qs rest further later k))

-- ---- after so many more records and bytes
abbrev pub moved_reported : ℕ → ℕ → Reported → Reported
moved_reported d e t = record { view = t.view; finding = moved_finding d e t.finding }

reported_at_moved : (d e : ℕ) (p : Placed) (why : Option Why)
    → reported_at (moved d e p) why ≡ map (moved_reported d e) (reported_at p why)
reported_at_moved d e p why = grind arith

pub reported_moved : (d e : ℕ) (before : Option View) (ps : List Placed) (reported : List Reported)
    → AreReportedIn before ps reported
    → AreReportedIn before (map (moved d e) ps) (map (moved_reported d e) reported)
reported_moved d e before [] reported (none _) = none before
reported_moved d e before (p ∷ ps) reported (one _ _ _ why rest h later) =
    moved_also (λ (ts : List Reported). AreReportedIn before (moved d e p ∷ map (moved d e) ps) ts) (moved_reported d e)
    (reported_at p why) (reported_at (moved d e p) why) rest (reported_at_moved d e p why) (one before (moved d e p)
    (map (moved d e) ps) why (map (moved_reported d e) rest) h (reported_moved d e (Some p.view) ps rest later))

-- ---- after another record
-- what is reported of a border
abbrev pub border_reported : Placed → Option Finding → List Reported
border_reported q None = []
border_reported q (Some f) = record { view = q.view; finding = f } ∷ []

-- what is reported of a record, by its finding
abbrev noted : Placed → Finding → Reported
noted q f = record { view = q.view; finding = f }

reported_is : (q : Placed) (why : Option Why) → reported_at q why ≡ map (noted q) (finding_at q why)
reported_is q why = grind arith

border_is : (q : Placed) (o : Option Finding) → border_reported q o ≡ map (noted q) (option_to_list o)
border_is q o = grind arith

reported_after : (q : Placed) (further why : Option Why) (o : Option Finding)
    → finding_at q further ≡ option_to_list o ++ finding_at q why
    → reported_at q further ≡ border_reported q o ++ reported_at q why
reported_after q further why o e =
    search (arith, reported_is, map-append, border_is)

-- a record that is judged after another has the border's finding before what is reported of it alone
pub reported_border : HaveOneFinding → (t : Option Tail) (b : View) (h : Option Head) (q : Placed) (qs : List Placed)
    (reported : List Reported) → IsTailOf t b → IsHeadOf h q → AreReportedIn None (q ∷ qs) reported
    → AreReportedIn (Some b) (q ∷ qs) (border_reported q (border_of t h) ++ reported)
reported_border only t b h q qs reported tail head (one _ _ _ why rest k later) =
    let f = found_after only t b h q why tail head k in
    subst (λ (ts : List Reported). AreReportedIn (Some b) (q ∷ qs) ts)
    (ap (λ (ts : List Reported). ts ++ rest) (reported_after q f.further why (border_of t h) f.is)
    ∙ append_assoc (border_reported q (border_of t h)) (reported_at q why) rest)
    (one (Some b) q qs f.further rest f.found later)
