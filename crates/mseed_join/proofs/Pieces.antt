-- The joint part of archives one after another.
use Rattle.std.proofs.Common.{◌≡◌, ℕ, ◌++◌, List, [], ◌∷◌, map, length, Option, Some, None, true, false, refl, sym, ap}
use Rattle.std.proofs.Common.{◌∙◌, subst, append_assoc, append-nil, arith}
use Rattle.std.proofs.lemmas.List.{length-map}
use Rattle.std.specs.List.Sorted.{IsStrictlySortedBy}
use Rattle.std.specs.Option.{option_map}
use Rattle.mseed_record.specs.View.{View}
use Rattle.std.specs.Io.KnownBytes.{Consumes, IsAtEnd}
use Rattle.mseed_stream.specs.Cutting.{GivesMore}
use Rattle.mseed_stream.specs.Device.{BytesRead, nothing_read}
use Rattle.mseed_stream.specs.declared.fault.StreamFault.{StreamFault}
use Rattle.mseed_audit.specs.declared.channel.Channel.{Channel}
use Rattle.mseed_audit.specs.declared.verdict.Verdict.{Verdict}
use Rattle.mseed_audit.specs.Audit.{AreChannels}
use Rattle.mseed_audit.specs.Channels.{Added, added_from}
use Rattle.mseed_audit.specs.Summary.{Audited, broken_count}
use Rattle.mseed_text.specs.Fault.{end_line}
use Rattle.mseed_audit.specs.Text.{total_line, verdict_lines}
use Rattle.mseed_audit.specs.Verdict.{AreVerdicts}
use Rattle.mseed_join.specs.Parts.{Held, IsJoint, IsPartOf, bytes_in as size_of}
use Rattle.mseed_join.specs.Lines.{faults_line}
use Rattle.mseed_join.specs.AuditPart.{AuditedPart}
use Rattle.mseed_join.specs.Headline.{AreParted, EndsByBytes, IsReadOf, SaysAudit, last, more, none as no_pieces}
use Rattle.mseed_join.specs.Joined.{AreJoined, IsJointOf, IsNext, counted, counted_by, moved_fault, nothing, one}
use Rattle.mseed_join.specs.Joined.{verdict_at}
use Rattle.mseed_join.specs.Written.{Written}
use Rattle.mseed_join.proofs.Cuts.{IsKnown, known, known_after, known_none, one_known}
use Rattle.mseed_join.proofs.Sums.{none_of}

-- ---- what parts are joined, one by one
pub joined_more : (a w h : Written) (ws : List Written) → AreJoined a (w ∷ ws) h
    → (b : Written) × (IsNext a w b × AreJoined b ws h)
joined_more a w h ws (one _ _ b _ _ next rest) = (b, (next, rest))

pub counted_last : (w : Written) (end : Option StreamFault) → counted_by false w end [] ≡ w ∷ []
counted_last w end = grind arith

-- ---- the part of the bytes so far
abbrev pub AddUp : Type 0
AddUp = (a b h : Held) (xs ys : List View) → IsPartOf a xs → IsPartOf b ys → IsJoint a b h → IsPartOf h (xs ++ ys)

pub record IsSoFar (archive : List ℕ) (w : Written) : Type 0 where
  pub views : List View
  pub are_known : IsKnown archive views w.end
  pub part : IsPartOf w.part views
  pub faults : w.faults ≡ 0

abbrev pub at_first : (n : Held) → IsPartOf n [] → IsSoFar [] (record { part = n; faults = 0; end = None })
at_first n part = record { views = []; are_known = known_none; part = part; faults = refl }

pub of_nothing : IsPartOf nothing.part []
unfolding IsStrictlySortedBy
of_nothing = record { records = refl; bytes = refl; ascending = tt; each = λ key. refl }

-- with one more
abbrev pub further : AddUp → (before archive : List ℕ) (a b : Written) (h : BytesRead) (p : AuditedPart h)
    → IsSoFar before a → a.end ≡ None → IsReadOf archive h → EndsByBytes p.written.end → IsNext a p.written b
    → IsSoFar (before ++ archive) b
further add_up before archive a b h p so clear read by next =
    let here = known archive h p.audited.views p.audited.end read p.audited.all (subst EndsByBytes p.end by) in
    let all_known = known_after before archive so.views p.audited.views a.end p.audited.end clear so.are_known here in
    let end : option_map (moved_fault (size_of so.views)) p.audited.end ≡ b.end =
    (λ i. option_map (moved_fault (sym so.part.bytes i)) (sym p.end i)) ∙ sym next.end in
    record {
      views = so.views ++ p.audited.views;
      are_known = rw (← end) all_known;
      part = add_up a.part p.written.part b.part so.views p.audited.views so.part p.part next.part;
      faults = omega (arith, next.faults, so.faults, p.faults);
    }

-- with all
pieces : AddUp → (archive before : List ℕ) (ws : List Written) (a joint : Written) → AreParted archive ws
    → IsSoFar before a → a.end ≡ None → AreJoined a (counted false ws) joint → IsSoFar (before ++ archive) joint
pieces add_up _ before _ a joint no_pieces so clear joined =
    let same : IsSoFar before joint = subst (λ (w : Written). IsSoFar before w) (none_of a joint joined) so in
    subst (λ (xs : List ℕ). IsSoFar xs joint) (sym (append-nil before)) same
pieces add_up _ before _ a joint (last archive h p read by) so clear joined =
    let only = subst (λ (ws : List Written). AreJoined a ws joint) (counted_last p.written p.written.end) joined in
    let first = joined_more a p.written joint [] only in
    let now = further add_up before archive a first.0 h p so clear read by first.1.0 in
    subst (λ (w : Written). IsSoFar (before ++ archive) w) (none_of first.0 joint first.1.1) now
pieces add_up _ before _ a joint (more archive others h p ws read end parted) so clear joined =
    let all : AreJoined a (p.written ∷ counted false ws) joint =
    subst (λ (o : Option StreamFault). AreJoined a (counted_by false p.written o (counted false ws)) joint) end
    joined in
    let first = joined_more a p.written joint (counted false ws) all in
    let b : Written = first.0 in
    let now = further add_up before archive a b h p so clear read (subst EndsByBytes (sym end) tt) first.1.0 in
    let goes_on : b.end ≡ None = first.1.0.end
    ∙ ap (λ (o : Option StreamFault). option_map (moved_fault a.part.bytes) o) end in
    subst (λ (xs : List ℕ). IsSoFar xs joint) (append_assoc before archive others)
    (pieces add_up others (before ++ archive) ws b joint parted now goes_on first.1.1)

-- ---- what it says
abbrev pub HaveVerdicts : Type 0
HaveVerdicts = (added : List Added) (channels : List (List ℕ × Channel)) → AreChannels added channels
    → AreVerdicts added (map verdict_at channels)

abbrev pub HaveOneVerdicts : Type 0
HaveOneVerdicts = (added : List Added) (vs ws : List (List ℕ × Verdict)) → AreVerdicts added vs → AreVerdicts added ws
    → vs ≡ ws

-- the part of all records of what was read says what its audit says
says_of : HaveVerdicts → HaveOneVerdicts → (joint : Written) (h : BytesRead) (a : Audited h)
    → IsPartOf joint.part a.views → joint.faults ≡ 0 → joint.end ≡ a.end → SaysAudit joint a
says_of verdicts single joint h a part faults end =
    let cs : List (List ℕ × Channel) = joint.part.channels in
    let are = verdicts (added_from 0 a.views) cs (record { ascending = part.ascending; each = part.each }) in
    let same = single (added_from 0 a.views) (map verdict_at cs) a.verdicts are a.are_verdicts in
    let count = sym (length-map cs verdict_at) ∙ ap (λ (vs : List (List ℕ × Verdict)). length vs) same in
    record {
      text = (λ i. verdict_lines (same i) ++ total_line (part.records i) (count i) ++ faults_line (faults i)
          ++ end_line (end i))
          ∙ ap (λ (xs : List ℕ). xs ++ end_line a.end)
          (append-nil (verdict_lines a.verdicts ++ total_line (length a.views) (length a.verdicts)));
      broken = ap broken_count same;
      faults = faults;
      end = end;
    }

pub says : AddUp → HaveVerdicts → HaveOneVerdicts → (archive : List ℕ) (ws : List Written) (joint : Written)
    (h : BytesRead) (a : Audited h) → AreParted archive ws → IsJointOf false ws joint → IsReadOf archive h
    → EndsByBytes a.end → SaysAudit joint a
says add_up verdicts single archive ws joint h a parted joined read by =
    let so = pieces add_up archive [] ws nothing joint parted (at_first nothing.part of_nothing) refl joined in
    let both = one_known archive so.views a.views joint.end a.end so.are_known
    (known archive h a.views a.end read a.all by) in
    says_of verdicts single joint h a (subst (λ (vs : List View). IsPartOf joint.part vs) both.0 so.part) so.faults
    both.1

-- and it is the part of what was read
pub is_part : AddUp → ((a b : Held) (views : List View) → IsPartOf a views → IsPartOf b views → a ≡ b)
    → (archive : List ℕ) (ws : List Written) (joint : Written) (h : BytesRead) (a : AuditedPart h)
    → AreParted archive ws → IsJointOf false ws joint → IsReadOf archive h → EndsByBytes a.written.end
    → joint ≡ a.written
is_part add_up only archive ws joint h a parted joined read by =
    let so = pieces add_up archive [] ws nothing joint parted (at_first nothing.part of_nothing) refl joined in
    let both = one_known archive so.views a.audited.views joint.end a.audited.end so.are_known
    (known archive h a.audited.views a.audited.end read a.audited.all (subst EndsByBytes a.end by)) in
    let same = only joint.part a.written.part a.audited.views
    (subst (λ (vs : List View). IsPartOf joint.part vs) both.0 so.part) a.part in
    λ i. record { part = same i; faults = (so.faults ∙ sym a.faults) i; end = (both.1 ∙ sym a.end) i }

-- what a source gave that is known to have left an archive was read of it
read_by : (archive : List ℕ) (h : BytesRead) (reported : List ℕ) (left : Option (List ℕ)) → h.bytes ≡ reported
    → Consumes (Some archive) left reported → (h.is_at_end ≡ true → IsAtEnd left) → IsReadOf archive h
read_by archive h reported left h1 h2 h3 = grind arith

pub read_of : (archive : List ℕ) (h : BytesRead) (left : Option (List ℕ))
    → GivesMore nothing_read h (Some archive) left → (h.is_at_end ≡ true → IsAtEnd left) → IsReadOf archive h
read_of archive h left reported done = read_by archive h reported.0 left reported.1 reported.2 done
