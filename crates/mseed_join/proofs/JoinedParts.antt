-- The laws of joining.
use Rattle.std.proofs.Common.{◌≡◌, ℕ, List, [], ◌∷◌, ◌++◌, Option, Some, None, sym, ◌∙◌}
use Rattle.std.proofs.Common.{arith, length-append}
use Rattle.std.specs.Option.{option_map}
use Rattle.mseed_record.specs.View.{View}
use Rattle.mseed_audit.specs.declared.finding.Finding.{Finding}
use Rattle.mseed_audit.specs.Channels.{Placed}
use Rattle.mseed_audit.specs.Verdict.{AreFindings}
use Rattle.mseed_audit.proofs.Alike.{one_list}
use Rattle.mseed_audit.specs.declared.channel.Channel.{Channel}
use Rattle.mseed_audit.specs.declared.channel.Findings.{Findings}
use Rattle.mseed_audit.specs.declared.channel.Head.{Head}
use Rattle.mseed_audit.specs.declared.tail.Tail.{Tail}
use Rattle.mseed_join.specs.Joining.{moved_head, moved_finding, moved_findings, moved_channel, channel_joined}
use Rattle.mseed_audit.specs.Audit.{IsHeadOf, IsTailOf, head_in, tail_in, AreCounted, Stands, StandsAt}
use Rattle.mseed_join.specs.Parts.{Held, IsAscending, kept_of, IsPartOf, IsJoint}
use Rattle.mseed_join.proofs.Adding.{joined_none}
use Rattle.mseed_join.proofs.Following.{HaveOneFinding, last_is, stands_joined}
use Rattle.mseed_join.proofs.Moving.{stands_at_moved}
use Rattle.mseed_join.proofs.Placing.{bytes_append, records_append}

-- the joint part of the parts of two archives is the part of the archives one after another
pub joint_is : HaveOneFinding → (a b h : Held) (xs ys : List View) → IsPartOf a xs → IsPartOf b ys → IsJoint a b h
    → IsPartOf h (xs ++ ys)
joint_is only a b h xs ys p q j =
    search (arith, length-append, bytes_append, stands_at_moved, stands_joined, records_append)

-- ---- records have one part
abbrev pub HaveOneList : Type 0
HaveOneList = (before : Option View) (ps : List Placed) (a b : List Finding) → AreFindings before ps a
    → AreFindings before ps b → a ≡ b

head_one : HaveOneFinding → (h g : Option Head) (p : Placed) → IsHeadOf h p → IsHeadOf g p → h ≡ g
head_one h1 h g p h2 h3 = grind arith

tail_one : (t u : Option Tail) (v : View) → IsTailOf t v → IsTailOf u v → t ≡ u
tail_one t u v h1 h2 = grind arith

findings_one : (f g : Findings) (found : List Finding) → head_in f ≡ head_in g → tail_in f ≡ tail_in g
    → AreCounted f found → AreCounted g found → f ≡ g
findings_one f g found h1 h2 h3 h4 = grind arith

stands_one : HaveOneFinding → HaveOneList → (c o : Channel) (ps : List Placed) → Stands c ps → Stands o ps → c ≡ o
stands_one only single c o ps s t =
    let samples = s.samples ∙ sym t.samples in
    let begin : s.first ∷ s.rest ≡ t.first ∷ t.rest = sym s.begins ∙ t.begins in
    let first : s.first ≡ t.first = cc (begin) in
    let end : Some s.last.view ≡ Some t.last.view = sym (last_is ps s.prefix s.last s.ends)
    ∙ last_is ps t.prefix t.last t.ends in
    let last : s.last.view ≡ t.last.view = cc (end) in
    let head : head_in c.findings ≡ head_in o.findings = search (arith, head_one) in
    let tail : tail_in c.findings ≡ tail_in o.findings = search (arith, tail_one) in
    let found : s.found ≡ t.found = single None ps s.found t.found s.are_found t.are_found in
    let findings : c.findings ≡ o.findings = search (arith, findings_one) in
    λ i. record { records = (s.records ∙ sym t.records) i; samples = samples i; findings = findings i }

none_begins : (c : Channel) (ps : List Placed) → ps ≡ [] → Stands c ps → ⊥
none_begins c ps e s = let no : [] ≡ s.first ∷ s.rest = sym e ∙ s.begins in cc (no)

stands_at_one : HaveOneFinding → HaveOneList → (c o : Option Channel) (ps : List Placed) → StandsAt c ps
    → StandsAt o ps → c ≡ o
stands_at_one h1 h2 c o ps h3 h4 = grind (arith, none_begins, stands_one)

-- the same records and bytes, and the same at each key, are the same part
pub same_held : (a b : Held) → a.records ≡ b.records → a.bytes ≡ b.bytes → IsAscending a.channels
    → IsAscending b.channels
    → ((key : List ℕ) → kept_of key a.channels ≡ kept_of key b.channels) → a ≡ b
same_held a b r s u v e = search (arith, one_list)

pub part_one : HaveOneFinding → HaveOneList → (a b : Held) (views : List View) → IsPartOf a views → IsPartOf b views
    → a ≡ b
part_one only single a b views p q = search (arith, same_held, stands_at_one)

-- ---- two parts have one joint part
pub joint_one : (a b h g : Held) → IsJoint a b h → IsJoint a b g → h ≡ g
joint_one a b h g j k = search (arith, same_held)

-- ---- the part of nothing is the unit
none_kept : (o : Option Channel) → StandsAt o [] → o ≡ None
none_kept o h1 = grind (arith, none_begins)

head_still : (h : Head) → moved_head 0 0 h ≡ h
head_still h = search arith

finding_still : (f : Finding) → moved_finding 0 0 f ≡ f
finding_still f = search arith

findings_still : (f : Findings) → moved_findings 0 0 f ≡ f
findings_still f = grind (arith, head_still, finding_still)

kept_still : (o : Option Channel) → option_map (moved_channel 0 0) o ≡ o
kept_still o = grind (arith, findings_still)

nothing_kept : (n : Held) → IsPartOf n [] → (key : List ℕ) → kept_of key n.channels ≡ None
nothing_kept n p key = none_kept (kept_of key n.channels) (p.each key)

before_kept : (n a : Held) → IsPartOf n [] → (key : List ℕ) → kept_of key a.channels
    ≡ channel_joined (kept_of key n.channels) (option_map (moved_channel n.records n.bytes) (kept_of key a.channels))
before_kept n a p key = search (arith, nothing_kept, kept_still)

after_kept : (n a : Held) → IsPartOf n [] → (key : List ℕ) → kept_of key a.channels
    ≡ channel_joined (kept_of key a.channels) (option_map (moved_channel a.records a.bytes) (kept_of key n.channels))
after_kept n a p key = search (arith, nothing_kept, joined_none)

pub unit_before : (n a : Held) → IsPartOf n [] → IsAscending a.channels → IsJoint n a a
unit_before n a p s = search (arith, before_kept)

pub unit_after : (n a : Held) → IsPartOf n [] → IsAscending a.channels → IsJoint a n a
unit_after n a p s = search (arith, after_kept)
