-- Whichever two of three are joined first, the joint part is the same.
use Rattle.std.proofs.Common.{◌≡◌, ℕ, ◌+◌, Option, Some, None, refl, sym, ap, ◌∙◌, arith}
use Rattle.std.specs.Option.{option_map}
use Rattle.mseed_audit.specs.declared.finding.Finding.{Finding}
use Rattle.mseed_audit.specs.declared.channel.Channel.{Channel}
use Rattle.mseed_audit.specs.declared.channel.Findings.{Findings}
use Rattle.mseed_audit.specs.declared.channel.Findings.TheVariants.{Counted}
use Rattle.mseed_audit.specs.declared.channel.Head.{Head}
use Rattle.mseed_audit.specs.declared.tail.Tail.{Tail}
use Rattle.mseed_join.specs.Joining.{moved_head, moved_finding, moved_findings, moved_channel}
use Rattle.mseed_join.specs.Joining.{border_of, findings_with, findings_after, channel_then, channel_joined}
use Rattle.mseed_join.specs.Parts.{Held, IsJoint}
use Rattle.mseed_join.proofs.Following.{head_with, tail_with}
use Rattle.mseed_join.proofs.JoinedParts.{same_held}
use Rattle.mseed_join.proofs.Moving.{head_moves, tail_moves}

-- ---- after more records and then after yet more
module _ (d e f g : ℕ) where
  head_twice : (h : Head) → moved_head (d + f) (e + g) h ≡ moved_head d e (moved_head f g h)
  head_twice h = search arith

  finding_twice : (h : Finding) → moved_finding (d + f) (e + g) h ≡ moved_finding d e (moved_finding f g h)
  finding_twice h = search arith

  findings_twice : (h : Findings) → moved_findings (d + f) (e + g) h ≡ moved_findings d e (moved_findings f g h)
  findings_twice h = grind (arith, head_twice, finding_twice)

  channel_twice : (c : Channel) → moved_channel (d + f) (e + g) c ≡ moved_channel d e (moved_channel f g c)
  channel_twice c = search (arith, findings_twice)

-- ---- a channel and its further records, both after more
border_moved : (d e : ℕ) (t : Option Tail) (h : Option Head)
    → border_of t (option_map (moved_head d e) h) ≡ option_map (moved_finding d e) (border_of t h)
border_moved d e (Some t) (Some h) = search arith
border_moved d e _ _ = refl

with_moved : (d e : ℕ) (a b : Findings) (border : Option Finding) → moved_findings d e (findings_with a b border)
    ≡ findings_with (moved_findings d e a) (moved_findings d e b) (option_map (moved_finding d e) border)
with_moved d e a b border = grind arith

findings_moved : (d e : ℕ) (a b : Findings)
    → moved_findings d e (findings_after a b) ≡ findings_after (moved_findings d e a) (moved_findings d e b)
findings_moved d e a b =
    search (arith, border_moved, tail_moves, head_moves, with_moved)

after_moved : (d e : ℕ) (c o : Channel)
    → moved_channel d e (channel_then c o) ≡ channel_then (moved_channel d e c) (moved_channel d e o)
after_moved d e c o = search (arith, findings_moved)

-- ---- three of a channel
more : (m n : ℕ) (first : Finding) (h : Option Head) (t : Option Tail) → m ≡ n
    → Counted m first h t ≡ Counted n first h t
more m n first h t e = ap (λ (k : ℕ). Counted k first h t) e

with_assoc : (a b c : Findings) (x y : Option Finding)
    → findings_with (findings_with a b x) c y ≡ findings_with a (findings_with b c y) x
with_assoc a b c x y = grind (arith, more)

findings_assoc : (a b c : Findings) → findings_after (findings_after a b) c ≡ findings_after a (findings_after b c)
findings_assoc a b c = search (arith, tail_with, with_assoc, head_with)

after_assoc : (a b c : Channel) → channel_then (channel_then a b) c ≡ channel_then a (channel_then b c)
after_assoc a b c = search (arith, findings_assoc)

kept_assoc : (d e f g : ℕ) (a b c : Option Channel)
    → channel_joined (channel_joined a (option_map (moved_channel d e) b))
    (option_map (moved_channel (d + f) (e + g)) c)
    ≡ channel_joined a (option_map (moved_channel d e) (channel_joined b (option_map (moved_channel f g) c)))
kept_assoc d e f g None None None = refl
kept_assoc d e f g None None (Some c) = ap (λ (k : Channel). Some k) (channel_twice d e f g c)
kept_assoc d e f g None (Some b) None = refl
kept_assoc d e f g None (Some b) (Some c) =
    ap (λ (k : Channel). Some (channel_then (moved_channel d e b) k)) (channel_twice d e f g c)
    ∙ ap (λ (k : Channel). Some k) (sym (after_moved d e b (moved_channel f g c)))
kept_assoc d e f g (Some a) None None = refl
kept_assoc d e f g (Some a) None (Some c) = ap (λ (k : Channel). Some (channel_then a k)) (channel_twice d e f g c)
kept_assoc d e f g (Some a) (Some b) None = refl
kept_assoc d e f g (Some a) (Some b) (Some c) =
    ap (λ (k : Channel). Some (channel_then (channel_then a (moved_channel d e b)) k)) (channel_twice d e f g c)
    ∙ ap (λ (k : Channel). Some k) (after_assoc a (moved_channel d e b) (moved_channel d e (moved_channel f g c)))
    ∙ ap (λ (k : Channel). Some (channel_then a k)) (sym (after_moved d e b (moved_channel f g c)))

pub joint_assoc : (a b c ab bc left right : Held) → IsJoint a b ab → IsJoint ab c left → IsJoint b c bc
    → IsJoint a bc right → left ≡ right
joint_assoc a b c ab bc l r h j k m = search (arith, same_held, kept_assoc)
