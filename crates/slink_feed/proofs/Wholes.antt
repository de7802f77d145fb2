-- No prefix of a whole is another, and bytes are one whole at most.
use Rattle.std.proofs.Common.{◌≡◌, ◌≢◌, ◌≤◌, ℕ, ◌+◌, ◌<◌, ◌⊎◌, inl, inr, refl, sym, ap, ◌∙◌, arith, List, [], ◌∷◌}
use Rattle.std.proofs.Common.{◌++◌}
use Rattle.std.proofs.Common.{append_assoc, append-nil, length, length-append, Some, slice_get, codes}
use Rattle.std.proofs.lemmas.Bool.{cases_lt}
use Rattle.std.proofs.lemmas.List.{append_cancel_right, nil_from_length}
use Rattle.std.proofs.lemmas.Option.{slice_get_within}
use Rattle.slink_wire.specs.Packet.{HasHead, IsPacket}
use Rattle.slink_wire.specs.Reply.{line_end}
use Rattle.slink_wire.proofs.Packets.{one_packet}
use Rattle.slink_wire.proofs.Prefixes.{prefixes}
use Rattle.slink_feed.specs.declared.dialogue.Stage.{Stage}
use Rattle.slink_feed.specs.declared.dialogue.Stage.TheVariants.{Station, Number, Packets}
use Rattle.slink_feed.specs.Cutting.{Begins, IsBegun, IsNoPacket, IsPacketBegun, IsReply, IsReplyBegun, IsWhole}
use Rattle.slink_feed.specs.Cutting.{IsWholePacket, IsWholeReply, LacksEnd, no_first, no_end, no_head, nothing}
use Rattle.slink_feed.specs.Cutting.{end_begun, head_begun, record_begun}
use Rattle.slink_feed.specs.Dialogue.{Whole, Reply, Packet, End, Garbage}
use Rattle.slink_feed.proofs.Prefixes.{get_left, get_here}
use Rattle.slink_feed.proofs.Heads.{head_before, one_begins}

-- the first byte of a prefix
begins_prefix : (a z : List ℕ) (b : ℕ) → Begins a b → Begins (a ++ z) b
begins_prefix a z b is = get_left a z 0 (slice_get_within a 0 b is) ∙ is

end_begins : (bytes : List ℕ) → bytes ≡ codes "END" → (Begins bytes 69) × (length bytes ≡ 3)
end_begins bytes is = (ap (λ (xs : List ℕ). slice_get xs 0) is, ap length is)

packet_begins : (bytes r : List ℕ) (n : ℕ) → IsPacket bytes n r → Begins bytes 83
packet_begins [] r n is = absurd (let bad : [] ≡ codes "SL" = is.0 in cc bad)
packet_begins (x ∷ []) r n is = absurd (let bad : x ∷ [] ≡ codes "SL" = is.0 in cc bad)
packet_begins (x ∷ y ∷ xs) r n is =
    let both : x ∷ y ∷ [] ≡ 83 ∷ 76 ∷ [] = is.0 in let one : x ≡ 83 = cc both in ap (λ z. Some z) one

-- A CR LF ends the bytes of a reply.
reply_end : (a z line : List ℕ) → a ≡ line ++ line_end → LacksEnd (a ++ z) → ⊥
reply_end a z line is lacks =
    let long : length a ≡ length line + 2 = ap length is ∙ length-append line line_end in
    let cr : slice_get a (length line) ≡ Some 13 = ap (λ (xs : List ℕ). slice_get xs (length line)) is
    ∙ get_here line (10 ∷ []) 13 in
    let split : line ++ line_end ≡ (line ++ 13 ∷ []) ++ 10 ∷ [] = sym (append_assoc line (13 ∷ []) (10 ∷ [])) in
    let at : length (line ++ 13 ∷ []) ≡ length line + 1 = length-append line (13 ∷ []) in
    let lf : slice_get a (length line + 1) ≡ Some 10 =
    ap (λ (xs : List ℕ). slice_get xs (length line + 1)) (is ∙ split)
    ∙ (ap (slice_get ((line ++ 13 ∷ []) ++ 10 ∷ [])) (sym at) ∙ get_here (line ++ 13 ∷ []) [] 10) in
    lacks (length line) (get_left a z (length line) (omega (arith, long)) ∙ cr)
    (get_left a z (length line + 1) (omega (arith, long)) ∙ lf)

lacks_prefix : (a z : List ℕ) → LacksEnd (a ++ z) → LacksEnd a
lacks_prefix a z lacks i cr lf =
    lacks i (get_left a z i (slice_get_within a i 13 cr) ∙ cr) (get_left a z (i + 1) (slice_get_within a (i + 1) 10 lf)
    ∙ lf)

-- a prefix of a reply without its last byte
lacks_before : (a z line : List ℕ) → a ++ z ≡ line ++ line_end → 0 < length z → LacksEnd (line ++ 13 ∷ []) → LacksEnd a
lacks_before a z line is some lacks =
    let split : a ++ z ≡ (line ++ 13 ∷ []) ++ 10 ∷ [] = is ∙ sym (append_assoc line (13 ∷ []) (10 ∷ [])) in
    elim (prefixes a (line ++ 13 ∷ []) z (10 ∷ []) split) [
      | inl more ↦ lacks_prefix a more.0 (rw more.1 at lacks)
      | inr more ↦
          let none : more.0 ≡ [] = nil_from_length more.0 (omega (
            arith,
            some,
            ap length split,
            ap length more.1,
            length-append a z,
            length-append (line ++ 13 ∷ []) (10 ∷ []),
            length-append (line ++ 13 ∷ []) more.0,
          )) in
          rw (more.1, none, append-nil (line ++ 13 ∷ [])) lacks
    ]

-- bytes that are begun have no whole before it
reply_begun_no : (a z : List ℕ) (w : Whole) → IsReplyBegun (a ++ z) → IsWholeReply a w → ⊥
reply_begun_no a z (Reply line) begun is = reply_end a z line is.0 begun.0
reply_begun_no a z Garbage begun is = omega (arith, begun.1, is.1, length-append a z)
reply_begun_no a z whole begun is = is

-- a prefix of a whole is begun
reply_prefix : (a z : List ℕ) (w : Whole) → 0 < length z → IsWholeReply (a ++ z) w → IsReplyBegun a
reply_prefix a z (Reply line) some is =
    (lacks_before a z line is.0 some is.1, omega (arith, is.2, some, length-append a z))
reply_prefix a z Garbage some is = (lacks_prefix a z is.0, omega (arith, is.1, some, length-append a z))
reply_prefix a z whole some is = absurd is

no_more : (a line : List ℕ) → IsReply a line → LacksEnd a → ⊥
no_more a line is lacks = reply_end a [] line is.0 (rw (append-nil a) lacks)

one_reply : (a : List ℕ) (w v : Whole) → IsWholeReply a w → IsWholeReply a v → w ≡ v
one_reply a (Reply l) (Reply m) p q = ap (λ x. Reply x) (append_cancel_right l m line_end (sym p.0 ∙ q.0))
one_reply a (Reply l) Garbage p q = absurd (no_more a l p q.0)
one_reply a Garbage (Reply m) p q = absurd (no_more a m q p.0)
one_reply a Garbage Garbage p q = refl
one_reply a (Reply l) v p q = absurd q
one_reply a Garbage v p q = absurd q
one_reply a whole v p q = absurd p

-- bytes of a packet that are begun, by the first of them
begun_short : (bytes : List ℕ) → IsPacketBegun bytes → length bytes < 520
begun_short bytes (nothing e) = omega (arith, e)
begun_short bytes (end_begun e few) = omega (arith, few)
begun_short bytes (head_begun e few) = omega (arith, few)
begun_short bytes (record_begun n e has long few) = few

begun_at : (bytes : List ℕ) (b : ℕ) → IsPacketBegun bytes → Begins bytes b → ((b ≡ 69) × (length bytes < 3))
    ⊎ ((b ≡ 83) × (8 ≤ length bytes → (n : ℕ) × HasHead bytes n))
begun_at bytes b (nothing e) is = absurd (omega (arith, e, slice_get_within bytes 0 b is))
begun_at bytes b (end_begun e few) is = inl (one_begins bytes b 69 is e, few)
begun_at bytes b (head_begun e few) is = inr (one_begins bytes b 83 is e, λ long. absurd (omega (arith, few, long)))
begun_at bytes b (record_begun n e has long few) is = inr (one_begins bytes b 83 is e, λ _. (n, has))

begun_no_garbage : (a z : List ℕ) → IsPacketBegun (a ++ z) → IsNoPacket a → ⊥
begun_no_garbage a z begun (no_first b is s t one) = elim (begun_at (a ++ z) b begun (begins_prefix a z b is)) [
  | inl end ↦ t end.0
  | inr head ↦ s head.0
]
begun_no_garbage a z begun (no_end is three other) = elim (begun_at (a ++ z) 69 begun (begins_prefix a z 69 is)) [
  | inl end ↦ omega (arith, end.1, three, length-append a z)
  | inr head ↦ omega (arith, head.0)
]
begun_no_garbage a z begun (no_head is eight lacks) = elim (begun_at (a ++ z) 83 begun (begins_prefix a z 83 is)) [
  | inl end ↦ omega (arith, end.0)
  | inr head ↦
      let has = head.1 (omega (arith, eight, length-append a z)) in
      lacks has.0 (head_before a z has.0 (omega (arith, eight)) has.1)
]

packet_begun_no : (a z : List ℕ) (w : Whole) → IsPacketBegun (a ++ z) → IsWholePacket a w → ⊥
packet_begun_no a z (Reply line) begun is = is
packet_begun_no a z (Packet n r) begun is = omega (arith, begun_short (a ++ z) begun, is.1, length-append a z)
packet_begun_no a z End begun is = elim (begun_at (a ++ z) 69 begun (begins_prefix a z 69 (end_begins a is).0)) [
  | inl end ↦ omega (arith, end.1, (end_begins a is).1, length-append a z)
  | inr head ↦ omega (arith, head.0)
]
packet_begun_no a z Garbage begun is = begun_no_garbage a z begun is

-- a prefix of a packet, of the end or of what is neither
garbage_prefix : (x : ℕ) (a z : List ℕ) → 0 < length z → IsNoPacket (x ∷ (a ++ z)) → IsPacketBegun (x ∷ a)
garbage_prefix x a z some (no_first b is s t one) = absurd (omega (arith, one, some, length-append a z))
garbage_prefix x a z some (no_end is three other) = end_begun is (omega (arith, three, some, length-append a z))
garbage_prefix x a z some (no_head is eight lacks) = head_begun is (omega (arith, eight, some, length-append a z))

packet_prefix : (a z : List ℕ) (w : Whole) → 0 < length z → IsWholePacket (a ++ z) w → IsPacketBegun a
packet_prefix [] z w some is = nothing refl
packet_prefix (x ∷ a) z (Reply line) some is = absurd is
packet_prefix (x ∷ a) z (Packet n r) some is = elim (cases_lt (length (x ∷ a)) 8) [
  | inl short ↦ head_begun (packet_begins (x ∷ (a ++ z)) r n is.0) short
  | inr long ↦ record_begun n (packet_begins (x ∷ (a ++ z)) r n is.0) (head_before (x ∷ a) z n long
      (is.0.0, is.0.1)) long (omega (arith, is.1, some, length-append a z))
]
packet_prefix (x ∷ a) z End some is =
    let e : (Begins (x ∷ (a ++ z)) 69) × (length (x ∷ (a ++ z)) ≡ 3) = end_begins (x ∷ (a ++ z)) is in
    end_begun e.0 (omega (arith, e.1, some, length-append a z))
packet_prefix (x ∷ a) z Garbage some is = garbage_prefix x a z some is

-- what is neither packet nor end is short, and not the end
garbage_short : (a : List ℕ) → IsNoPacket a → (length a ≤ 8) × (a ≢ codes "END")
garbage_short a (no_first b begins s t one) = (omega (arith, one), λ is. omega (arith, one, ap length is))
garbage_short a (no_end begins three other) = (omega (arith, three), other)
garbage_short a (no_head begins eight lacks) = (omega (arith, eight), λ is. omega (arith, eight, ap length is))

one_of_packets : (a : List ℕ) (w v : Whole) → IsWholePacket a w → IsWholePacket a v → w ≡ v
one_of_packets a (Packet n r) (Packet m s) p q = let same = one_packet a n m r s p.0 q.0 in cc
one_of_packets a (Packet n r) End p q = absurd (omega (arith, p.1, ap length q))
one_of_packets a (Packet n r) Garbage p q = absurd (omega (arith, p.1, (garbage_short a q).0))
one_of_packets a End (Packet m s) p q = absurd (omega (arith, q.1, ap length p))
one_of_packets a End End p q = refl
one_of_packets a End Garbage p q = absurd ((garbage_short a q).1 p)
one_of_packets a Garbage (Packet m s) p q = absurd (omega (arith, q.1, (garbage_short a p).0))
one_of_packets a Garbage End p q = absurd ((garbage_short a p).1 q)
one_of_packets a Garbage Garbage p q = refl
one_of_packets a (Reply l) v p q = absurd p
one_of_packets a w (Reply l) p q = absurd q

-- at each stage
pub begun_no_whole : (stage : Stage) (a z : List ℕ) (w : Whole) → IsBegun stage (a ++ z) → IsWhole stage a w → ⊥
begun_no_whole (Station k) a z w begun is = reply_begun_no a z w begun is
begun_no_whole (Number k) a z w begun is = reply_begun_no a z w begun is
begun_no_whole Packets a z w begun is = packet_begun_no a z w begun is
begun_no_whole stage a z w begun is = is

pub prefix_begun : (stage : Stage) (a z : List ℕ) (w : Whole) → 0 < length z → IsWhole stage (a ++ z) w
    → IsBegun stage a
prefix_begun (Station k) a z w some is = reply_prefix a z w some is
prefix_begun (Number k) a z w some is = reply_prefix a z w some is
prefix_begun Packets a z w some is = packet_prefix a z w some is
prefix_begun stage a z w some is = absurd is

pub one_whole : (stage : Stage) (a : List ℕ) (w v : Whole) → IsWhole stage a w → IsWhole stage a v → w ≡ v
one_whole (Station k) a w v p q = one_reply a w v p q
one_whole (Number k) a w v p q = one_reply a w v p q
one_whole Packets a w v p q = one_of_packets a w v p q
one_whole stage a w v p q = absurd p
