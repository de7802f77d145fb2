-- After the replies a packet is whole for each 520 bytes.
use Rattle.std.proofs.Common.{◌≡◌, ℕ, ◌-◌, ◌*◌, ◌/◌, ◌%◌, ◌^◌, ◌+◌, ◌<◌, ◌≤◌, zero, suc, refl, sym, ap, ◌∙◌, arith}
use Rattle.std.proofs.Common.{List, [], ◌∷◌, ◌++◌, append-nil, length, replicate, take, take_all}
use Rattle.slink_model.specs.Counted.{ArePackets, wholes}
use Rattle.slink_model.specs.Ties.{Item, Accepted, Carried, Finished, item_bytes}
use Rattle.slink_model.proofs.Counting.{whole_or}
use Rattle.slink_feed.proofs.Prefixed.{packet_long}

replies_whole : (m d : ℕ) (ps : List Item) → 4 * m ≤ d
    → wholes d (replicate m Accepted ++ ps) ≡ replicate m Accepted ++ wholes (d - 4 * m) ps
replies_whole zero d ps le = ap (λ e. wholes e ps) (let e : d ≡ d - 4 * 0 = omega arith in e)
replies_whole (suc m) d ps le =
    whole_or Accepted (replicate m Accepted ++ ps) d
    (λ ws bs p. ws ≡ Accepted ∷ (replicate m Accepted ++ wholes (d - 4 * suc m) ps))
    (λ fits. ap (λ ws. Accepted ∷ ws) (replies_whole m (d - 4) ps (omega (arith, le))
    ∙ ap (λ e. replicate m Accepted ++ wholes e ps) (let e : d - 4 - 4 * m ≡ d - 4 * suc m = omega arith in e)))
    (λ lt. absurd (omega (arith, le, lt)))

-- of packets and what is after them
packets_whole : (ps tail : List Item) (e : ℕ) → ArePackets ps → wholes 0 tail ≡ []
    → wholes e (ps ++ tail) ≡ take (e / 520) ps ++ wholes (e - 520 * length ps) tail
packets_whole [] tail e are none = nothing_taken (e / 520)
  where
    nothing_taken : (n : ℕ) → wholes e tail ≡ take n [] ++ wholes (e - 520 * 0) tail
    nothing_taken zero = ap (λ m. wholes m tail) (let m : e ≡ e - 520 * 0 = omega arith in m)
    nothing_taken (suc n) = ap (λ m. wholes m tail) (let m : e ≡ e - 520 * 0 = omega arith in m)
packets_whole (Carried k n r ∷ ps) tail e are none =
    let size : length (item_bytes (Carried k n r)) ≡ 520 = packet_long (n % 2 ^ 24) r are.0 in
    whole_or (Carried k n r) (ps ++ tail) e
    (λ ws bs p. ws ≡ take (e / 520) (Carried k n r ∷ ps) ++ wholes (e - 520 * suc (length ps)) tail)
    (λ fits.
    let count : e / 520 ≡ suc ((e - 520) / 520) = omega (arith, fits, size) in
    ap (λ ws. Carried k n r ∷ ws) (ap (λ s. wholes (e - s) (ps ++ tail)) size
    ∙ (packets_whole ps tail (e - 520) are.1 none
    ∙ ap (λ m. take ((e - 520) / 520) ps ++ wholes m tail)
    (let m : e - 520 - 520 * length ps ≡ e - 520 * suc (length ps) = omega arith in m)))
    ∙ ap (λ m. take m (Carried k n r ∷ ps) ++ wholes (e - 520 * suc (length ps)) tail) (sym count))
    (λ lt. let few : e / 520 ≡ 0 = omega (arith, lt, size) in
    let rest : e - 520 * suc (length ps) ≡ 0 = omega (arith, lt, size) in
    sym (ap (λ m. wholes m tail) rest ∙ none)
    ∙ ap (λ m. take m (Carried k n r ∷ ps) ++ wholes (e - 520 * suc (length ps)) tail) (sym few))
packets_whole (p ∷ ps) tail e are none = absurd are

-- of an end
none_ended : (d : ℕ) → d < 3 → wholes d (Finished ∷ []) ≡ []
none_ended d few = whole_or Finished [] d (λ ws bs p. ws ≡ []) (λ fits. absurd (omega (arith, few, fits))) (λ lt. refl)

one_ended : (d : ℕ) → 3 ≤ d → wholes d (Finished ∷ []) ≡ Finished ∷ []
one_ended d all =
    whole_or Finished [] d (λ ws bs p. ws ≡ Finished ∷ []) (λ fits. refl) (λ lt. absurd (omega (arith, all, lt)))

-- after the replies
after_replies : (places delivered : ℕ) (ps tail : List Item) → ArePackets ps → wholes 0 tail ≡ []
    → 8 * places ≤ delivered
    → wholes delivered (replicate (2 * places) Accepted ++ (ps ++ tail)) ≡ replicate (2 * places) Accepted
    ++ (take ((delivered - 8 * places) / 520) ps ++ wholes (delivered - 8 * places - 520 * length ps) tail)
after_replies places delivered ps tail are none le =
    let e : delivered - 4 * (2 * places) ≡ delivered - 8 * places = omega arith in
    replies_whole (2 * places) delivered (ps ++ tail) (omega (arith, le))
    ∙ ap (λ ws. replicate (2 * places) Accepted ++ ws)
    (ap (λ d. wholes d (ps ++ tail)) e ∙ packets_whole ps tail (delivered - 8 * places) are none)

pub counted_packets : (places delivered : ℕ) (packets : List Item) → ArePackets packets → 8 * places ≤ delivered
    → wholes delivered (replicate (2 * places) Accepted ++ packets) ≡ replicate (2 * places) Accepted ++ take
    ((delivered - 8 * places) / 520) packets
counted_packets places delivered packets are le =
    ap (λ ps. wholes delivered (replicate (2 * places) Accepted ++ ps)) (sym (append-nil packets))
    ∙ (after_replies places delivered packets [] are refl le
    ∙ ap (λ ps. replicate (2 * places) Accepted ++ ps) (append-nil (take ((delivered - 8 * places) / 520) packets)))

pub counted_ending : (places delivered : ℕ) (packets : List Item) → ArePackets packets → 8 * places ≤ delivered
    → delivered < 8 * places + 520 * length packets + 3
    → wholes delivered (replicate (2 * places) Accepted ++ (packets ++ Finished ∷ [])) ≡ replicate (2 * places)
    Accepted ++ take ((delivered - 8 * places) / 520) packets
counted_ending places delivered packets are le lt =
    after_replies places delivered packets (Finished ∷ []) are refl le
    ∙ ap (λ ps. replicate (2 * places) Accepted ++ ps)
    (ap (λ (is : List Item). take ((delivered - 8 * places) / 520) packets ++ is)
    (none_ended (delivered - 8 * places - 520 * length packets) (omega (arith, le, lt)))
    ∙ append-nil (take ((delivered - 8 * places) / 520) packets))

pub counted_ended : (places delivered : ℕ) (packets : List Item) → ArePackets packets
    → 8 * places + 520 * length packets + 3 ≤ delivered
    → wholes delivered (replicate (2 * places) Accepted ++ (packets ++ Finished ∷ [])) ≡ replicate (2 * places)
    Accepted ++ (packets ++ Finished ∷ [])
counted_ended places delivered packets are le =
    after_replies places delivered packets (Finished ∷ []) are refl (omega (arith, le))
    ∙ ap (λ ps. replicate (2 * places) Accepted ++ ps)
    (ap (λ (is : List Item). take ((delivered - 8 * places) / 520) packets ++ is)
    (one_ended (delivered - 8 * places - 520 * length packets) (omega (arith, le)))
    ∙ ap (λ (is : List Item). is ++ Finished ∷ [])
    (take_all ((delivered - 8 * places) / 520) packets (omega (arith, le))))
