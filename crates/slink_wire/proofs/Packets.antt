-- A packet is read back, and has one number and one record.
use Rattle.std.proofs.Common.{◌≡◌, ℕ, ◌+◌, ◌^◌, ◌<◌, refl, sym, subst, ◌∙◌, arith, List, ◌++◌, length, length-append}
use Rattle.std.proofs.Common.{map, codes}
use Rattle.std.specs.Char.{to_ascii_uppercase}
use Rattle.std.proofs.lemmas.List.{take_at, drop_at}
use Rattle.slink_wire.specs.Hexadecimal.{SpellsNumber, hexadecimal}
use Rattle.slink_wire.specs.Packet.{IsPacket, packet_bytes}
use Rattle.slink_wire.proofs.Digits.{hexadecimal_stays, length-hexadecimal, spells_one}

pub spells_itself : (n : ℕ) → n < 2 ^ 24 → SpellsNumber (hexadecimal 6 n) n
spells_itself n h = subst (λ k. (n < 16 ^ k) × (map to_ascii_uppercase (hexadecimal 6 n) ≡ hexadecimal k n))
    (sym (length-hexadecimal 6 n)) (omega arith, hexadecimal_stays 6 n)

pub read_back : (n : ℕ) (r : List ℕ) → n < 2 ^ 24 → IsPacket (packet_bytes n r) n r
read_back n r h = (
  refl,
  rw (← (take_at (hexadecimal 6 n) r 6 (length-hexadecimal 6 n))) at (spells_itself n h),
  drop_at (hexadecimal 6 n) r 6 (length-hexadecimal 6 n),
)

pub one_packet : (bytes : List ℕ) (n m : ℕ) (r s : List ℕ) → IsPacket bytes n r → IsPacket bytes m s → (n ≡ m) × (r ≡ s)
one_packet bytes n m r s p q = (spells_one _ _ n m refl p.1 q.1, sym p.2 ∙ q.2)

pub packet_length : (n : ℕ) (r : List ℕ) → length (packet_bytes n r) ≡ 8 + length r
packet_length n r =
    let head : length (codes "SL" ++ hexadecimal 6 n) ≡ 8 = length-append (codes "SL") (hexadecimal 6 n)
    ∙ omega (arith, length-hexadecimal 6 n) in
    length-append (codes "SL" ++ hexadecimal 6 n) r ∙ omega (arith, head)
