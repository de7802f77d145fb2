-- The first bytes of packets.
use Rattle.std.proofs.Common.{List, Some, ap, arith, drop, inl, inr, length, length-append, length-drop, sym, take}
use Rattle.std.proofs.Common.{ℕ, ◌++◌, ◌+◌, ◌∙◌, ◌≡◌, ◌≤◌}
use Rattle.std.proofs.lemmas.Bool.{cases_lt}
use Rattle.std.proofs.lemmas.List.{take-append-le, drop-append-le}
use Rattle.slink_wire.specs.Packet.{HasHead}
use Rattle.slink_feed.specs.Cutting.{Begins, IsNoPacket, IsPacketBegun, no_head, nothing, end_begun, head_begun}
use Rattle.slink_feed.specs.Cutting.{record_begun}
use Rattle.slink_feed.specs.private.Parts.{IsDue}
use Rattle.slink_feed.proofs.Prefixes.{get_left}

-- bytes after the first eight change nothing of them
first_eight : (xs ys : List ℕ) → 8 ≤ length xs
    → (take 2 (xs ++ ys) ≡ take 2 xs) × (take 6 (drop 2 (xs ++ ys)) ≡ take 6 (drop 2 xs))
first_eight xs ys long = (
  take-append-le 2 xs ys (omega (arith, long)),
  ap (take 6) (drop-append-le 2 xs ys (omega (arith, long)))
      ∙ take-append-le 6 (drop 2 xs) ys (omega (arith, long, length-drop 2 xs)),
)

pub head_same : (xs ys : List ℕ) (n : ℕ) → 8 ≤ length xs → HasHead xs n → HasHead (xs ++ ys) n
head_same xs ys n long has = let e = first_eight xs ys long in (e.0 ∙ has.0, rw e.1 has.1)

pub head_before : (xs ys : List ℕ) (n : ℕ) → 8 ≤ length xs → HasHead (xs ++ ys) n → HasHead xs n
head_before xs ys n long has = let e = first_eight xs ys long in (sym e.0 ∙ has.0, rw e.1 at has.1)

pub one_begins : (xs : List ℕ) (a b : ℕ) → Begins xs a → Begins xs b → a ≡ b
one_begins xs a b p q = let both : Some a ≡ Some b = sym p ∙ q in cc both

-- after eight bytes of a packet that is begun, up to its end
pub due_body : (xs ys : List ℕ) → IsPacketBegun xs → 8 ≤ length xs → length xs + length ys ≤ 520 → IsDue (xs ++ ys)
due_body xs ys (nothing e) long most = absurd (omega (arith, e, long))
due_body xs ys (end_begun b short) long most = absurd (omega (arith, short, long))
due_body xs ys (head_begun b short) long most = absurd (omega (arith, short, long))
due_body xs ys (record_begun n begins has long' short) long most =
    let here : Begins (xs ++ ys) 83 = get_left xs ys 0 (omega (arith, long)) ∙ begins in
    record {
      most = omega (arith, most, length-append xs ys);
      first = λ b is other _. absurd (other (one_begins (xs ++ ys) b 83 is here));
      end = λ is. absurd (let bad : 69 ≡ 83 = one_begins (xs ++ ys) 69 83 is here in omega (arith, bad));
      head = λ _ _. (n, head_same xs ys n long has);
    }

-- eight bytes that are no packet's first
pub eight_none : (bytes : List ℕ) → Begins bytes 83 → 8 ≤ length bytes → IsDue bytes → ((n : ℕ) → ¬ (HasHead bytes n))
    → IsNoPacket bytes
eight_none bytes begins long due lacks = elim (cases_lt 8 (length bytes)) [
  | inl past ↦ absurd (let has : (n : ℕ) × HasHead bytes n = due.head begins past in lacks has.0 has.1)
  | inr le ↦ no_head begins (omega (arith, long, le)) lacks
]
