-- Bytes that are written over a room, part by part.
use Rattle.std.proofs.Common.{◌≡◌, ℕ, ◌+◌, ◌-◌, ◌≤◌, List, [], ◌++◌, length, take, drop, min}
use Rattle.std.proofs.Common.{inl, inr, sym, ap, arith, length-append, append_assoc}
use Rattle.std.proofs.Math.Seq.{take-append-add}
use Rattle.std.proofs.lemmas.Bool.{cases_lt}
use Rattle.std.proofs.lemmas.List.{append-nil, drop-drop, length-drop, length-take-le, take_at, drop_at}
use Rattle.std.proofs.lemmas.List.{take_all, drop_all, take-append-le}
use borrow.Rule.Slice.PartMut.{put_mid}

-- the bytes, as many of them as there is room for, over what lay in the room
abbrev pub over : List ℕ → List ℕ → List ℕ
over bytes room = take (length room) bytes ++ drop (length bytes) room

-- nothing over it
pub over_none : (room : List ℕ) → room ≡ over [] room
over_none room = let none : take (length room) [] ≡ [] = take_all (length room) [] (omega arith) in
    ap (λ (l : List ℕ). l ++ room) (sym none)

-- what was written before and what is written after it
joined : (a b r : List ℕ) (n : ℕ) → n ≡ min (length r) (length a)
    → take n (over a r) ++ over b (drop n (over a r)) ≡ over (a ++ b) r
joined a b r n least = elim (cases_lt (length r) (length a)) [
  | inl full ↦
      let here : n ≡ length r = omega (arith, least, full) in
      let mine : over a r ≡ take (length r) a = rw (drop_all {X = ℕ} (length a) r (omega (arith, full)), append-nil) in
      let size : length (take (length r) a) ≤ n =
      omega (arith, here, length-take-le (length r) a (omega (arith, full))) in
      rw (mine, take_all n (take (length r) a) size, drop_all n (take (length r) a) size)
      (rw (drop_all {X = ℕ} (length b) [] (omega arith), append-nil)
      (rw (take-append-le (length r) a b (omega (arith, full)))
      (rw (drop_all {X = ℕ} (length (a ++ b)) r (omega (arith, full, length-append a b)), append-nil))))
  | inr room ↦
      let here : length a ≡ n = omega (arith, least, room) in
      let left : List ℕ = drop (length a) r in
      let mine : over a r ≡ a ++ left = rw (take_all (length r) a room) in
      let size : length r ≡ length a + length left = omega (arith, room, length-drop (length a) r) in
      rw (mine, take_at a left n here, drop_at a left n here, size, take-append-add, drop-drop, length-append)
      (rw (append_assoc))
]

-- the same where the room after what was written before is a part of it that was lent
pub over_more : (a b r p q : List ℕ) (n : ℕ) → n ≡ min (length r) (length a) → p ≡ over a r
    → q ≡ over b (take (length p - n) (drop n p)) → put_mid n (length p - n) p q ≡ over (a ++ b) r
over_more a b r p q n least before lent =
    let size = length-drop n p in
    rw (drop_all {X = ℕ} (length p - n) (drop n p) (omega (arith, size)), append-nil, lent)
    (rw (take_all (length p - n) (drop n p) (omega (arith, size)), before) (joined a b r n least))
