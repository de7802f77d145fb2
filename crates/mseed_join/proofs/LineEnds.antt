-- Where the first line of some bytes ends, and lines one after another.
use Rattle.std.proofs.Common.{◌≡◌, ℕ, ◌+◌, ◌<◌, ◌≤◌, min, suc, List, [], ◌∷◌, ◌++◌, length, take, drop, get_or}
use Rattle.std.proofs.Common.{Some, None, Bool, not, cond, ◌==◌, sym, ap, subst, ◌∙◌, arith}
use Rattle.std.proofs.Common.{inl, inr, append_assoc, length-take, length-drop, map, replicate, w8, ◌-◌, ◌%◌, ◌≢◌}
use Rattle.std.specs.List.{position_or_len, position}
use Rattle.std.proofs.Math.Numerals.{one-add}
use Rattle.std.proofs.lemmas.List.{take_all, take_more, take-take, take-append-drop, take_rest}
use Rattle.std.proofs.lemmas.Option.{same_Some}
use Rattle.std.proofs.lemmas.List.Sums.{passes_at_first, prefix_len-le-length}
use Rattle.std.proofs.lemmas.Simd.{length-chunk, bitmask_splat, leading_from_mask_l, trailing_mask_l}
use lib.Lanes.{zip2, mask_l, top}
use lib.Count.{count_trailing_zeros}
use Rattle.std.proofs.Math.Seq.{take-add}
use Rattle.std.proofs.lemmas.Bool.Decides.{leb_tells, eqb_tells}
use Rattle.mseed_join.specs.Joined.{AreLines, HasNoEnd, none, one}
use Rattle.mseed_join.specs.private.LineReading.{IsWholeLine, IsLineAhead}

abbrev pub first_end : List ℕ → ℕ
first_end bytes = position_or_len (λ b. b == 10) bytes

-- no LF stands before the first
pub none_before : (bytes : List ℕ) → HasNoEnd (take (first_end bytes) bytes)
none_before [] = tt
none_before (b ∷ bs) = elim (eqb_tells b 10) [
  | inl same ↦ subst (λ (t : Bool). HasNoEnd (take (cond (not t) (1 + first_end bs) 0) (b ∷ bs))) (sym same.0) tt
  | inr other ↦ subst (λ (t : Bool). HasNoEnd (take (cond (not t) (1 + first_end bs) 0) (b ∷ bs))) (sym other.0)
      (rw one-add (other.1, none_before bs))
]

-- the first is one
pub end_at : (bytes : List ℕ) → first_end bytes < length bytes → get_or bytes (first_end bytes) 0 ≡ 10
end_at bytes within = search (arith, passes_at_first, eqb_tells)

pub no_end_found : (bytes : List ℕ) → position (λ b. b == 10) bytes ≡ None → HasNoEnd bytes
no_end_found bytes lacks = elim (leb_tells (suc (first_end bytes)) (length bytes)) [
  | inl within ↦ absurd (let e = ap (λ t. cond t (Some (first_end bytes)) None) (sym within.0) ∙ lacks in cc e)
  | inr farther ↦ subst HasNoEnd (take_all (first_end bytes) bytes (omega (arith, farther.1))) (none_before bytes)
]

found_is : (bytes : List ℕ) (k : ℕ) → position (λ b. b == 10) bytes ≡ Some k
    → (first_end bytes ≡ k) × (first_end bytes < length bytes)
found_is bytes k some = search (arith, leb_tells, same_Some)

pub end_found : (bytes : List ℕ) (k : ℕ) → position (λ b. b == 10) bytes ≡ Some k
    → IsWholeLine (take (k + 1) bytes) × (k < length bytes)
end_found bytes k some =
    let there = found_is bytes k some in
    let whole = take_more bytes (first_end bytes) 0 there.1
    ∙ ap (λ (b : ℕ). take (first_end bytes) bytes ++ b ∷ []) (end_at bytes there.1) in (
      subst (λ (n : ℕ). IsWholeLine (take (n + 1) bytes)) there.0
          (take (first_end bytes) bytes, none_before bytes, whole),
      omega (arith, there.0, there.1),
    )

-- an LF after bytes that have none
first_after : (before rest : List ℕ) → HasNoEnd before → first_end (before ++ rest) ≡ length before + first_end rest
first_after [] rest _ = omega arith
first_after (b ∷ bs) rest lacks =
    search (arith, eqb_tells, first_after bs rest lacks.1)

pub no_end_in_both : (before more : List ℕ) → HasNoEnd before → HasNoEnd more → HasNoEnd (before ++ more)
no_end_in_both [] more _ lacks = lacks
no_end_in_both (b ∷ bs) more lacks lacks_more = (lacks.0, no_end_in_both bs more lacks.1 lacks_more)

-- as far on as the first LF of the thirty-two bytes at a place
pub no_end_farther : (bytes : List ℕ) (at place : ℕ) → at + 32 ≤ length bytes → HasNoEnd (take at bytes)
    → place ≡ first_end (take 32 (drop at bytes)) → (place ≤ 32) × HasNoEnd (take (at + place) bytes)
no_end_farther bytes at place within lacks found =
    let long : length (take 32 (drop at bytes)) ≡ 32 = length-chunk at 32 bytes within in
    let few : place ≤ 32 =
    omega (arith, found, long, prefix_len-le-length (λ b. not (b == 10)) (take 32 (drop at bytes))) in
    let more = subst HasNoEnd (take-take place 32 (drop at bytes) few)
    (subst (λ (n : ℕ). HasNoEnd (take n (take 32 (drop at bytes)))) (sym found)
    (none_before (take 32 (drop at bytes)))) in (
      few,
      subst HasNoEnd (sym (take-add at place bytes)) (no_end_in_both _ _ lacks more),
    )

-- the first LF, looked for after bytes that have none
pub first_is_after : (bytes : List ℕ) (at : ℕ) → at ≤ length bytes → HasNoEnd (take at bytes)
    → first_end bytes ≡ at + first_end (drop at bytes)
first_is_after bytes at within lacks =
    ap first_end (sym (take-append-drop at bytes))
    ∙ first_after (take at bytes) (drop at bytes) lacks
    ∙ ap (λ (n : ℕ). n + first_end (drop at bytes)) (omega (arith, length-take at bytes))

pub found_after : (bytes : List ℕ) (at k : ℕ) → at ≤ length bytes → HasNoEnd (take at bytes)
    → position (λ b. b == 10) (take (length bytes - at) (drop at bytes)) ≡ Some k
    → Some (at + k) ≡ position (λ b. b == 10) bytes
found_after bytes at k within lacks some =
    search (arith, found_is, take_rest, first_is_after, leb_tells, length-drop)

pub nowhere_after : (bytes : List ℕ) (at : ℕ) → at ≤ length bytes → HasNoEnd (take at bytes)
    → position (λ b. b == 10) (take (length bytes - at) (drop at bytes)) ≡ None
    → None ≡ position (λ b. b == 10) bytes
nowhere_after bytes at within lacks nowhere =
    search (arith, leb_tells, take_rest, first_is_after, length-drop)

-- what a vector's comparison with LF says
abbrev ends_mask : List ℕ → ℕ
ends_mask lanes =
    mask_l (map (top 7) (zip2 (λ a b. cond (a == b) 255 0) lanes (replicate 32 10))) % 18446744073709551616

mask_is : (bytes : List ℕ) (at : ℕ) → at + 32 ≤ length bytes
    → ends_mask (take 32 (drop at bytes)) ≡ mask_l (map (λ b. b == 10) (take 32 (drop at bytes)))
mask_is bytes at within =
    bitmask_splat w8 (λ a b. a == b) (take 32 (drop at bytes)) 32 10 (length-chunk at 32 bytes within) (omega arith)

pub lanes_without_end : (bytes : List ℕ) (at : ℕ) → at + 32 ≤ length bytes → ends_mask (take 32 (drop at bytes)) ≡ 0
    → 32 ≡ first_end (take 32 (drop at bytes))
lanes_without_end bytes at within empty = sym (
    leading_from_mask_l (λ b. b == 10) (take 32 (drop at bytes)) (sym (mask_is bytes at within) ∙ empty)
    ∙ length-chunk at 32 bytes within
    )

pub lanes_with_end : (bytes : List ℕ) (at : ℕ) → at + 32 ≤ length bytes → ends_mask (take 32 (drop at bytes)) ≢ 0
    → count_trailing_zeros 64 (ends_mask (take 32 (drop at bytes))) ≡ first_end (take 32 (drop at bytes))
lanes_with_end bytes at within some =
    ap (count_trailing_zeros 64) (mask_is bytes at within)
    ∙ trailing_mask_l (λ b. b == 10) 64 (take 32 (drop at bytes))
    (omega (arith, length-chunk at 32 bytes within)) (omega (arith, mask_is bytes at within, some))

-- among the first 512 bytes
pub line_found : (bytes : List ℕ) (n k : ℕ) → n ≡ min (length bytes) 512
    → position (λ b. b == 10) (take n bytes) ≡ Some k → IsLineAhead (k + 1) bytes
line_found bytes n k least some = search (arith, end_found, length-take, take-take)

pub no_line_found : (bytes : List ℕ) (n : ℕ) → n ≡ min (length bytes) 512
    → position (λ b. b == 10) (take n bytes) ≡ None → HasNoEnd (take 512 bytes)
no_line_found bytes n least lacks =
    elim (leb_tells 512 (length bytes)) [
      | inl long ↦
          let same : n ≡ 512 = omega (arith, least, long.1) in
          subst (λ (k : ℕ). HasNoEnd (take k bytes)) same (no_end_found (take n bytes) lacks)
      | inr few ↦
          let all : take n bytes ≡ take 512 bytes = take_all n bytes (omega (arith, least, few.1))
          ∙ sym (take_all 512 bytes (omega (arith, few.1))) in
          subst HasNoEnd all (no_end_found (take n bytes) lacks)
    ]

pub no_end_in_few : (bytes : List ℕ) → length bytes < 512 → HasNoEnd (take 512 bytes) → HasNoEnd bytes
no_end_in_few bytes few lacks = subst HasNoEnd (take_all 512 bytes (omega arith)) lacks

-- one line more
pub lines_more : (body : List ℕ) → HasNoEnd body → (passed : List ℕ) (n : ℕ) → AreLines passed n
    → AreLines (passed ++ (body ++ 10 ∷ [])) (n + 1)
lines_more body lacks _ _ none = one body [] 0 lacks none
lines_more body lacks _ _ (one line rest count ends more) =
    subst (λ (xs : List ℕ). AreLines xs (count + 1 + 1)) (sym (append_assoc line (10 ∷ rest) (body ++ 10 ∷ [])))
    (one line (rest ++ (body ++ 10 ∷ [])) (count + 1) ends (lines_more body lacks rest count more))
