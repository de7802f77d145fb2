-- Replies, byte by byte.
use Rattle.std.proofs.Common.{◌≡◌, ℕ, ◌+◌, ◌-◌, ◌<◌, inl, inr, zero, suc, sym, ap, ◌∙◌, arith, true, false, ◌==◌}
use Rattle.std.proofs.Common.{List, [], ◌∷◌, ◌++◌, length, length-append, append_assoc, Option, Some, None, slice_get}
use Rattle.std.proofs.lemmas.Bool.{and_parts, cases_lt, eqb-true}
use Rattle.std.proofs.lemmas.List.{nil_from_length}
use Rattle.std.proofs.lemmas.Option.{same_Some, slice_get_past, slice_get_within}
use Rattle.slink_feed.specs.Cutting.{IsReply, IsReplyBegun, LacksEnd}
use Rattle.slink_feed.specs.private.Parts.{ends_line, ends_reply}
use Rattle.slink_feed.proofs.Prefixes.{get_left, get_here}

ends_both : (o : Option ℕ) (b : ℕ) → ends_line o b ≡ true → (o ≡ Some 13) × (b ≡ 10)
ends_both None b h = absurd (let bad : false ≡ true = h in cc bad)
ends_both (Some last) b h =
    let parts = and_parts (last == 13) (b == 10) h in
    (ap (λ x. Some x) (eqb-true last 13 parts.0), eqb-true b 10 parts.1)

both_pass : (o : Option ℕ) (b : ℕ) → ends_line o b ≡ false → o ≡ Some 13 → b ≡ 10 → ⊥
both_pass o b h last here = let bad : true ≡ false = rw (last, here) at h in cc bad

-- one byte more, which ends nothing
pub lacks_more : (xs : List ℕ) (b : ℕ) → LacksEnd xs → ends_reply xs b ≡ false → LacksEnd (xs ++ b ∷ [])
lacks_more xs b before quiet i cr lf = elim (cases_lt (i + 1) (length xs)) [
  | inl lt ↦ before i (sym (get_left xs (b ∷ []) i (omega (arith, lt))) ∙ cr) (sym (get_left xs (b ∷ []) (i + 1) lt)
      ∙ lf)
  | inr ge ↦ elim (cases_lt (length xs) (i + 1)) [
    | inl past ↦ let none : slice_get (xs ++ b ∷ []) (i + 1) ≡ None =
        slice_get_past (xs ++ b ∷ []) (i + 1) (omega (arith, past, length-append xs (b ∷ []))) in
        let bad : None ≡ Some 10 = sym none ∙ lf in cc bad
    | inr le ↦ let at : i + 1 ≡ length xs = omega (arith, ge, le) in
        let last : slice_get xs (length xs - 1) ≡ Some 13 =
        ap (slice_get xs) (let e : length xs - 1 ≡ i = omega (arith, at) in e)
        ∙ (sym (get_left xs (b ∷ []) i (omega (arith, at))) ∙ cr) in
        let here : Some b ≡ Some 10 = sym (get_here xs [] b) ∙ (ap (slice_get (xs ++ b ∷ [])) (sym at) ∙ lf) in
        both_pass (slice_get xs (length xs - 1)) b quiet last (cc here)
  ]
]

-- what stands before the last element
last_split : (xs : List ℕ) (n y : ℕ) → suc n ≡ length xs → slice_get xs n ≡ Some y → (ys : List ℕ) × (xs ≡ ys ++ y ∷ [])
last_split [] n y e h = absurd (omega (arith, e))
last_split (x ∷ xs) zero y e h = ([], cc (nil_from_length xs (omega (arith, e)), same_Some x y h))
last_split (x ∷ xs) (suc n) y e h =
    let rest = last_split xs n y (omega (arith, e)) h in (x ∷ rest.0, ap (λ zs. x ∷ zs) rest.1)

-- one byte more, which ends a reply
pub whole_reply : (xs : List ℕ) (b : ℕ) → IsReplyBegun xs → ends_reply xs b ≡ true
    → (line : List ℕ) × IsReply (xs ++ b ∷ []) line
whole_reply xs b begun ends =
    let parts : (slice_get xs (length xs - 1) ≡ Some 13) × (b ≡ 10) = ends_both (slice_get xs (length xs - 1)) b ends in
    let long : length xs - 1 < length xs = slice_get_within xs (length xs - 1) 13 parts.0 in
    let cut : (ys : List ℕ) × (xs ≡ ys ++ 13 ∷ []) = last_split xs (length xs - 1) 13 (omega (arith, long)) parts.0 in (
      cut.0,
      (
        ap (λ zs. zs ++ b ∷ []) cut.1
            ∙ (append_assoc cut.0 (13 ∷ []) (b ∷ []) ∙ ap (λ z. cut.0 ++ 13 ∷ z ∷ []) parts.1),
        rw cut.1 at begun.0,
        omega (arith, begun.1, length-append xs (b ∷ [])),
      ),
    )
