-- An input has one list of records.
use Rattle.std.proofs.Common.{◌≡◌, ℕ, ◌∙◌, ap, refl, sym, arith, List, [], ◌∷◌, ◌++◌, length}
use Rattle.std.proofs.Common.{length-append, append_assoc, append-nil, take, drop}
use Rattle.std.proofs.Math.Seq.{drop-append_seam, take-append_seam}
use Rattle.std.proofs.lemmas.List.{append_cancel_left, nil_from_length}
use Rattle.std.specs.List.{AllByRecursion, concat}
use Rattle.slink_wire.specs.Place.{Fields}
use Rattle.slink_feed.specs.Window.{Window}
use Rattle.slink_live.specs.Input.{IsFed, IsInput, IsOf, fed}

leading_is : (places : List Fields) (r xs : List ℕ) → IsOf places r → take 512 (r ++ xs) ≡ r
leading_is places r xs of = ap (λ n. take n (r ++ xs)) (sym of.size) ∙ take-append_seam r xs

after_is : (places : List Fields) (r xs : List ℕ) → IsOf places r → drop 512 (r ++ xs) ≡ xs
after_is places r xs of = ap (λ n. drop n (r ++ xs)) (sym of.size) ∙ drop-append_seam r xs

-- the records of a prefix are a prefix of the records
grown : (places : List Fields) (rs others : List (List ℕ)) (rest left more : List ℕ)
    → AllByRecursion (IsOf places) rs → AllByRecursion (IsOf places) others → ¬ (IsOf places (take 512 left))
    → (concat rs ++ rest) ++ more ≡ concat others ++ left → (tail : List (List ℕ)) × (others ≡ rs ++ tail)
grown places [] others rest left more a b none e = (others, refl)
grown places (r ∷ rs) [] rest left more a b none e =
    let whole : left ≡ r ++ ((concat rs ++ rest) ++ more) =
    sym e ∙ rw (append_assoc r (concat rs) rest) (append_assoc r (concat rs ++ rest) more) in
    absurd (none (rw (whole, leading_is places r ((concat rs ++ rest) ++ more) a.0) a.0))
grown places (r ∷ rs) (q ∷ qs) rest left more a b none e =
    let x : List ℕ = (concat rs ++ rest) ++ more in
    let y : List ℕ = concat qs ++ left in
    let both : r ++ x ≡ q ++ y =
    rw (← (append_assoc r (concat rs ++ rest) more), ← (append_assoc r (concat rs) rest))
    (e ∙ append_assoc q (concat qs) left) in
    let same : r ≡ q = sym (leading_is places r x a.0) ∙ (ap (take 512) both ∙ leading_is places q y b.0) in
    let beyond : x ≡ y = sym (after_is places r x a.0) ∙ (ap (drop 512) both ∙ after_is places q y b.0) in
    let further : (tail : List (List ℕ)) × (qs ≡ rs ++ tail) = grown places rs qs rest left more a.1 b.1 none beyond in
    (further.0, ap (λ z. z ∷ qs) (sym same) ∙ ap (λ zs. r ∷ zs) further.1)

pub input_grows : (places : List Fields) (bytes more : List ℕ) (rs others : List (List ℕ)) (rest left : List ℕ)
    → IsInput places bytes rs rest → IsInput places (bytes ++ more) others left
    → (tail : List (List ℕ)) × (others ≡ rs ++ tail)
input_grows places bytes more rs others rest left a b =
    grown places rs others rest left more a.each b.each b.no_further (ap (λ x. x ++ more) (sym a.joined) ∙ b.joined)

pub one_input : (places : List Fields) (bytes : List ℕ) (rs others : List (List ℕ)) (rest left : List ℕ)
    → IsInput places bytes rs rest → IsInput places bytes others left → (rs ≡ others) × (rest ≡ left)
one_input places bytes rs others rest left a b =
    let longer = input_grows places bytes [] rs others rest left a (rw (append-nil bytes) b) in
    let back = input_grows places bytes [] others rs left rest b (rw (append-nil bytes) a) in
    let none : length longer.0 ≡ 0 =
    omega (arith, simp length-append at (ap length longer.1), simp length-append at (ap length back.1)) in
    let same : rs ≡ others = sym (longer.1 ∙ rw (nil_from_length longer.0 none) (append-nil rs)) in
    (same, append_cancel_left (concat rs) rest left (sym a.joined ∙ (b.joined ∙ rw same refl)))

pub one_feed : (start : List Window) (bytes : List ℕ) (feed other : List Window) → IsFed start bytes feed
    → IsFed start bytes other → feed ≡ other
one_feed start bytes feed other a b =
    a.1.feed_is ∙ (ap (fed start) (one_input _ _ _ _ _ _ a.1.input b.1.input).0 ∙ sym b.1.feed_is)
