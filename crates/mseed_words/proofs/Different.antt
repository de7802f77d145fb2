-- That no place is there twice.
use Rattle.std.proofs.Common.{◌≡◌, ℕ, ◌||◌, ◌∙◌, refl, arith, true, false, not}
use Rattle.std.proofs.Common.{List, [], ◌∷◌, ◌++◌}
use Rattle.std.proofs.lemmas.Bool.{and_parts, not-true, or_parts}
use Rattle.std.proofs.lemmas.List.Folds.{list_any-append}
use Rattle.std.specs.Prelude.{bytes_eq}
use Rattle.std.proofs.lemmas.Slice.Eq.{bytes_eq-Decides}
use Rattle.slink_wire.specs.Place.{Fields}
use Rattle.mseed_words.specs.Places.{Called, are_different, has_place, is_same}

-- whether one of two lists has a place
has_both : (place : Fields) (xs ys : List Called)
    → has_place place (xs ++ ys) ≡ (has_place place xs || has_place place ys)
has_both place xs ys = list_any-append (λ (q : Called). is_same q.0 place) xs ys

eq_sym : (xs ys : List ℕ) → bytes_eq xs ys ≡ bytes_eq ys xs
eq_sym xs ys = grind (arith, bytes_eq-Decides xs ys, bytes_eq-Decides ys xs)

pub same_sym : (p q : Fields) → is_same p q ≡ is_same q p
same_sym p q = rw (eq_sym p.station q.station, eq_sym p.network q.network) refl

-- one more that isn't there
pub different_more : (taken : List Called) (p : Called) → are_different taken ≡ true → has_place p.0 taken ≡ false
    → are_different (taken ++ p ∷ []) ≡ true
different_more [] p different lacks = refl
different_more (t ∷ ts) p different lacks =
    let parts : (not (has_place t.0 ts) ≡ true) × (are_different ts ≡ true) = and_parts _ _ different in
    let apart : (is_same t.0 p.0 ≡ false) × (has_place p.0 ts ≡ false) = or_parts _ _ lacks in
    let here : has_place t.0 (ts ++ p ∷ []) ≡ false = has_both t.0 ts (p ∷ [])
    ∙ rw (same_sym p.0 t.0, apart.0, not-true _ parts.0) refl in
    rw (here, different_more ts p parts.1 apart.1) refl
