-- Lists, element by element.
use Rattle.std.proofs.Common.{◌≡◌, ℕ, ◌-◌, ◌^◌, List, [], ◌∷◌, Bool, cond, ltb, map, refl}
use mir.Syntax.{Width}
use mir.Val.{bits, hbits}
use lib.Lanes.{Each1, sel_l, top, zip2}
use Rattle.std.proofs.lemmas.Simd.{tops_compared, zip2-map}

pub same_maps : {A B : Type 0} (P : A → Type 0) (f g : A → B) → ((x : A) → P x → f x ≡ g x) → (xs : List A) → Each1 P xs
    → map f xs ≡ map g xs
same_maps P f g same [] h = refl
same_maps P f g same (x ∷ xs) h = cc (same x h.0, same_maps P f g same xs h.1)

pub each_map : {A B : Type 0} (P : A → Type 0) (Q : B → Type 0) (f : A → B) → ((x : A) → P x → Q (f x)) → (xs : List A)
    → Each1 P xs → Each1 Q (map f xs)
each_map P Q f by [] h = tt
each_map P Q f by (x ∷ xs) h = (by x h.0, each_map P Q f by xs h.1)

pub sel_maps : {A : Type 0} (p : A → Bool) (f g : A → ℕ) (xs : List A)
    → sel_l (map p xs) (map f xs) (map g xs) ≡ map (λ x. cond (p x) (f x) (g x)) xs
sel_maps p f g [] = refl
sel_maps p f g (x ∷ xs) = cc (sel_maps p f g xs)

-- the smaller of two
pub min_maps : (w : Width) (f g : ℕ → ℕ) (xs : List ℕ)
    → sel_l (map (top (hbits w)) (zip2 (λ a b. cond (ltb a b) (2 ^ bits w - 1) 0) (map f xs) (map g xs))) (map f xs)
    (map g xs) ≡ map (λ x. cond (ltb (f x) (g x)) (f x) (g x)) xs
min_maps w f g xs = rw (tops_compared w ltb (map f xs) (map g xs), zip2-map ltb f g xs)
    (sel_maps (λ x. ltb (f x) (g x)) f g xs)
