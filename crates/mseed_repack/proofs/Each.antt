-- Lists of which something is so of each member.
use Rattle.std.proofs.Common.{arith}
use Rattle.std.proofs.Common.{◌≡◌, ◌∙◌, List, [], ◌∷◌, ◌++◌, ap, append_assoc, append-nil, refl, sym}
use Rattle.std.specs.List.{AllByRecursion}
use Rattle.std.proofs.ByRecursion.{All-append}

pub each_in_leading : {X : Type 0} (P : X → Type 0) (xs ys : List X) → AllByRecursion P (xs ++ ys) → AllByRecursion P xs
each_in_leading P [] ys all = tt
each_in_leading P (x ∷ xs) ys all = (all.0, each_in_leading P xs ys all.1)

pub each_at_back : {X : Type 0} (P : X → Type 0) (xs ys : List X) → AllByRecursion P (xs ++ ys) → AllByRecursion P ys
each_at_back P [] ys all = all
each_at_back P (x ∷ xs) ys all = each_at_back P xs ys all.1

-- what is made of each of some things, one after another
abbrev pub AreMade : {X Y : Type 0} → (X → List Y → Type 0) → List X → List Y → Type 0
AreMade Of [] ys = ys ≡ []
AreMade {Y = Y} Of (x ∷ xs) ys =
    (own : List Y) × ((rest : List Y) × ((ys ≡ own ++ rest) × Of x own × AreMade Of xs rest))

pub made_push : {X Y : Type 0} (Of : X → List Y → Type 0) (xs : List X) (x : X) (ys own : List Y) → AreMade Of xs ys
    → Of x own → AreMade Of (xs ++ x ∷ []) (ys ++ own)
made_push {Y = Y} Of [] x ys own e h = (own, ([], (ap (λ (us : List Y). us ++ own) e ∙ sym (append-nil own), h, refl)))
made_push {Y = Y} Of (z ∷ xs) x ys own (mine, (rest, (parts, here, more))) h =
    grind (arith, append_assoc, made_push Of xs x rest own more h)

pub each_made : {X Y : Type 0} (Of : X → List Y → Type 0) (P : Y → Type 0)
    → ((x : X) (own : List Y) → Of x own → AllByRecursion P own) → (xs : List X) (ys : List Y) → AreMade Of xs ys
    → AllByRecursion P ys
each_made Of P one [] ys e = rw e tt
each_made Of P one (x ∷ xs) ys (own, (rest, (parts, here, more))) =
    grind (arith, All-append, each_made Of P one xs rest more)

-- a list with a member isn't empty
pub nothing_there : {X : Type 0} (leading : List X) (x : X) (back : List X) → [] ≡ leading ++ x ∷ back → ⊥
nothing_there [] x back e = cc
nothing_there (y ∷ leading) x back e = cc
