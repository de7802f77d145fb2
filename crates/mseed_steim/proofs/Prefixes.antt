-- What the items of a payload's words are, in the words of runs; and what two runs have in common.
use Rattle.std.proofs.Common.{◌≡◌, List, [], ◌∷◌, ◌++◌, map, ℤ, refl, sym, append-nil, Ok, Err}
use Rattle.std.proofs.Common.{arith, subst}
use Rattle.mseed_steim.specs.declared.scheme.Scheme.{Scheme}
use Rattle.mseed_steim.specs.Spelling.{SpellsNone}
use Rattle.mseed_steim.specs.Frames.{DataWord}
use Rattle.mseed_steim.specs.Runs.{SpellsRun, place_of, Gives, all, broken}
use Rattle.mseed_steim.specs.private.Items.{Items}
use Rattle.mseed_steim.specs.private.Sums.{IsEnd}

-- words end, or go on with a bad one
abbrev pub Stops : Scheme → List DataWord → Type 0
Stops s [] = Unit {0}
Stops s (bad ∷ after) = SpellsNone s bad.code bad.bits

-- and what they give there
abbrev pub last_item : List DataWord → Items
last_item [] = []
last_item (bad ∷ after) = Err (place_of bad) ∷ []

pub last_ends : (ws : List DataWord) → IsEnd (last_item ws)
last_ends [] = tt
last_ends (w ∷ ws) = tt

-- the words spell these differences, and then stop
pub record Ending (s : Scheme) (words : List DataWord) (ds : List ℤ) (rest : List DataWord) : Type 0 where
  pub before : List DataWord
  pub cut : words ≡ before ++ rest
  pub spelled : SpellsRun s before ds
  pub stops : Stops s rest

-- so they give them
pub record Giving (s : Scheme) (words : List DataWord) (items : Items) : Type 0 where
  pub ds : List ℤ
  pub rest : List DataWord
  pub ending : Ending s words ds rest
  pub is : items ≡ map Ok ds ++ last_item rest

pub giving : (s : Scheme) (words : List DataWord) (items : Items) → Gives s words items → Giving s words items
giving s words items (all ds run e) = grind (arith, append-nil)
giving s words items (broken before bad after ds cut run none e) = grind arith

-- items that end so begin with no more differences
pub begin_items : (ds es : List ℤ) (a b : Items) → IsEnd b → map Ok es ++ b ≡ map Ok ds ++ a
    → (t : List ℤ) × (es ≡ ds ++ t)
begin_items [] es a b end e = (es, refl)
begin_items (d ∷ ds) [] a b end e = absurd (subst IsEnd e end)
begin_items (d ∷ ds) (x ∷ es) a b end e =
    let rest : map Ok es ++ b ≡ map Ok ds ++ a = cc in
    let found = begin_items ds es a b end rest in
    (found.0, cc (found.1))

-- and end in one way
pub end_items : (ds es : List ℤ) (a b : Items) → IsEnd a → IsEnd b → map Ok es ++ b ≡ map Ok ds ++ a
    → (es ≡ ds) × (b ≡ a)
end_items [] [] a b ends end e = (refl, e)
end_items [] (x ∷ es) a b ends end e = absurd (subst IsEnd (sym e) ends)
end_items (d ∷ ds) [] a b ends end e = absurd (subst IsEnd e end)
end_items (d ∷ ds) (x ∷ es) a b ends end e =
    let rest : map Ok es ++ b ≡ map Ok ds ++ a = cc in
    let found = end_items ds es a b ends end rest in
    (cc (found.0), found.1)
