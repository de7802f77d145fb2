-- The words of a command line up to one of them.
use Rattle.std.proofs.Common.{◌≡◌, ◌+◌, ◌++◌, ◌∙◌, ℕ, List, [], ◌∷◌, Option, Some, None, IfSome, ap}
use Rattle.std.proofs.Common.{map, refl, take}
use Rattle.std.proofs.lemmas.List.{map_push, take_more}
use Rattle.mseed_words.specs.Arguments.{IsWordOrEnd}

-- these are the words before the one of this number, where they are known
abbrev pub AreBefore : Option (List (List ℕ)) → ℕ → List (List ℕ) → Type 0
AreBefore given index words = IfSome given (λ all. words ≡ take index all)

-- with one more
before_more : (given : Option (List (List ℕ))) (index : ℕ) (words : List (List ℕ)) (word : List ℕ)
    → AreBefore given index words → IfSome given (λ all. IsWordOrEnd all index (Some word))
    → AreBefore given (index + 1) (words ++ word ∷ [])
before_more None index words word are one = tt
before_more (Some all) index words word are one =
    rw (are, one.1, take_more all index [] one.0) refl

pub word_more : {W : Type 0} (f : W → List ℕ) (given : Option (List (List ℕ))) (index : ℕ) (old new : List W) (word : W)
    → AreBefore given index (map f old) → new ≡ old ++ word ∷ []
    → IfSome given (λ all. IsWordOrEnd all index (Some (f word))) → AreBefore given (index + 1) (map f new)
word_more f given index old new word are pushed one =
    rw (ap (map f) pushed ∙ map_push f old word) (before_more given index (map f old) (f word) are one)
