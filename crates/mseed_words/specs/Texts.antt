-- Which texts stand for the words of a command line.
use Rattle.std.specs.Prelude.{⊤, ◌≡◌, ◌<◌, ◌||◌, ◌&&◌, ◌+◌, Bool, false, not, ℕ, zero, suc, List, [], ◌∷◌}
use Rattle.std.specs.Prelude.{codes, decimal, if◌then◌else◌, length, slice_index_or, IsUtf8, bytes_eq}

-- a text that doesn't begin with a NUL is a word
abbrev pub StandsForItself : List ℕ → Type 0
StandsForItself [] = ⊤
StandsForItself (zero ∷ rest) = ⊥
StandsForItself (suc n ∷ rest) = ⊤

-- what stands for the word of this number: the number after a NUL
abbrev pub stand_in : ℕ → List ℕ
stand_in index = 0 ∷ decimal index

-- the word begins as an option
abbrev pub begins_option : List ℕ → Bool
begins_option [] = false
begins_option (b ∷ bytes) = bytes_eq (b ∷ []) (codes "-")

-- the options end with this word: what comes after it names files
abbrev pub ends_options : List ℕ → Bool
ends_options word = bytes_eq word (codes "--")

-- The text for a word, by its number and whether the options have ended before it: the word itself, where it is UTF-8;
-- of any other that begins as an option, nothing; and else what stands for it.
pub record IsTextOf (word : List ℕ) (index : ℕ) (ended : Bool) (text : List ℕ) : Type 0 where
  pub utf8 : IsUtf8 word → text ≡ word
  pub other : ¬ (IsUtf8 word) → text ≡ (if not ended && begins_option word then [] else stand_in index)

-- the texts for words, the first of which has this number
abbrev pub AreTextsFrom : ℕ → Bool → List (List ℕ) → List (List ℕ) → Type 0
AreTextsFrom index ended [] [] = ⊤
AreTextsFrom index ended [] (text ∷ texts) = ⊥
AreTextsFrom index ended (word ∷ words) [] = ⊥
AreTextsFrom index ended (word ∷ words) (text ∷ texts) =
    IsTextOf word index ended text × AreTextsFrom (index + 1) (ended || ends_options word) words texts

abbrev pub AreTextsOf : List (List ℕ) → List (List ℕ) → Type 0
AreTextsOf words texts = AreTextsFrom 0 false words texts

-- A text stands for a word of these: for itself, or for the one of the number that it has after a NUL. Nothing is said
-- of any other text.
pub record IsWordOf (words : List (List ℕ)) (text word : List ℕ) : Type 0 where
  pub itself : StandsForItself text → word ≡ text
  pub numbered : (index : ℕ) → index < length words → text ≡ stand_in index → word ≡ slice_index_or words index []
