-- How a command line is read: its words, and its keyword.
use Rattle.std.specs.Prelude.{◌≡◌, ℕ, ◌≤◌, ◌⊎◌, List, [], ◌∷◌, length, codes}
use Rattle.slink_wire.specs.declared.words.Words.{Words}
use Rattle.slink_wire.specs.declared.words.Words.TheVariants.{One, Two, Three, Others}
use Rattle.slink_wire.specs.declared.keyword.Keyword.{Keyword}
use Rattle.slink_wire.specs.declared.keyword.Keyword.TheVariants.{Hello, Station, Select, Data, Fetch, End, Bye}

-- the keywords, in small letters
abbrev pub text_of : Keyword → List ℕ
text_of Hello = codes "hello"
text_of Station = codes "station"
text_of Select = codes "select"
text_of Data = codes "data"
text_of Fetch = codes "fetch"
text_of End = codes "end"
text_of Bye = codes "bye"

-- one to three words, or another number of them
abbrev pub AreWords : Words → List (List ℕ) → Type 0
AreWords (One a) ws = ws ≡ a.now ∷ []
AreWords (Two a b) ws = ws ≡ a.now ∷ b.now ∷ []
AreWords (Three a b c) ws = ws ≡ a.now ∷ b.now ∷ c.now ∷ []
AreWords Others ws = (length ws ≡ 0) ⊎ (4 ≤ length ws)
