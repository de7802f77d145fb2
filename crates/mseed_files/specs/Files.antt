-- The bytes of files, one after another.
use Rattle.std.specs.Prelude.{ℕ, List, [], ◌∷◌, ◌++◌, Option, Some, None}

-- the bytes of each of several files, where they are known
abbrev pub Contents : Type 0
Contents = List (Option (List ℕ))

-- bytes one after another, where both are known
abbrev pub joined : Option (List ℕ) → Option (List ℕ) → Option (List ℕ)
joined None rest = None
joined (Some bytes) None = None
joined (Some bytes) (Some rest) = Some (bytes ++ rest)

-- the bytes of all files, one after another, where all of them are known
abbrev pub all_of : Contents → Option (List ℕ)
all_of [] = Some []
all_of (bytes ∷ files) = joined bytes (all_of files)
