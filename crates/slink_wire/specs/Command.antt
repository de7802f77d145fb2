-- Command lines (SeedLink 3, commands): words between spaces, the first of them in either case.
use Rattle.std.specs.Prelude.{◌≡◌, ℕ, ◌==◌, ◌≤◌, ◌⊎◌, not, Some, None, List, [], ◌∷◌, length, map, codes}
use Rattle.std.specs.List.{filter, slice_split}
use Rattle.std.specs.Char.{to_ascii_lowercase}
use Rattle.slink_wire.specs.declared.command.Command.{Command}
use Rattle.slink_wire.specs.declared.command.Command.TheVariants.{Hello, Station, SelectAll, Data, Fetch, End, Bye}
use Rattle.slink_wire.specs.declared.command.Command.TheVariants.{Other}
use Rattle.slink_wire.specs.Hexadecimal.{SpellsNumber}
use Rattle.slink_wire.specs.Place.{IsCode, filled}

-- the words of a line: what stands between spaces
unfoldable pub words : List ℕ → List (List ℕ)
words line = filter (λ w. not (length w == 0)) (slice_split (λ b. b == 32) line)

-- words, the first of them in small letters
abbrev pub in_small_letters : List ℕ → List ℕ
in_small_letters word = map to_ascii_lowercase word

abbrev pub folded : List (List ℕ) → List (List ℕ)
folded [] = []
folded (keyword ∷ ws) = in_small_letters keyword ∷ ws

-- a number of one to six hexadecimal digits
abbrev pub IsNumber : List ℕ → ℕ → Type 0
IsNumber word n = (1 ≤ length word) × (length word ≤ 6) × SpellsNumber word n

-- the words of each command
abbrev pub IsWritten : Command → List (List ℕ) → Type 0
IsWritten Hello ws = ws ≡ codes "hello" ∷ []
IsWritten (Station sta None) ws = (s : List ℕ) × IsCode 5 s × (sta ≡ filled 5 s) × (ws ≡ codes "station" ∷ s ∷ [])
IsWritten (Station sta (Some net)) ws = (s n : List ℕ) × IsCode 5 s × IsCode 2 n × (sta ≡ filled 5 s)
    × (net ≡ filled 2 n)
    × (ws ≡ codes "station" ∷ s ∷ n ∷ [])
IsWritten SelectAll ws = ws ≡ codes "select" ∷ []
IsWritten (Data None) ws = ws ≡ codes "data" ∷ []
IsWritten (Data (Some n)) ws = (h : List ℕ) × IsNumber h n × (ws ≡ codes "data" ∷ h ∷ [])
IsWritten (Fetch None) ws = ws ≡ codes "fetch" ∷ []
IsWritten (Fetch (Some n)) ws = (h : List ℕ) × IsNumber h n × (ws ≡ codes "fetch" ∷ h ∷ [])
IsWritten End ws = ws ≡ codes "end" ∷ []
IsWritten Bye ws = ws ≡ codes "bye" ∷ []
IsWritten Other ws = ⊥

-- Words that say no command are another.
abbrev pub IsRow : Command → List (List ℕ) → Type 0
IsRow c ws = IsWritten c ws ⊎ ((c ≡ Other) × ((d : Command) → ¬ (IsWritten d ws)))

-- the command that a line is
abbrev pub IsCommand : List ℕ → Command → Type 0
IsCommand line c = IsRow c (folded (words line))
