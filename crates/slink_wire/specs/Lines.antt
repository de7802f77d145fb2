-- Command lines out of a stream of bytes (SeedLink 3, commands). A CR ends a line; LF bytes before a line are
-- dropped, and so is an empty line.
use Rattle.std.specs.Prelude.{◌≡◌, ℕ, Bool, true, false, ◌==◌, nat_lt, if◌then◌else◌, List, [], ◌∷◌, ◌++◌, length}
use Rattle.std.specs.List.{slice_split}

-- what a stream spells: its lines, what is there of the next one, and whether it ended in one that is too long
pub record Spelled : Type 0 where
  pub lines : List (List ℕ)
  pub begun : List ℕ
  pub is_too_long : Bool

-- a piece without the LF bytes before it
abbrev pub stripped : List ℕ → List ℕ
stripped [] = []
stripped (b ∷ bs) = if b == 10 then stripped bs else b ∷ bs

-- a line, unless it is empty
abbrev pub unless_empty : List ℕ → List (List ℕ)
unless_empty [] = []
unless_empty (b ∷ bs) = (b ∷ bs) ∷ []

-- A line has at most 255 bytes. With more, the stream has ended.
abbrev pub too_long : Spelled
too_long = record { lines = []; begun = []; is_too_long = true }

-- a piece before these others is a line, and the last one is begun
abbrev pub with_piece : List ℕ → List (List ℕ) → Spelled → Spelled
with_piece piece [] rest = record { lines = []; begun = piece; is_too_long = false }
with_piece piece (other ∷ others) rest = record rest { lines = unless_empty piece ++ rest.lines }

-- what pieces spell, one after another
abbrev pub spelled_by : List (List ℕ) → Spelled
spelled_by [] = record { lines = []; begun = []; is_too_long = false }
spelled_by (piece ∷ others) =
    if nat_lt 255 (length (stripped piece)) then too_long else with_piece (stripped piece) others (spelled_by others)

-- what a stream spells: it is cut at each CR
unfoldable pub lines_of : List ℕ → Spelled
lines_of stream = spelled_by (slice_split (λ b. b == 13) stream)

-- what is held of a stream: what is there of the next line, and whether it ended in one that is too long
pub record Held : Type 0 where
  pub begun : List ℕ
  pub is_too_long : Bool

-- this is what is held of the bytes of a stream
abbrev pub IsHeld : Held → List ℕ → Type 0
IsHeld held stream = (held.begun ≡ (lines_of stream).begun) × (held.is_too_long ≡ (lines_of stream).is_too_long)

-- no line ends between the two, and none is too long
abbrev pub YieldsNothing : List ℕ → List ℕ → Type 0
YieldsNothing before after = ((lines_of after).lines ≡ (lines_of before).lines) × ((lines_of after).is_too_long ≡ false)
