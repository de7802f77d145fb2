-- Lines as they are written: each with CR LF after it.
use Rattle.std.specs.Prelude.{◌≡◌, ℕ, ◌==◌, ◌≤◌, not, IsTrue, false, List, [], ◌∷◌, ◌++◌, length, take}
use Rattle.std.specs.List.{list_all}
use Rattle.slink_wire.specs.Lines.{Spelled, lines_of, stripped}

-- A line that a stream has as it stands: 1 to 255 bytes, no CR among them, and no LF before it.
pub record IsLine (line : List ℕ) : Type 0 where
  pub some : 1 ≤ length line
  pub short : length line ≤ 255
  pub no_cr : IsTrue (list_all (λ b. not (b == 13)) line)
  pub no_lf : stripped line ≡ line

abbrev pub AreLines : List (List ℕ) → Type 0
AreLines [] = Unit {0}
AreLines (line ∷ lines) = IsLine line × AreLines lines

-- their bytes
abbrev pub written_bytes : List (List ℕ) → List ℕ
written_bytes [] = []
written_bytes (line ∷ lines) = line ++ 13 ∷ 10 ∷ written_bytes lines

-- lines, and nothing after them
abbrev pub only_lines : List (List ℕ) → Spelled
only_lines lines = record { lines = lines; begun = []; is_too_long = false }

-- The stream spells lines from the beginning of these on, and none that is too long.
abbrev pub SpellsPrefix : List ℕ → List (List ℕ) → Type 0
SpellsPrefix stream lines = (count : ℕ) × (count ≤ length lines) × ((lines_of stream).lines ≡ take count lines)
    × ((lines_of stream).is_too_long ≡ false)
