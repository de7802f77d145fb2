-- Which line waits for its answer, as more bytes of the lines that were sent are taken.
use Rattle.std.proofs.Common.{◌≡◌, ℕ, refl, sym, ap, ◌∙◌, List, [], ◌∷◌, ◌++◌}
use Rattle.std.proofs.Common.{append_assoc}
use Rattle.slink_wire.specs.Lines.{lines_of}
use Rattle.slink_wire.specs.Written.{AreLines, IsLine, written_bytes}
use Rattle.slink_wire.proofs.WrittenBack.{none_quiet}

pub bytes_more : (lines : List (List ℕ)) (line : List ℕ)
    → written_bytes (lines ++ line ∷ []) ≡ written_bytes lines ++ (line ++ 13 ∷ 10 ∷ [])
bytes_more [] line = refl
bytes_more (l ∷ lines) line =
    ap (λ b. l ++ 13 ∷ 10 ∷ b) (bytes_more lines line)
    ∙ sym (append_assoc l (13 ∷ 10 ∷ written_bytes lines) (line ++ 13 ∷ 10 ∷ []))

pub lines_more : (lines : List (List ℕ)) (line : List ℕ) → AreLines lines → IsLine line → AreLines (lines ++ line ∷ [])
lines_more [] line are is = (is, tt)
lines_more (l ∷ lines) line are is = (are.0, lines_more lines line are.1 is)

-- the last line of some was called last, and isn't reported yet
pub record IsAsking (line taken way : List ℕ) : Type 0 where
  pub before : List (List ℕ)
  pub are_lines : AreLines (before ++ line ∷ [])
  pub written : taken ++ way ≡ written_bytes (before ++ line ∷ [])
  pub reported : (lines_of taken).lines ≡ before

-- all lines are reported
pub record IsAnswered (taken way : List ℕ) : Type 0 where
  pub before : List (List ℕ)
  pub are_lines : AreLines before
  pub written : taken ++ way ≡ written_bytes before
  pub reported : (lines_of taken).lines ≡ before

-- one line more is sent
pub asks_more : (line taken way : List ℕ) → IsLine line → IsAnswered taken way
    → IsAsking line taken (way ++ (line ++ 13 ∷ 10 ∷ []))
asks_more line taken way is a = record {
  before = a.before;
  are_lines = lines_more a.before line a.are_lines is;
  written = sym (append_assoc taken way (line ++ 13 ∷ 10 ∷ []))
      ∙ (ap (λ b. b ++ (line ++ 13 ∷ 10 ∷ [])) a.written ∙ sym (bytes_more a.before line));
  reported = a.reported;
}

asks_first : (line : List ℕ) → IsLine line → (lines_of []).lines ≡ [] → IsAsking line [] (line ++ 13 ∷ 10 ∷ [])
asks_first line is none = record { before = []; are_lines = (is, tt); written = refl; reported = none }

pub begins_asking : (line : List ℕ) → IsLine line → IsAsking line [] (line ++ 13 ∷ 10 ∷ [])
begins_asking line is = asks_first line is none_quiet.0
