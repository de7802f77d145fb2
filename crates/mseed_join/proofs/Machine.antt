-- Parts as lists of lines, and how reading goes along them.
use Rattle.std.proofs.Common.{◌≡◌, ℕ, zero, suc, ◌<◌, ◌^◌, List, [], ◌∷◌, ◌++◌, length, Option, Some, None}
use Rattle.std.proofs.Common.{refl, sym, ap, ◌∙◌, subst, arith, append_assoc, append-nil, IfSome}
use Rattle.std.specs.List.{AllByRecursion}
use Rattle.std.proofs.ByRecursion.{All-append}
use Rattle.std.proofs.lemmas.List.{length-append}
use Rattle.mseed_stream.specs.declared.fault.StreamFault.{StreamFault}
use Rattle.mseed_audit.specs.declared.channel.Channel.{Channel}
use Rattle.mseed_text.specs.Fault.{end_line}
use Rattle.mseed_join.specs.Lines.{Line, header, channel, counts, faults, fault, text_of_line, IsLine}
use Rattle.mseed_join.specs.Lines.{header_line}
use Rattle.mseed_join.specs.Lines.{faults_line, HasChannelLine, HasFaultLine}
use Rattle.mseed_join.proofs.OneLine.{line_one}
use Rattle.mseed_join.specs.Written.{Written, HasText, channel_lines, part_text, texts}
use Rattle.mseed_join.specs.Reached.{OpenPart, none, begun, whole, Stage, open_part, open_text}
use Rattle.mseed_join.specs.private.Steps.{May, to}
use Rattle.mseed_join.proofs.Ended.{IsEnded, ended, same_line}
pub use Rattle.mseed_join.proofs.Adding.{Entries}

-- ---- the lines of parts
abbrev pub lines_text : List Line → List ℕ
lines_text [] = []
lines_text (x ∷ xs) = text_of_line x ++ lines_text xs

abbrev pub AreAll : List Line → Type 0
AreAll xs = AllByRecursion IsLine xs

abbrev pub rows : Entries → List Line
rows [] = []
rows (e ∷ es) = channel e.0 e.1 ∷ rows es

abbrev pub faults_row : ℕ → List Line
faults_row zero = []
faults_row (suc n) = faults (suc n) ∷ []

abbrev pub end_row : ℕ → Option StreamFault → List Line
end_row bytes None = []
end_row bytes (Some f) = fault bytes f ∷ []

abbrev pub part_rows : Written → List Line
part_rows w =
    header ∷ (rows w.part.channels ++ counts w.part.records w.part.bytes ∷ (faults_row w.faults
    ++ end_row w.part.bytes w.end))

abbrev pub all_rows : List Written → List Line
all_rows [] = []
all_rows (w ∷ ws) = part_rows w ++ all_rows ws

abbrev pub open_rows : OpenPart → List Line
open_rows none = []
open_rows (begun channels) = header ∷ rows channels
open_rows (whole w) = part_rows w

-- ---- their texts
pub rows_append : {X : Type 0} (row : X → List ℕ) (text : List X → List ℕ) → text [] ≡ []
    → ((x : X) (xs : List X) → text (x ∷ xs) ≡ row x ++ text xs) → (xs ys : List X)
    → text (xs ++ ys) ≡ text xs ++ text ys
rows_append row text nil more [] ys = ap (λ (t : List ℕ). t ++ text ys) (sym nil)
rows_append row text nil more (x ∷ xs) ys =
    search (arith, append_assoc, rows_append row text nil more xs ys)

pub text_append : (xs ys : List Line) → lines_text (xs ++ ys) ≡ lines_text xs ++ lines_text ys
text_append = rows_append text_of_line lines_text refl (λ x xs. refl)

rows_text : (es : Entries) → lines_text (rows es) ≡ channel_lines es
rows_text [] = refl
rows_text (e ∷ es) = ap (λ (t : List ℕ). text_of_line (channel e.0 e.1) ++ t) (rows_text es)

faults_text : (n : ℕ) → lines_text (faults_row n) ≡ faults_line n
faults_text n = grind (arith, append-nil)

end_text : (bytes : ℕ) (end : Option StreamFault) → lines_text (end_row bytes end) ≡ end_line end
end_text bytes end = grind (arith, append-nil)

pub part_text_is : (w : Written) → lines_text (part_rows w) ≡ part_text w
part_text_is w =
    search (arith, text_append, faults_text, end_text, rows_text, append_assoc)

pub texts_are : (ws : List Written) → lines_text (all_rows ws) ≡ texts ws
texts_are [] = refl
texts_are (w ∷ ws) = text_append (part_rows w) (all_rows ws) ∙ (λ i. part_text_is w i ++ texts_are ws i)

pub open_text_is : (b : OpenPart) → lines_text (open_rows b) ≡ open_text b
open_text_is none = refl
open_text_is (begun channels) = ap (λ (t : List ℕ). header_line ++ t) (rows_text channels)
open_text_is (whole w) = part_text_is w

-- ---- and their ranges
rows_are : (es : Entries) → AllByRecursion (λ (e : List ℕ × Channel). HasChannelLine e.0 e.1) es → AreAll (rows es)
rows_are [] h = h
rows_are (e ∷ es) h = (h.0, rows_are es h.1)

faults_are : (n : ℕ) → n < 2 ^ 63 → AreAll (faults_row n)
faults_are n h1 = grind arith

end_are : (bytes : ℕ) (end : Option StreamFault) → IfSome end (λ f. HasFaultLine bytes f)
    → AreAll (end_row bytes end)
end_are bytes end h1 = grind arith

pub part_are : (w : Written) → HasText w → AreAll (part_rows w)
part_are w h = search (arith, All-append, rows_are, faults_are, end_are)

pub texts_all : (ws : List Written) → AllByRecursion HasText ws → AreAll (all_rows ws)
texts_all [] h = tt
texts_all (w ∷ ws) h = All-append IsLine (part_rows w) (all_rows ws) (part_are w h.0) (texts_all ws h.1)

pub open_all : (b : OpenPart) → AllByRecursion HasText (open_part b) → AreAll (open_rows b)
open_all b h1 = grind (arith, rows_are, part_are)

-- ---- bytes are the lines of one list
-- what lies after lines that begin a text
pub record LeavesLines (ys xs : List Line) (rest : List ℕ) : Type 0 where
  pub others : List Line
  pub lines : ys ≡ xs ++ others
  pub text : rest ≡ lines_text others
  pub are : AreAll others

pub nothing_first : (x : Line) (rest : List ℕ) → IsLine x → text_of_line x ++ rest ≡ [] → ⊥
nothing_first x rest l e =
    let t : IsEnded (text_of_line x) = ended x l in
    let some = ap length t.is ∙ length-append t.body (10 ∷ []) in
    absurd (omega (arith, some, ap length e, length-append (text_of_line x) rest))

pub first_same : (x y : Line) (r s : List ℕ) → IsLine x → IsLine y → text_of_line x ++ r ≡ text_of_line y ++ s
    → (x ≡ y) × (r ≡ s)
first_same x y r s l m e = search (arith, ended, append_assoc, same_line, line_one)

pub leaves : (xs ys : List Line) (rest : List ℕ) → AreAll xs → AreAll ys → lines_text xs ++ rest ≡ lines_text ys
    → LeavesLines ys xs rest
leaves [] ys rest p q e = record { others = ys; lines = refl; text = e; are = q }
leaves (x ∷ xs) [] rest p q e = search (arith, nothing_first, append_assoc)
leaves (x ∷ xs) (y ∷ ys) rest p q e =
    let both = first_same x y (lines_text xs ++ rest) (lines_text ys) p.0 q.0
    (sym (append_assoc (text_of_line x) (lines_text xs) rest) ∙ e) in
    let more : LeavesLines ys xs rest = leaves xs ys rest p.1 q.1 both.1 in record {
      others = more.others;
      lines = (λ i. sym both.0 i ∷ more.lines i);
      text = more.text;
      are = more.are;
    }

-- ---- how reading goes along lines
abbrev pub Runs : Stage → List Line → Stage → Type 0
Runs s [] t = s ≡ t
Runs s (x ∷ xs) t = May s.last x × Runs (to s x) xs t

pub runs_on : (s m t : Stage) (xs ys : List Line) → Runs s xs m → Runs m ys t → Runs s (xs ++ ys) t
runs_on s m t [] ys p q = subst (λ (n : Stage). Runs n ys t) (sym p) q
runs_on s m t (x ∷ xs) ys p q = (p.0, runs_on (to s x) m t xs ys p.1 q)

pub runs_rest : (s m t : Stage) (xs ys : List Line) → Runs s xs m → Runs s (xs ++ ys) t → Runs m ys t
runs_rest s m t [] ys p q = subst (λ (n : Stage). Runs n ys t) p q
runs_rest s m t (x ∷ xs) ys p q = runs_rest (to s x) m t xs ys p.1 q.1
