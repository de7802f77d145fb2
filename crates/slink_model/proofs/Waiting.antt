-- A line waits for its answer while its CR and LF are on their way.
use Rattle.std.proofs.Common.{◌≡◌, ℕ, ◌<◌, ◌≤◌, ◌⊎◌, inl, inr, suc, refl, sym, ap, subst, ◌∙◌, arith, List, [], ◌∷◌}
use Rattle.std.proofs.Common.{◌++◌}
use Rattle.std.proofs.Common.{append-nil, append_assoc, length, length-append}
use Rattle.std.proofs.lemmas.Bool.{both_ways}
use Rattle.slink_wire.specs.declared.lines.LineOutcome.{LineOutcome}
use Rattle.slink_wire.specs.declared.lines.LineOutcome.TheVariants.{More, Line, TooLong}
use Rattle.slink_wire.specs.Taking.{Yields}
use Rattle.std.proofs.lemmas.List.{append_cancel_left}
use Rattle.slink_wire.specs.Lines.{Spelled, lines_of}
use Rattle.slink_wire.proofs.Cuts.{Lacks}
use Rattle.slink_wire.specs.Written.{AreLines, IsLine, only_lines, written_bytes}
use Rattle.slink_wire.proofs.Prefixes.{prefixes}
use Rattle.slink_wire.proofs.WrittenBack.{beyond, lacks_prefix, lines_lf, lines_then, none_quiet, nothing_left}
use Rattle.slink_wire.proofs.WrittenBack.{part_quiet, prefix_spelled, whole_spelled}
use Rattle.slink_model.proofs.Lined.{IsAnswered, IsAsking}

abbrev reported : List ℕ → ℕ
reported bytes = length (lines_of bytes).lines

-- how many lines are reported with one more before it
one_reported : (line rest : List ℕ) → IsLine line → reported (line ++ 13 ∷ rest) ≡ suc (reported rest)
one_reported line rest is = ap (λ (s : Spelled). length s.lines) (lines_then line rest is)

line_unreported : (line : List ℕ) → IsLine line → reported line ≡ 0
line_unreported line is = ap length (part_quiet line is.no_cr is.short).0

prefix_unreported : (line t z : List ℕ) → IsLine line → line ≡ t ++ z → reported t ≡ 0
prefix_unreported line t z is e =
    ap length (part_quiet t (lacks_prefix t z (subst (Lacks 13) e is.no_cr))
    (let long : length line ≡ length (t ++ z) = ap length e in omega (arith, long, length-append t z, is.short))).0

none_reported : reported [] ≡ 0
none_reported = ap length none_quiet.0

-- All lines are reported, and no more than an LF is on its way, or some line isn't, and its CR and LF are.
abbrev Ends : List (List ℕ) → List ℕ → List ℕ → Type 0
Ends lines t w = (lines_of t ≡ only_lines lines) × (length w ≤ 1)

abbrev Waits : List (List ℕ) → List ℕ → List ℕ → Type 0
Waits lines t w = (reported t < length lines) × (2 ≤ length w)

after_line : (line : List ℕ) (lines : List (List ℕ)) (z w : List ℕ) → IsLine line
    → z ++ w ≡ 13 ∷ 10 ∷ written_bytes lines
    → ((u : List ℕ) → u ++ w ≡ written_bytes lines → Ends lines u w ⊎ Waits lines u w)
    → Ends (line ∷ lines) (line ++ z) w ⊎ Waits (line ∷ lines) (line ++ z) w
after_line line lines [] w is e more =
    let none : reported (line ++ []) ≡ 0 = ap reported (append-nil line) ∙ line_unreported line is in
    inr (omega (arith, none), omega (arith, ap length e))
after_line line [] (x ∷ []) w is e more =
    let first : x ≡ 13 = cc e in
    let last : w ≡ 10 ∷ [] = cc e in
    inl (rw first (lines_then line [] is ∙ ap (beyond line) (whole_spelled [] tt)), omega (arith, ap length last))
after_line line (l ∷ lines) (x ∷ []) w is e more =
    let first : x ≡ 13 = cc e in
    let others : w ≡ 10 ∷ written_bytes (l ∷ lines) = cc e in
    let one : reported (line ++ x ∷ []) ≡ 1 = ap (λ b. reported (line ++ b ∷ [])) first
    ∙ (one_reported line [] is ∙ ap suc none_reported) in
    inr (omega (arith, one), omega (arith, ap length others, length-append l (13 ∷ 10 ∷ written_bytes lines)))
after_line line lines (x ∷ y ∷ u) w is e more =
    let first : x ≡ 13 = cc e in
    let second : y ≡ 10 = cc e in
    let others : u ++ w ≡ written_bytes lines = cc e in
    let all : lines_of (line ++ x ∷ y ∷ u) ≡ beyond line (lines_of u) =
    ap (λ b. lines_of (line ++ b ∷ y ∷ u)) first ∙ (lines_then line (y ∷ u) is
    ∙ ap (beyond line) (ap (λ b. lines_of (b ∷ u)) second ∙ lines_lf u)) in
    let count : reported (line ++ x ∷ y ∷ u) ≡ suc (reported u) = ap (λ (s : Spelled). length s.lines) all in
    elim (more u others) [
      | inl ends ↦ inl (all ∙ ap (beyond line) ends.0, ends.1)
      | inr waits ↦ inr (omega (arith, count, waits.0), waits.1)
    ]

cut_lines : (lines : List (List ℕ)) (t w : List ℕ) → AreLines lines → t ++ w ≡ written_bytes lines
    → Ends lines t w ⊎ Waits lines t w
cut_lines [] t w are e =
    inl (ap lines_of (nothing_left t w e) ∙ whole_spelled [] tt, omega (arith, ap length e, length-append t w))
cut_lines (line ∷ lines) t w are e = elim (prefixes t line w (13 ∷ 10 ∷ written_bytes lines) e) [
  | inl more ↦ inr (
    omega (arith, prefix_unreported line t more.0 are.0 more.1),
    omega (
      arith,
      ap length e,
      length-append t w,
      ap length more.1,
      length-append t more.0,
      length-append line (13 ∷ 10 ∷ written_bytes lines),
    ),
  )
  | inr more ↦ subst (λ b. Ends (line ∷ lines) b w ⊎ Waits (line ∷ lines) b w) (sym more.1)
      (after_line line lines more.0 w are.0 (append_cancel_left line (more.0 ++ w) (13 ∷ 10 ∷ written_bytes lines)
      (sym (append_assoc line more.0 w) ∙ (ap (λ b. b ++ w) (sym more.1) ∙ e)))
      (λ u same. cut_lines lines u w are.1 same))
]

answered_cut : (taken way : List ℕ) (a : IsAnswered taken way)
    → (lines_of taken ≡ only_lines a.before) × (length way ≤ 1)
answered_cut taken way a = elim (cut_lines a.before taken way a.are_lines a.written) [
  | inl ends ↦ ends
  | inr waits ↦ absurd (omega (arith, waits.0, ap length a.reported))
]

-- No more than an LF is on its way once all lines are reported.
pub answered_few : (taken way : List ℕ) → IsAnswered taken way → length way ≤ 1
answered_few taken way a = (answered_cut taken way a).1

-- The CR and LF of a line that isn't reported are on their way.
pub asking_waits : (line taken way : List ℕ) → IsAsking line taken way → 2 ≤ length way
asking_waits line taken way a = elim (cut_lines (a.before ++ line ∷ []) taken way a.are_lines a.written) [
  | inl ends ↦ absurd (omega (
    arith,
    ap (λ (s : Spelled). length s.lines) ends.0,
    ap length a.reported,
    length-append a.before (line ∷ []),
  ))
  | inr waits ↦ waits.1
]

-- Nothing is spelled any more, and all lines stay answered.
pub answered_on : (taken piece way : List ℕ) → IsAnswered taken (piece ++ way)
    → (lines_of (taken ++ piece) ≡ lines_of taken) × IsAnswered (taken ++ piece) way
answered_on taken piece [] a =
    let all : taken ++ piece ≡ written_bytes a.before = ap (λ b. taken ++ b) (sym (append-nil piece)) ∙ a.written in
    let now : lines_of (taken ++ piece) ≡ only_lines a.before =
    ap lines_of all ∙ whole_spelled a.before a.are_lines in (
      now ∙ sym ((answered_cut taken (piece ++ []) a).0),
      record {
        before = a.before;
        are_lines = a.are_lines;
        written = append-nil (taken ++ piece) ∙ all;
        reported = ap (λ (s : Spelled). s.lines) now;
      },
    )
answered_on taken [] (y ∷ ys) a = (
  ap lines_of (append-nil taken),
  subst (λ b. IsAnswered b (y ∷ ys)) (sym (append-nil taken)) a,
)
answered_on taken (x ∷ piece) (y ∷ ys) a =
    absurd (omega (arith, answered_few taken (x ∷ (piece ++ y ∷ ys)) a, length-append piece (y ∷ ys)))

pub answered_more : (taken piece way : List ℕ) (what : LineOutcome) → IsAnswered taken (piece ++ way)
    → Yields what taken (taken ++ piece) → what ≡ More
answered_more taken piece way More a tells = refl
answered_more taken piece way (Line l) a tells =
    let same : lines_of (taken ++ piece) ≡ lines_of taken = (answered_on taken piece way a).0 in
    absurd (omega (
      arith,
      ap (λ (s : Spelled). length s.lines) same,
      ap length tells.0,
      length-append (lines_of taken).lines (l.items ∷ []),
    ))
answered_more taken piece way TooLong a tells =
    absurd (both_ways (lines_of (taken ++ piece)).is_too_long (ap (λ (s : Spelled). s.is_too_long)
    ((answered_on taken piece way a).0 ∙ (answered_cut taken (piece ++ way) a).0)) tells.1)

-- what more bytes add: nothing, or the line that was called last
pub data IsRead (line taken way : List ℕ) : LineOutcome → Type 0 where
  nothing : IsAsking line taken way → IsRead line taken way More
  the_line : (items : List ℕ) → items ≡ line → IsAnswered taken way
      → IsRead line taken way (Line (record { items = items }))

pub more_called : (line taken piece way : List ℕ) (what : LineOutcome) → IsAsking line taken (piece ++ way)
    → Yields what taken (taken ++ piece) → IsRead line (taken ++ piece) way what
more_called line taken piece way More a tells = nothing (record {
  before = a.before;
  are_lines = a.are_lines;
  written = append_assoc taken piece way ∙ a.written;
  reported = tells.0 ∙ a.reported;
})
more_called line taken piece way (Line l) a tells =
    let written : (taken ++ piece) ++ way ≡ written_bytes (a.before ++ line ∷ []) = append_assoc taken piece way
    ∙ a.written in
    let now : (lines_of (taken ++ piece)).lines ≡ a.before ++ l.items ∷ [] =
    tells.0 ∙ ap (λ ls. ls ++ l.items ∷ []) a.reported in
    elim (cut_lines (a.before ++ line ∷ []) (taken ++ piece) way a.are_lines written) [
      | inl ends ↦ let all = ap (λ (s : Spelled). s.lines) ends.0 in
          let last : line ∷ [] ≡ l.items ∷ [] = append_cancel_left a.before (line ∷ []) (l.items ∷ []) (sym all ∙ now)
          in the_line l.items (cc last) (record {
            before = a.before ++ line ∷ [];
            are_lines = a.are_lines;
            written = written;
            reported = all;
          })
      | inr waits ↦ absurd (omega (
        arith,
        waits.0,
        ap length now,
        length-append a.before (line ∷ []),
        length-append a.before (l.items ∷ []),
      ))
    ]
more_called line taken piece way TooLong a tells =
    let reported = prefix_spelled _ _ way a.are_lines (append_assoc taken piece way ∙ a.written) in
    absurd (both_ways (lines_of (taken ++ piece)).is_too_long reported.3 tells.1)
