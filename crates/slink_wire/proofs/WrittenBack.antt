-- Lines that are written are spelled again, and of a prefix of the stream a prefix of them.
use Rattle.std.proofs.Common.{◌≡◌, ℕ, ◌≤◌, refl, sym, ap, ◌∙◌, arith, Bool, true, false, not}
use Rattle.std.proofs.Common.{◌==◌, List, [], ◌∷◌, ◌++◌, append-nil, append_assoc, length, length-append, take}
use Rattle.std.specs.List.{list_all, onto_first, slice_split}
use Rattle.std.proofs.lemmas.Bool.{le-ltb, and_parts, true≢false}
use Rattle.std.proofs.lemmas.List.{take_at}
use Rattle.std.proofs.lemmas.List.Folds.{list_all-append}
use Rattle.std.proofs.lemmas.List.Splits.{slice_split_at, slice_split_none}
use Rattle.slink_wire.specs.Lines.{Spelled, lines_of, spelled_by, stripped, unless_empty}
use Rattle.slink_wire.specs.Written.{AreLines, IsLine, SpellsPrefix, only_lines, written_bytes}
use Rattle.slink_wire.proofs.Cuts.{Lacks, each_other}
use Rattle.slink_wire.proofs.Pieces.{has_piece}
use Rattle.slink_wire.proofs.Spelled.{checked, continued, ended, kept_on, stripped_short}

-- before these lines
abbrev pub beyond : List ℕ → Spelled → Spelled
beyond line s = record s { lines = line ∷ s.lines }

line_spelled : (line : List ℕ) (ps : List (List ℕ)) → 1 ≤ length ps → IsLine line
    → spelled_by (line ∷ ps) ≡ beyond line (spelled_by ps)
line_spelled line [] has is = absurd (omega arith)
line_spelled [] (p ∷ ps) has is = absurd (omega (arith, is.some))
line_spelled (b ∷ bs) (p ∷ ps) has is = rw (is.no_lf, le-ltb 255 (length (b ∷ bs)) is.short)

-- a line, and what is after its CR
pub lines_then : (line rest : List ℕ) → IsLine line → lines_of (line ++ 13 ∷ rest) ≡ beyond line (lines_of rest)
unfolding lines_of
lines_then line rest is =
    ap spelled_by (slice_split_at (λ b. b == 13) line 13 rest (each_other line 13 is.no_cr) refl)
    ∙ line_spelled line (slice_split (λ b. b == 13) rest) (has_piece (λ b. b == 13) rest) is

lf_spelled : (ps : List (List ℕ)) → spelled_by (onto_first 10 ps) ≡ spelled_by ps
lf_spelled [] = refl
lf_spelled (p ∷ []) = refl
lf_spelled (p ∷ q ∷ ps) = refl

pub lines_lf : (rest : List ℕ) → lines_of (10 ∷ rest) ≡ lines_of rest
unfolding lines_of
lines_lf rest = lf_spelled (slice_split (λ b. b == 13) rest)

-- no line is reported, and none is too long
abbrev pub Quiet : List ℕ → Type 0
Quiet bytes = ((lines_of bytes).lines ≡ []) × ((lines_of bytes).is_too_long ≡ false)

pub part_quiet : (part : List ℕ) → Lacks 13 part → length part ≤ 255 → Quiet part
unfolding lines_of
part_quiet part lacks short =
    let fits = le-ltb 255 (length (stripped part)) (omega (arith, stripped_short part)) in
    rw (slice_split_none (λ b. b == 13) part (each_other part 13 lacks), fits) (refl, refl)

pub none_quiet : Quiet []
none_quiet = part_quiet [] refl (omega arith)

pub lacks_prefix : (t z : List ℕ) → Lacks 13 (t ++ z) → Lacks 13 t
lacks_prefix t z h = (and_parts (list_all (λ b. not (b == 13)) t) (list_all (λ b. not (b == 13)) z)
    (sym (list_all-append (λ b. not (b == 13)) t z) ∙ h)).0

pub nothing_left : (t w : List ℕ) → t ++ w ≡ [] → t ≡ []
nothing_left [] w e = refl
nothing_left (x ∷ t) w e = cc

none_spelled : lines_of [] ≡ only_lines []
unfolding lines_of
none_spelled = refl

-- of all of their bytes
pub whole_spelled : (lines : List (List ℕ)) → AreLines lines → lines_of (written_bytes lines) ≡ only_lines lines
whole_spelled [] are = none_spelled
whole_spelled (line ∷ lines) are =
    rw (lines_then line (10 ∷ written_bytes lines) are.0, lines_lf (written_bytes lines), whole_spelled lines are.1)

-- with more bytes the lines stay, and a line that is too long does
abbrev Grown : Spelled → Spelled → Type 0
Grown old new =
    (more : List (List ℕ)) × (new.lines ≡ old.lines ++ more) × (new.is_too_long ≡ false → old.is_too_long ≡ false)

ended_grown : (old : Spelled) (t : Bool) (lines : List (List ℕ)) (line : List ℕ)
    → Grown old (record { lines = lines; begun = line; is_too_long = t }) → Grown old (ended lines line t)
ended_grown old true lines line h = h
ended_grown old false lines line h =
    let more : List (List ℕ) = unless_empty line in
    (h.0 ++ more, ap (λ ls. ls ++ more) h.1 ∙ append_assoc old.lines h.0 more, h.2)

checked_grown : (old : Spelled) (t : Bool) (lines : List (List ℕ)) (line : List ℕ)
    → Grown old (record { lines = lines; begun = line; is_too_long = false }) → Grown old (checked lines line t)
checked_grown old true lines line h = (h.0, h.1, λ e. absurd (true≢false e))
checked_grown old false lines line h = h

continued_grown : (old : Spelled) (b : ℕ) (t : Bool) (lines : List (List ℕ)) (line : List ℕ)
    → Grown old (record { lines = lines; begun = line; is_too_long = t }) → Grown old (continued b lines line t)
continued_grown old b true lines line h = h
continued_grown old b false lines line h = checked_grown old _ lines _ h

-- of a prefix of the lines' bytes
pub prefix_spelled : (lines : List (List ℕ)) (t w : List ℕ) → AreLines lines → t ++ w ≡ written_bytes lines
    → SpellsPrefix t lines
prefix_spelled lines t w are e =
    let old : Spelled = lines_of t in
    let grown : Grown old (lines_of (t ++ w)) =
    kept_on (Grown old) (λ s h. ended_grown old s.is_too_long s.lines s.begun h)
    (λ b s other h. continued_grown old b s.is_too_long s.lines s.begun h) t w
    ([], sym (append-nil _), λ still. still) in
    let all : Grown old (only_lines lines) = rw (e, whole_spelled lines are) at grown in (
      length old.lines,
      omega (arith, ap length all.1, length-append old.lines all.0),
      sym (ap (take (length old.lines)) all.1 ∙ take_at old.lines all.0 _ refl),
      all.2 refl,
    )
