-- What a stream spells with one byte more.
use Rattle.std.proofs.Common.{◌≡◌, ℕ, ◌≤◌, ◌<◌, ◌≢◌, inl, inr, refl, ap, ◌∙◌, arith, Bool, true, false}
use Rattle.std.proofs.Common.{◌==◌, nat_lt, if◌then◌else◌, List, [], ◌∷◌, ◌++◌, length, length-append, append_assoc}
use Rattle.std.proofs.Common.{append-nil}
use Rattle.std.specs.List.{slice_split}
use Rattle.std.proofs.lemmas.Bool.{lt-ltb, ne_eqb}
use Rattle.std.proofs.lemmas.Bool.Decides.{eqb_tells, leb_tells}
use Rattle.slink_wire.specs.Lines.{Spelled, lines_of, spelled_by, stripped, too_long, unless_empty}
use Rattle.slink_wire.proofs.Pieces.{onto_last, split_on, split_there}

-- with a CR, what was begun is a line
abbrev pub ended : List (List ℕ) → List ℕ → Bool → Spelled
ended lines line true = record { lines = lines; begun = line; is_too_long = true }
ended lines line false = record { lines = lines ++ unless_empty line; begun = []; is_too_long = false }

-- with another byte, what was begun goes on, or is too long
abbrev pub checked : List (List ℕ) → List ℕ → Bool → Spelled
checked lines line true = record { lines = lines; begun = []; is_too_long = true }
checked lines line false = record { lines = lines; begun = line; is_too_long = false }

abbrev pub continued : ℕ → List (List ℕ) → List ℕ → Bool → Spelled
continued b lines line true = record { lines = lines; begun = line; is_too_long = true }
continued b lines line false =
    checked lines (stripped (line ++ b ∷ [])) (nat_lt 255 (length (stripped (line ++ b ∷ []))))

abbrev pub with_cr : Spelled → Spelled
with_cr s = ended s.lines s.begun s.is_too_long

abbrev pub with_byte : ℕ → Spelled → Spelled
with_byte b s = continued b s.lines s.begun s.is_too_long

pub stripped_short : (line : List ℕ) → length (stripped line) ≤ length line
stripped_short [] = omega arith
stripped_short (x ∷ xs) = elim (eqb_tells x 10) [
  | inl lf ↦ rw (lf.0) (omega (arith, stripped_short xs))
  | inr other ↦ rw (other.0) (omega arith)
]

-- bytes after what was stripped
stripped_past : (piece more : List ℕ) → stripped (stripped piece ++ more) ≡ stripped (piece ++ more)
stripped_past [] more = refl
stripped_past (x ∷ xs) more = elim (eqb_tells x 10) [
  | inl lf ↦ simp (lf.0) (stripped_past xs more)
  | inr other ↦ simp (other.0)
]

pub stripped_twice : (piece : List ℕ) → stripped (stripped piece) ≡ stripped piece
stripped_twice piece = simp append-nil at (stripped_past piece [])

-- a byte goes on a line that has begun, and begins one if it is no LF
pub goes_on : (line : List ℕ) (b : ℕ) → stripped line ≡ line → (b ≡ 10 → 1 ≤ length line)
    → stripped (line ++ b ∷ []) ≡ line ++ b ∷ []
goes_on [] b same some = rw (ne_eqb b 10 (λ lf. omega (arith, some lf)))
goes_on (x ∷ xs) b same some = elim (eqb_tells x 10) [
  | inl lf ↦ absurd (omega (arith, stripped_short xs, ap length (rw (lf.0) at same)))
  | inr other ↦ rw (other.0)
]

-- a line that was too long stays so
stays_long : (b : ℕ) (piece : List ℕ) → 255 < length (stripped piece) → 255 < length (stripped (piece ++ b ∷ []))
stays_long b piece long =
    let on = goes_on (stripped piece) b (stripped_twice piece) (λ lf. omega arith) in
    rw (← stripped_past piece (b ∷ []), on, length-append (stripped piece) (b ∷ [])) (omega arith)

cr_last : (t : Bool) (line : List ℕ)
    → (if t then too_long else (record { lines = unless_empty line ++ []; begun = []; is_too_long = false }))
    ≡ with_cr (if t then too_long else (record { lines = []; begun = line; is_too_long = false }))
cr_last t line = grind (arith, append-nil)

-- before these lines
abbrev before : List (List ℕ) → Spelled → Spelled
before first s = record s { lines = first ++ s.lines }

cr_before : (t : Bool) (first : List (List ℕ)) (s : Spelled)
    → (if t then too_long else before first (with_cr s)) ≡ with_cr (if t then too_long else before first s)
cr_before t first s = grind (arith, append_assoc)

spelled_cr : (pieces : List (List ℕ)) → spelled_by (pieces ++ [] ∷ []) ≡ with_cr (spelled_by pieces)
spelled_cr [] = refl
spelled_cr (piece ∷ []) = cr_last (nat_lt 255 (length (stripped piece))) (stripped piece)
spelled_cr (piece ∷ other ∷ others) = rw (spelled_cr (other ∷ others))
    (cr_before (nat_lt 255 (length (stripped piece))) (unless_empty (stripped piece)) (spelled_by (other ∷ others)))

byte_before : (b : ℕ) (t : Bool) (first : List (List ℕ)) (s : Spelled)
    → (if t then too_long else before first (with_byte b s)) ≡ with_byte b (if t then too_long else before first s)
byte_before b t first s = grind arith

as_checked : (t : Bool) (line : List ℕ)
    → (if t then too_long else (record { lines = []; begun = line; is_too_long = false })) ≡ checked [] line t
as_checked true line = refl
as_checked false line = refl

byte_last : (b : ℕ) (piece : List ℕ) → spelled_by ((piece ++ b ∷ []) ∷ []) ≡ with_byte b (spelled_by (piece ∷ []))
byte_last b piece = elim (leb_tells 256 (length (stripped piece))) [
  | inl long ↦ rw (long.0, lt-ltb 255 _ (stays_long b piece long.1))
  | inr fits ↦ rw (fits.0, stripped_past piece (b ∷ [])) (as_checked _ _)
]

spelled_byte : (b : ℕ) (pieces : List (List ℕ)) → spelled_by (onto_last b pieces) ≡ with_byte b (spelled_by pieces)
spelled_byte b [] = as_checked (nat_lt 255 (length (stripped (b ∷ [])))) (stripped (b ∷ []))
spelled_byte b (piece ∷ []) = byte_last b piece
spelled_byte b (piece ∷ other ∷ []) = rw (spelled_byte b (other ∷ []))
    (byte_before b (nat_lt 255 (length (stripped piece))) (unless_empty (stripped piece)) (spelled_by (other ∷ [])))
spelled_byte b (piece ∷ other ∷ next ∷ others) = rw (spelled_byte b (other ∷ next ∷ others))
    (byte_before b (nat_lt 255 (length (stripped piece))) (unless_empty (stripped piece))
    (spelled_by (other ∷ next ∷ others)))

pub lines_cr : (stream : List ℕ) → lines_of (stream ++ 13 ∷ []) ≡ with_cr (lines_of stream)
unfolding lines_of
lines_cr stream = ap spelled_by (split_there (λ b. b == 13) stream 13 refl)
    ∙ spelled_cr (slice_split (λ b. b == 13) stream)

pub lines_byte : (stream : List ℕ) (b : ℕ) → b ≢ 13 → lines_of (stream ++ b ∷ []) ≡ with_byte b (lines_of stream)
unfolding lines_of
lines_byte stream b n = ap spelled_by (split_on (λ x. x == 13) stream b (ne_eqb b 13 n))
    ∙ spelled_byte b (slice_split (λ x. x == 13) stream)

-- what each byte keeps is kept by all of them
pub kept_on : (P : Spelled → Type 0) → ((s : Spelled) → P s → P (with_cr s))
    → ((b : ℕ) (s : Spelled) → b ≢ 13 → P s → P (with_byte b s))
    → (stream more : List ℕ) → P (lines_of stream) → P (lines_of (stream ++ more))
kept_on P cr byte stream [] h = rw append-nil h
kept_on P cr byte stream (b ∷ more) h =
    let next : P (lines_of (stream ++ b ∷ [])) = elim (eqb_tells b 13) [
      | inl same ↦ rw (same.1, lines_cr stream) (cr (lines_of stream) h)
      | inr other ↦ rw (lines_byte stream b other.1) (byte b (lines_of stream) other.1 h)
    ] in
    rw append_assoc at (kept_on P cr byte (stream ++ b ∷ []) more next)
