-- Parts that are read along lines: what was passed, and what lies ahead.
use Rattle.std.proofs.Common.{◌≡◌, ℕ, ◌+◌, ◌≤◌, ◌<◌, ◌^◌, List, [], ◌∷◌, ◌++◌, length, take, drop, Bool, true}
use Rattle.std.proofs.Common.{false, Option, refl, sym, ap, ◌∙◌, subst, arith, inl, append_assoc, append-nil}
use Rattle.std.proofs.Common.{length-append, take-append-drop, length-take}
use Rattle.mseed_stream.specs.Device.{BytesRead, BytesWritten, nothing_read}
use Rattle.mseed_join.specs.Lines.{Line, counts_line, header_line}
use Rattle.mseed_join.specs.declared.line_reader.NextLine.TheVariants.{TooLong, Unended, Nothing}
use Rattle.mseed_join.specs.declared.joint.Joint.{Joint}
use Rattle.mseed_join.specs.declared.joint.PlaceInPart.{PlaceInPart}
use Rattle.mseed_join.specs.declared.joint.Reported.{Reported}
use Rattle.mseed_join.specs.declared.reader.Reader.{Reader}
use Rattle.mseed_join.specs.declared.flaw.Flaw.{Flaw}
use Rattle.mseed_join.specs.declared.flaw.Flaw.TheVariants.{Long, Unended as NoEnd, Missing}
use Rattle.mseed_join.specs.Flaws.{IsFlaw, IsFlawOf}
use Rattle.mseed_join.specs.Joined.{AreLines, Begins, IsBadLine, IsOfOneLine, HasNoBadLine}
use Rattle.mseed_join.specs.Reached.{OpenPart, Stage, IsStage, none, begun, whole, open_part, AreReported}
use Rattle.mseed_join.specs.Reached.{parts_at, passed_lines, start, open_text}
use Rattle.mseed_join.specs.ReadParts.{written_of}
use Rattle.mseed_join.specs.Written.{Written, Spells, channel_lines, part_text, texts}
use Rattle.mseed_join.specs.private.Along.{HasEnded, IsAlong, IsBadAfter, IsStoppedAt, can_end}
use Rattle.mseed_join.specs.private.LineReading.{GoesOn, Grows, IsLineAhead, IsOpen, IsReadBy, LiesAhead, LinesRead}
use Rattle.mseed_join.specs.private.Taking.{IsReadTo, IsTaken}
use Rattle.mseed_join.proofs.Onward.{Standing, standing}
use Rattle.mseed_join.proofs.Ahead.{IsAhead, ahead, too_long}
use Rattle.mseed_join.proofs.LinesAhead.{read_by_more, read_by_passed}
use Rattle.mseed_join.proofs.Machine.{AreAll, Runs, lines_text, nothing_first}
use Rattle.mseed_join.proofs.Taken.{texts_append}

-- ---- how few lines and parts there are
pub lines_few : (bytes : List ℕ) (n : ℕ) → AreLines bytes n → n ≤ length bytes
lines_few bytes n AreLines.none = omega arith
lines_few bytes n (AreLines.one line rest count ends more) =
    search (arith, length-append, lines_few rest count more)

part_some : (w : Written) → 1 ≤ length (part_text w)
part_some w = omega arith

texts_few : (ws : List Written) → length ws ≤ length (texts ws)
texts_few [] = omega arith
texts_few (w ∷ ws) = omega (arith, texts_few ws, part_some w, length-append (part_text w) (texts ws))

open_few : (b : OpenPart) → length (open_part b) ≤ length (open_text b)
open_few none = omega arith
open_few (begun channels) = omega (arith, length-append header_line (channel_lines channels))
open_few (whole w) = part_some w

pub parts_few : (lines : List ℕ) (s : Stage) → IsStage lines s → length (parts_at s) ≤ length lines
parts_few lines s i = search (arith, length-append, texts_few, open_few)

-- ---- what was passed begins a text
-- with which the last part would be over
abbrev rest_of : OpenPart → List ℕ
rest_of (begun channels) = counts_line 0 0
rest_of _ = []

open_whole : (b : OpenPart) → open_text b ++ rest_of b ≡ texts (open_part b)
open_whole (begun channels) = search (arith, append-nil)
open_whole _ = refl

completes : (lines : List ℕ) (s : Stage) → IsStage lines s → lines ++ rest_of s.last ≡ texts (parts_at s)
completes lines s i = search (arith, append_assoc, open_whole, texts_append)

pub begins : {A : Type 0} → (lines : List ℕ) (s : Stage) (j : Joint A) → IsReadTo lines s j → Begins j.past_faults lines
begins lines s j r = record {
  rest = rest_of s.last;
  parts = parts_at s;
  spells = record { text = completes lines s r.stage; each = r.stage.each };
  joint = written_of j.so_far;
  is_joint = r.joint;
}

-- ---- at the input's end
over_rest : (place : PlaceInPart) (b : OpenPart) → Standing place b → can_end place ≡ true → rest_of b ≡ []
over_rest _ _ (Standing.rows last cs p) e = cc e
over_rest _ _ _ e = refl

open_rest : (place : PlaceInPart) (b : OpenPart) → Standing place b → can_end place ≡ false → 0 < length (rest_of b)
open_rest _ _ (Standing.rows last cs p) e = omega arith
open_rest _ _ _ e = cc e

pub ended : {A : Type 0} → (lines : List ℕ) (s : Stage) (j : Joint A) → IsReadTo lines s j → can_end j.place ≡ true
    → Spells lines (parts_at s)
ended lines s j r e = record {
  text = sym (append-nil lines)
      ∙ ap (λ (t : List ℕ). lines ++ t) (sym (over_rest j.place s.last (standing j.place s.last r.place) e))
      ∙ completes lines s r.stage;
  each = r.stage.each;
}

pub lacks : {A : Type 0} → (lines : List ℕ) (s : Stage) (j : Joint A) → IsReadTo lines s j → can_end j.place ≡ false
    → (ws : List Written) → Spells lines ws → ⊥
lacks lines s j r e ws sp = by a.others a.text a.are a.runs
  where
    a : IsAhead s ws []
    a = ahead s lines ws [] r.stage (append-nil lines ∙ sp.text) sp.each

    by : (xs : List Line) → [] ≡ lines_text xs → AreAll xs → Runs s xs a.at → ⊥
    by [] t l runs =
        let same : parts_at s ≡ ws = ap parts_at runs ∙ a.parts_are in
        let whole_text = completes lines s r.stage ∙ ap texts same ∙ sym sp.text in
        let some = open_rest j.place s.last (standing j.place s.last r.place) e in
        absurd (omega (arith, ap length whole_text, length-append lines (rest_of s.last), some))
    by (x ∷ xs) t l runs = nothing_first x (lines_text xs) l.0 (sym t)

-- a part has begun here
missing_at : (place : PlaceInPart) (b : OpenPart) (at_end : Bool) → Standing place b → can_end place ≡ false
    → at_end ≡ true → IsFlaw Missing b [] at_end
missing_at _ _ at_end (Standing.rows last cs p) e ended = IsFlaw.missing cs at_end ended
missing_at _ _ at_end _ e ended = cc e

-- ---- what a look found, with what was passed before it
pub record IsLooked {A : Type 0} (past : Bool) (now : BytesRead) (s : Stage) (lines : LinesRead) (j : Joint A)
    : Type 0 where
  pub by : IsReadBy now lines
  pub read : IsReadTo by.passed s j
  pub past_is : j.past_faults ≡ past

pub looked : {A : Type 0} {past : Bool} {old new : BytesRead} {left rest : Option (List ℕ)} {s : Stage} {r : Reader A}
    (after : LinesRead) → IsAlong past old s r → Grows old new left rest r.lines after
    → IsLooked past new s after r.joint
looked after a g = record { by = read_by_more g a.by; read = a.read; past_is = a.past_is }

module _ {A : Type 0} {past : Bool} {now : BytesRead} {s : Stage} {lines : LinesRead} {j : Joint A}
    (l : IsLooked past now s lines j) where
  pub looked_few : lines.bytes ≤ 2 ^ 56 → (j.parts ≤ 2 ^ 56) × (lines.lines ≤ 2 ^ 56)
  looked_few few = search (arith, parts_few, lines_few)

  begun_so : Begins past l.by.passed
  begun_so = rw l.past_is at (begins {A = A} l.by.passed s j l.read)

  -- no line more was passed
  abbrev pub stops : IsStoppedAt now s
  stops = record {
    count = lines.lines;
    before = record {
      lines = l.by.passed;
      rest = lines.held;
      bytes_are = l.by.reported;
      number = l.by.lines;
      stage = l.read.stage;
    };
  }

  -- and none that was held is bad
  pub fails : IsOpen lines.held → HasNoBadLine past now.bytes
  fails held = search (arith, begins, begun_so)

  -- a bad line is the one after those that were passed, and begins where these end
  abbrev pub IsBadNext : Flaw → Type 0
  IsBadNext flaw = IsBadAfter past now s stops (lines.lines + 1) (length l.by.passed) flaw

  pub bad_next : (n offset : ℕ) (flaw : Flaw) → n ≡ lines.lines → offset + length lines.held ≡ lines.bytes
      → IsBadNext flaw → IsBadAfter past now s stops (n + 1) offset flaw
  bad_next n offset flaw same place bad = search arith

  -- the first bytes that are held are wrong
  wrong_line : (n : ℕ) (flaw : Flaw) → IsOfOneLine (take n lines.held)
      → (Begins past (l.by.passed ++ take n lines.held) → ⊥) → IsFlaw flaw s.last lines.held now.is_at_end
      → IsBadNext flaw
  wrong_line n flaw one refused why = record {
    bad = IsBadLine.wrong l.by.passed (take n lines.held) (drop n lines.held) lines.lines
        (l.by.reported ∙ ap (λ (t : List ℕ). l.by.passed ++ t) (sym (take-append-drop n lines.held))
        ∙ sym (append_assoc l.by.passed (take n lines.held) (drop n lines.held))) l.by.lines begun_so one refused;
    number = refl;
    flaw_is = why;
  }

  -- nothing is held
  all_passed : lines.held ≡ [] → now.bytes ≡ l.by.passed
  all_passed held = l.by.reported ∙ ap (λ (t : List ℕ). l.by.passed ++ t) held ∙ append-nil l.by.passed

  -- by what lies ahead, if it is no line
  pub over_at : LiesAhead Nothing lines now.is_at_end → can_end j.place ≡ true → HasEnded past now s j
  over_at lies e = record {
    stopped = stops;
    at_end = lies.0;
    spells = rw (all_passed lies.1) (ended l.by.passed s j l.read e);
    joint = rw l.past_is at l.read.joint;
    number = l.read.number;
  }

  pub long_at : LiesAhead TooLong lines now.is_at_end → IsBadNext Long
  long_at lies =
      wrong_line 512 Long (IsOfOneLine.begun (take 512 lines.held) lies.0)
      (too_long past s l.by.passed (take 512 lines.held) l.read.stage lies.0
      (omega (arith, lies.1, length-take 512 lines.held))) (IsFlaw.long s.last lines.held now.is_at_end lies.0 lies.1)

  pub unended_at : LiesAhead Unended lines now.is_at_end → IsBadNext NoEnd
  unended_at lies = record {
    bad = IsBadLine.unended l.by.passed lines.held lines.lines lies.0 l.by.reported l.by.lines begun_so lies.2 lies.1;
    number = refl;
    flaw_is = IsFlaw.unended s.last lines.held now.is_at_end lies.0 lies.2 lies.1 lies.3;
  }

  pub lacking_at : LiesAhead Nothing lines now.is_at_end → can_end j.place ≡ false → IsBadNext Missing
  lacking_at lies e = record {
    bad = rw (all_passed lies.1) (IsBadLine.lacks lines.lines lies.0 l.by.lines begun_so
        (lacks l.by.passed s j l.read e));
    number = refl;
    flaw_is = rw lies.1 (missing_at j.place s.last now.is_at_end (standing j.place s.last l.read.place) e lies.0);
  }

  -- ---- a line that was taken
  pub line_taken : {t : Stage} {r : Reader A} {report : Reported} (line : List ℕ) → IsLineAhead lines.size lines.held
      → line ≡ take lines.size lines.held → lines.held ≡ take lines.size lines.held ++ r.lines.held
      → r.lines.lines ≡ lines.lines + 1 → (r.lines.bytes ≡ lines.bytes) × (r.lines.reads ≡ lines.reads) → GoesOn now
      → IsTaken l.by.passed line s t report j r.joint → IsAlong past now t r
  line_taken {t} {r} line ahead same held more counts goes taken = record {
    by = read_by_passed ahead held more counts l.by;
    read = subst (λ (b : List ℕ). IsReadTo (l.by.passed ++ b) t r.joint) same taken.read;
    past_is = taken.past_faults ∙ l.past_is;
    goes_on = goes;
  }

  -- a whole line that is refused
  pub whole_line : (line : List ℕ) (flaw : Flaw) → IsLineAhead lines.size lines.held
      → line ≡ take lines.size lines.held → (Begins j.past_faults (l.by.passed ++ line) → ⊥) → IsFlawOf flaw s.last line
      → IsBadNext flaw
  whole_line line flaw a same refused why =
      let split = sym (take-append-drop lines.size lines.held)
      ∙ ap (λ (t : List ℕ). t ++ drop lines.size lines.held) a.line.2 in
      let long = ap length a.line.2 ∙ length-append a.line.0 (10 ∷ []) in
      let few : length a.line.0 < 512 = omega (arith, a.short, long, length-take lines.size lines.held) in
      wrong_line lines.size flaw (rw a.line.2 (IsOfOneLine.whole a.line.0 a.line.1)) (rw (same, l.past_is) at refused)
      (IsFlaw.line flaw s.last a.line.0 (drop lines.size lines.held) lines.held now.is_at_end a.line.1 few split
      (rw (same ∙ a.line.2) at why))

-- before a look
pub along_stops : {A : Type 0} {past : Bool} {now : BytesRead} {s : Stage} {r : Reader A} → IsAlong past now s r
    → IsStoppedAt now s
along_stops a = stops (record { by = a.by; read = a.read; past_is = a.past_is })

-- ---- what is reported

reported_also : (xs ys : List (List ℕ)) (a b c : BytesWritten) → AreReported xs a b → AreReported ys b c
    → AreReported (xs ++ ys) a c
reported_also xs ys a b c (AreReported.none s) q = q
reported_also xs ys a b c (AreReported.one line lines old now new t more) q =
    AreReported.one line (lines ++ ys) old now c t (reported_also lines ys now new c more q)

pub reported_more : (xs ys zs : List (List ℕ)) (a b c : BytesWritten) → AreReported xs a b → AreReported ys b c
    → zs ≡ xs ++ ys → AreReported zs a c
reported_more xs ys zs a b c p q e = search (arith, reported_also)

-- nothing was read
pub none_read : (now : BytesRead) → now ≡ nothing_read → IsStoppedAt now start
none_read now e = record {
  count = 0;
  before = record {
    lines = [];
    rest = [];
    bytes_are = ap (λ (h : BytesRead). h.bytes) e;
    number = AreLines.none;
    stage = record { text = refl; each = tt; is_where = inl refl };
  };
}

pub none_reported : (past : Bool) (at : BytesWritten) → AreReported (passed_lines past (parts_at start)) at at
none_reported true at = AreReported.none at
none_reported false at = AreReported.none at
