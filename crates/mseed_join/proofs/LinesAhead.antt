-- What a reader of lines holds, as it reads more and passes lines.
use Rattle.std.proofs.Common.{◌≡◌, ℕ, ◌+◌, ◌<◌, ◌≤◌, List, [], ◌++◌, length, take, drop, Bool, true, false, Option, Ok}
use Rattle.std.proofs.Common.{refl, sym, ap, subst, ◌∙◌, arith, append_assoc, length-append, slice_range}
use Rattle.std.proofs.Common.{take-append-drop, not, ◌&&◌, ◌||◌, ◌==◌, Result, Err}
use Rattle.std.specs.Prelude.{IsTrue}
use Rattle.std.proofs.lemmas.Bool.{false≢true, or_right}
use Rattle.std.proofs.lemmas.Bool.Decides.{eqb_tells}
use Rattle.std.proofs.lemmas.List.{append-nil, drop-append-le, drop-drop, length-take-le}
use Rattle.std.proofs.lemmas.Slice.{between_is}
use Rattle.std.proofs.Math.Seq.{take-add}
use Rattle.std.proofs.KnownBytes.{Consumes-nil, Consumes-trans}
use Rattle.std.specs.Io.KnownBytes.{IsAtEnd}
use Rattle.mseed_stream.specs.Calls.{ReadsOn}
use Rattle.mseed_stream.specs.Device.{Beside, BytesRead}
use Rattle.mseed_stream.specs.declared.fault.StreamFault.{StreamFault}
use Rattle.mseed_stream.specs.declared.fault.StreamFault.TheVariants.{Frame, Read, Turns}
use Rattle.mseed_join.specs.declared.line_reader.NextLine.{NextLine}
use Rattle.mseed_join.specs.declared.line_reader.NextLine.TheVariants.{Unended, Nothing}
use Rattle.mseed_join.specs.Joined.{AreLines}
use Rattle.mseed_join.specs.ReadParts.{IsReadFault}
use Rattle.mseed_join.specs.private.LineReading.{LinesRead, Grows, GrowsTo, IsReadBy}
use Rattle.mseed_join.specs.private.LineReading.{GoesOn, IfGoesOn, IsLineAhead, IsFaultOfOneRead}
use Rattle.mseed_join.proofs.LineEnds.{lines_more}

-- n bytes more after those that are held
pub held_more : (items now : List ℕ) (begin end n : ℕ) → take end now ≡ take end items → begin ≤ end
    → end ≤ length now → slice_range now begin (end + n) ≡ slice_range items begin end ++ take n (drop end now)
held_more items now begin end n same low high =
    search (arith, length-take-le, between_is, take-add, drop-append-le)

-- the first of the bytes that are held, and the rest
pub held_parts : (items : List ℕ) (begin size end : ℕ) → slice_range items begin end
    ≡ take size (slice_range items begin end) ++ slice_range items (begin + size) end
held_parts items begin size end =
    let held : List ℕ = slice_range items begin end in
    let rest = ap (λ (xs : List ℕ). drop size xs) (between_is items begin end)
    ∙ (drop-drop size begin (take end items) ∙ sym (between_is items (begin + size) end)) in
    sym (take-append-drop size held) ∙ ap (λ (xs : List ℕ). take size held ++ xs) rest

pub grows_not : (h : BytesRead) (left : Option (List ℕ)) (r : LinesRead) → Grows h h left left r r
grows_not h left r = record {
  more = [];
  called = 0;
  reported = sym (append-nil h.bytes);
  known = Consumes-nil left;
  held = sym (append-nil r.held);
  lines = refl;
  bytes = omega arith;
  calls = omega arith;
  reads = omega arith;
}

-- what was read by then, and what is read next
pub grows_on : {a b c : BytesRead} {x y z : Option (List ℕ)} {p q s : List ℕ} {i j k l m n u v w : ℕ}
    → GrowsTo a b x y p q i j k l m n → GrowsTo b c y z q s l m n u v w → GrowsTo a c x z p s i j k u v w
grows_on {a} {b} {c} {x} {y} {z} {p} first then = record {
  more = first.more ++ then.more;
  called = first.called + then.called;
  reported = then.reported ∙ (ap (λ (xs : List ℕ). xs ++ then.more) first.reported
      ∙ append_assoc a.bytes first.more then.more);
  known = Consumes-trans x y z first.more then.more first.known then.known;
  held = then.held ∙ (ap (λ (xs : List ℕ). xs ++ then.more) first.held ∙ append_assoc p first.more then.more);
  lines = then.lines ∙ first.lines;
  bytes = omega (arith, then.bytes, first.bytes, length-append first.more then.more);
  calls = omega (arith, then.calls, first.calls);
  reads = omega (arith, then.reads, first.reads);
}

abbrev pub read_by_more : {old new : BytesRead} {left rest : Option (List ℕ)} {r after : LinesRead}
    → Grows old new left rest r after → IsReadBy old r → IsReadBy new after
read_by_more {r = r} grows is = record {
  passed = is.passed;
  reported = grows.reported ∙ ap (λ (xs : List ℕ). xs ++ grows.more) is.reported
      ∙ append_assoc is.passed r.held grows.more ∙ ap (λ (xs : List ℕ). is.passed ++ xs) (sym grows.held);
  lines = subst (λ (n : ℕ). AreLines is.passed n) (sym grows.lines) is.lines;
  bytes = omega (arith, grows.bytes, is.bytes, ap length grows.held, length-append r.held grows.more);
  calls = omega (arith, grows.calls, grows.reads, is.calls);
}

abbrev pub read_by_passed : {now : BytesRead} {r after : LinesRead} → IsLineAhead r.size r.held
    → r.held ≡ take r.size r.held ++ after.held → after.lines ≡ r.lines + 1
    → (after.bytes ≡ r.bytes) × (after.reads ≡ r.reads) → IsReadBy now r → IsReadBy now after
read_by_passed {r = r} {after = after} ahead held lines counts is =
    let line : List ℕ = take r.size r.held in
    let more : AreLines (is.passed ++ line) (r.lines + 1) =
    rw ahead.line.2 (lines_more ahead.line.0 ahead.line.1 is.passed r.lines is.lines) in
    record {
      passed = is.passed ++ line;
      reported = is.reported ∙ ap (λ (xs : List ℕ). is.passed ++ xs) held
          ∙ sym (append_assoc is.passed line after.held);
      lines = rw lines more;
      bytes =
          let size = ap length held ∙ length-append line after.held in
          omega (arith, counts.0, is.bytes, size, length-append is.passed line);
      calls = is.calls ∙ sym counts.1;
    }

-- nothing read, where there was room, is the end
pub reported_end : (b : Bool) (n : ℕ) (bytes : List ℕ) → n ≡ 0 → 0 < length bytes
    → (b || ((n == 0) && not (length bytes == 0))) ≡ true
reported_end b n bytes zero some = search (arith, eqb_tells, or_right)

-- a source at its end gives nothing more: one that gave some, or failed, isn't at it
pub reading_on : {E : Type 0} (b room : Bool) (n : ℕ) → (IsTrue b → ◌≡◌ {A = Result ℕ E} (Ok n) (Ok 0))
    → (n == 0) ≡ false → (b || ((n == 0) && room)) ≡ false
reading_on true room n silent some = search (arith, false≢true)
reading_on false room n silent some = ap (λ (t : Bool). t && room) some

pub failed_before : {E : Type 0} (b : Bool) (e : E) → (IsTrue b → ◌≡◌ {A = Result ℕ E} (Err e) (Ok 0))
    → (b || false) ≡ false
failed_before true e silent = absurd (cc (silent refl))
failed_before false e silent = refl

-- a read that failed gave no end
pub no_end_by : (e : StreamFault) (after : LinesRead) (old new : BytesRead) → IsFaultOfOneRead e after old new
    → GoesOn old → new.is_at_end ≡ false
no_end_by (Read n) after old new fault goes = fault.2
no_end_by (Turns n) after old new fault goes = ap (λ (h : BytesRead). h.is_at_end) fault.2 ∙ goes.is_at_end
no_end_by _ after old new fault goes = absurd fault

-- what the source is known to have left is what was read of it, up to its end
pub reads_to : {old new : BytesRead} {left rest : Option (List ℕ)} {p q : List ℕ} {i j k l m n : ℕ} {x y : Beside}
    → GrowsTo old new left rest p q i j k l m n → (new.is_at_end ≡ true → IsAtEnd rest) → y ≡ x
    → ReadsOn old new left rest x y
reads_to grows known beside = search arith

-- or not yet to its end
pub reads_so_far : {old new : BytesRead} {left rest : Option (List ℕ)} {p q : List ℕ} {i j k l m n : ℕ} {x y : Beside}
    → GrowsTo old new left rest p q i j k l m n → new.is_at_end ≡ false → y ≡ x → ReadsOn old new left rest x y
reads_so_far grows goes_on beside = reads_to grows (λ end. absurd (false≢true (sym goes_on ∙ end))) beside

pub if_it_does : (a : NextLine) (X : Type 0) → X → IfGoesOn (Ok a) X
if_it_does Unended X x = tt
if_it_does Nothing X x = tt
if_it_does _ X x = x

-- the fault of one read is that of all
pub fault_since : (e : StreamFault) (old new : BytesRead) (after : LinesRead) → IsFaultOfOneRead e after old new
    → IsReadBy new after → GoesOn old → IsReadFault e new
fault_since (Read n) old new after fault is goes = search (arith, length-append)
fault_since (Turns n) old new after fault is goes = search (arith, length-append)
fault_since (Frame n f) old new after fault is goes = absurd fault
fault_since _ old new after fault is goes = absurd fault
