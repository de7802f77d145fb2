-- Parts that are read with a report of their borders, and the lines of borders as they are gathered and written.
use Rattle.std.proofs.Common.{◌≡◌, ◌+◌, ◌<◌, ℕ, List, [], ◌++◌, Bool, length, take, refl, sym, ap, ◌∙◌, arith}
use Rattle.std.proofs.Common.{◌⊎◌, inl, inr, Option, Some, append-nil, Ok, Err}
use Rattle.std.specs.Prelude.{Result}
use Rattle.mseed_stream.specs.Device.{BytesRead, BytesWritten, nothing_read}
use Rattle.mseed_stream.specs.Gathered.{AreGathered, EmittedPart, IsCutOff}
use Rattle.mseed_stream.proofs.Gathered.{all_behind, all_written, cut_part, first_behind, gathered_also, gathered_first}
use Rattle.mseed_stream.proofs.Gathered.{gathered_written, part_after, part_of}
use Rattle.mseed_audit.specs.Summary.{IsWritten}
use Rattle.mseed_join.specs.declared.joining.Joined.{Joined as Answer}
use Rattle.mseed_join.specs.declared.fault.JoinFault.{JoinFault}
use Rattle.mseed_join.specs.declared.fault.JoinFault.TheVariants.{Line, Count, Stream, Write, Memory}
use Rattle.mseed_join.specs.declared.joint.Joint.{Joint}
use Rattle.mseed_join.specs.declared.joint.JointPart.{JointPart}
use Rattle.mseed_join.specs.declared.joint.Reported.{Reported}
use Rattle.mseed_join.specs.declared.reader.Reader.{Reader}
use Rattle.mseed_join.specs.Borders.{AreBorders, AreBordersOf, Border, border_lines}
use Rattle.mseed_join.specs.Joined.{join_text}
use Rattle.mseed_join.specs.Joins.{IsAnswer}
use Rattle.mseed_join.specs.JoinsEach.{AreEachTo, IsJoinEachOutcome, IsReadEach}
use Rattle.mseed_join.specs.Reached.{AreReported, Stage, parts_at, passed_lines, start}
use Rattle.mseed_join.specs.ReadParts.{AreReadParts, IsReadOutcome, written_of}
use Rattle.mseed_join.specs.Written.{Written}
use Rattle.mseed_join.specs.private.Along.{HasEnded, IsAlong, IsFinished, IsNextStep, IsStoppedAt, IsStoppedBy}
use Rattle.mseed_join.specs.private.Bordered.{AreLined, IsCutShort, IsEndedBy, IsFlushed, IsReading, IsUnread}
use Rattle.mseed_join.specs.private.Taking.{border_by, passed_by}
use Rattle.mseed_join.proofs.Along.{along_stops, none_read, none_reported, reported_more}
use Rattle.mseed_join.proofs.Bordering.{lines_append}

-- ---- with any report of the borders
-- parts were read up to a stage: the faults that were passed are reported, and the report of the borders stands so
pub record IsUnderWay {A : Type 0} (past : Bool) (now : BytesRead) (r : Reader A) (first at : BytesWritten)
    (Stands : List Border → Type 0) : Type 0 where
  pub stage : Stage
  pub found : List Border
  pub along : IsAlong past now stage r
  pub reported : AreReported (passed_lines past (parts_at stage)) first at
  pub borders : AreBordersOf past (parts_at stage) found
  pub stands : Stands found

-- one more line
pub on_way : {A : Type 0} {past : Bool} {old now : BytesRead} {before after : Reader A} {first at later : BytesWritten}
    {Before After : List Border → Type 0} (reported : Reported) → (u : IsUnderWay past old before first at Before)
    → IsNextStep past u.stage (Ok (Some reported)) now after → AreReported (passed_by reported) at later
    → ((found : List Border) → Before found → After (found ++ border_by reported))
    → IsUnderWay past now after first later After
on_way reported u step passed on = search (arith, reported_more)

-- no line was read
pub none_read_yet : {past : Bool} {expected : Option ℕ} {now : BytesRead} {fault : JoinFault} {first : BytesWritten}
    {Cuts : List Border → JoinFault → Type 0} {Stops : List Border → JoinFault → JoinFault → Type 0}
    → now ≡ nothing_read → Stops [] Memory fault → IsUnread fault past expected now first first Cuts Stops
none_read_yet {past} {now = now} {first = first} begin ends =
    let stop : IsStoppedAt now start = none_read now begin in record {
      found = [];
      to = record {
        stage = start;
        lines = record { count = stop.count; before = stop.before; reported = none_reported past first };
        borders = AreBorders.none [];
      };
      by = inr (Memory, (tt, ends));
    }

module _ {A : Type 0} {past : Bool} {old now : BytesRead} {r : Reader A} {first at : BytesWritten}
    {Before : List Border → Type 0} (u : IsUnderWay past old r first at Before) where
  each_to : IsStoppedAt now u.stage → AreEachTo past now u.found first at
  each_to stop = search arith

  ended_by : (ended : JoinFault) (expected : Option ℕ) (stop : IsStoppedAt now u.stage)
      → IsStoppedBy ended past now u.stage stop → IsEndedBy ended past expected now u.found first at
  ended_by (Line k offset flaw) expected stop by = record {
    bad = record {
      bad = by.bad;
      count = stop.count;
      number = by.number;
      stage = u.stage;
      before = stop.before;
      flaw_is = by.flaw_is;
      reported = u.reported;
    };
    borders = u.borders;
  }
  ended_by (Stream fault) expected stop by = by
  ended_by Memory expected stop by = tt
  ended_by _ expected stop by = absurd by

  -- at the input's end
  module _ {j : Joint A} (e : HasEnded past now u.stage j) where
    abbrev all_parts : AreReadParts past now.bytes (written_of j.so_far) first at
    all_parts = record { parts = parts_at u.stage; spells = e.spells; is_joint = e.joint; reported = u.reported }

    counted_by : (ended : JoinFault) (expected : Option ℕ) → IsFinished {A = A} j expected (Err ended)
        → IsEndedBy ended past expected now u.found first at
    counted_by (Count parts due) expected f = record {
      whole = e.at_end;
      miscounted = record {
        joint = written_of j.so_far;
        read = all_parts;
        number = f.0 ∙ e.number;
        due_is = f.1;
        differ = f.2;
      };
      borders = u.borders;
    }
    counted_by (Line k offset flaw) expected f = absurd f
    counted_by _ expected f = absurd f

    pub all_read : {expected : Option ℕ} {joint : JointPart A} → IsFinished j expected (Ok joint)
        → (found : List Border) × (IsReadEach past expected now (written_of joint) found first at × Before found)
    all_read f = rw f.0 (
      u.found,
      (
        record {
          read = record { whole = e.at_end; parts = all_parts; number = rw e.number at f.1 };
          borders = u.borders;
        },
        u.stands,
      ),
    )

  module _ {expected : Option ℕ} {fault : JoinFault} {Cuts : List Border → JoinFault → Type 0}
      {Stops : List Border → JoinFault → JoinFault → Type 0} (ended : JoinFault)
      (ends : (found : List Border) → Before found → Stops found ended fault) where
    -- the next line is bad, or can't be read
    pub stopped_at : (stop : IsStoppedAt now u.stage) × IsStoppedBy ended past now u.stage stop
        → IsUnread fault past expected now first at Cuts Stops
    stopped_at step = search (arith, each_to, ended_by)

    -- another number of parts is expected
    pub miscounted : {j : Joint A} → HasEnded past now u.stage j → IsFinished {A = A} j expected (Err ended)
        → IsUnread fault past expected now first at Cuts Stops
    miscounted e f = search (arith, each_to, counted_by)

-- the report failed at the last line
pub cut_off : {A : Type 0} {past : Bool} {expected : Option ℕ} {now : BytesRead} {r : Reader A} {fault : JoinFault}
    {first at : BytesWritten} {Cuts : List Border → JoinFault → Type 0}
    {Stops : List Border → JoinFault → JoinFault → Type 0}
    → IsUnderWay past now r first at (λ found. Cuts found fault)
    → IsUnread fault past expected now first at Cuts Stops
cut_off u = record { found = u.found; to = each_to u (along_stops u.along); by = inl u.stands }

-- ---- with no report
refused_by : (A : Type 0) (fault : JoinFault) {past : Bool} (expected : Option ℕ) {h : BytesRead} {found : List Border}
    {first at : BytesWritten} → AreEachTo past h found first at → IsEndedBy fault past expected h found first at
    → IsReadOutcome {A = A} (Err fault) past expected h first at
refused_by A (Line k offset flaw) expected to by = by.bad
refused_by A (Count parts due) expected to by = (by.whole, by.miscounted)
refused_by A (Stream fault) expected to by = search arith
refused_by A Write expected to by = absurd by
refused_by A Memory expected to by = record { stage = to.stage; lines = to.lines }

unread : (A : Type 0) (fault : JoinFault) {past : Bool} (expected : Option ℕ) {h : BytesRead} {found : List Border}
    {first at : BytesWritten} → AreEachTo past h found first at
    → ⊥ ⊎ ((ended : JoinFault) × (IsEndedBy ended past expected h found first at × (fault ≡ ended)))
    → IsReadOutcome {A = A} (Err fault) past expected h first at
unread A fault expected to (inl cut) = absurd cut
unread A fault expected to (inr (ended, (end, same))) = rw same (refused_by A ended expected to end)

pub unreported : (A : Type 0) (result : Result (JointPart A) JoinFault) (past : Bool) (expected : Option ℕ)
    (h : BytesRead) (first at : BytesWritten) (Stands : List Border → Type 0)
    → IsReading result past expected h first at Stands (λ found fault. ⊥) (λ found ended fault. fault ≡ ended)
    → IsReadOutcome result past expected h first at
unreported A (Ok joint) past expected h first at Stands all = all.1.0.read
unreported A (Err fault) past expected h first at Stands u = unread A fault expected u.to u.by

-- ---- with a report of lines
module _ {first old : BytesWritten} {text : List ℕ} {found : List Border} (before : AreLined first old text found) where
  -- one more line was added, and perhaps written
  pub lined_more : {new : BytesWritten} {whole next : List ℕ} (more : List Border) → whole ≡ text ++ border_lines more
      → AreGathered old new next whole → new.failures ≡ old.failures → AreLined first new next (found ++ more)
  lined_more {new} {whole} {next} more e written fine =
      search (arith, gathered_also, lines_append)

  -- there was no memory for it
  pub lined_no_more : (more : List Border) → IsCutShort first old (border_lines (found ++ more)) Memory
  lined_no_more more = (
    before.fine,
    rw lines_append (first_behind first old old text (border_lines found) (border_lines more) before.lines
        (0, sym (append-nil old.bytes))),
  )

  -- or the output failed
  pub lined_in_part : {new : BytesWritten} {taken : ℕ} {whole : List ℕ} (more : List Border)
      → whole ≡ text ++ border_lines more → IsCutOff taken whole old new
      → IsCutShort first new (border_lines (found ++ more)) Write
  lined_in_part {new} {taken} more e cut = (
    cut.failed ∙ ap (λ (n : ℕ). n + 1) before.fine,
    rw lines_append (cut_part first old new taken text (border_lines found) (border_lines more) before.lines
        (rw e at cut)),
  )

  -- what is gathered was written
  pub flushed : {new : BytesWritten} {whole : List ℕ} (ended : JoinFault) → whole ≡ text
      → new.bytes ≡ old.bytes ++ whole → new.failures ≡ old.failures → IsFlushed first new found ended ended
  flushed {new} ended e bytes fine =
      let all = gathered_written first old new text [] (border_lines found) before.lines (rw e at bytes) refl in
      inl (record { bytes = all_written first new (border_lines found) [] all refl; fine = fine ∙ before.fine }, refl)

  -- or a part of it, before the output failed
  pub flushed_in_part : {new : BytesWritten} {whole : List ℕ} {taken : ℕ} (ended : JoinFault) → whole ≡ text
      → new.bytes ≡ old.bytes ++ take taken whole → taken < length whole → new.failures ≡ old.failures + 1
      → IsFlushed first new found ended Write
  flushed_in_part {new} {taken = taken} ended e bytes within failed = inr (
    (
      failed ∙ ap (λ (n : ℕ). n + 1) before.fine,
      part_of first old new text (border_lines found) before.lines (taken, (rw e at within, rw e at bytes)),
    ),
    refl,
  )

module _ {past : Bool} (expected : Option ℕ) {h : BytesRead} {found : List Border} (first new : BytesWritten)
    {reported at : BytesWritten} (to : AreEachTo past h found reported at) where
  cut_by : (fault : JoinFault) → IsCutShort first new (border_lines found) fault
      → IsJoinEachOutcome past expected (Err fault) h first new reported at
  cut_by Write cut = (cut.0, inl (found, (to, cut.1)))
  cut_by Memory cut = (cut.0, inl (found, (to, cut.1)))
  cut_by _ cut = absurd cut

  written_by : (ended : JoinFault) → IsEndedBy ended past expected h found reported at
      → IsWritten (border_lines found) first new → IsJoinEachOutcome past expected (Err ended) h first new reported at
  written_by (Stream fault) by written = (found, (to, written, by.0, by.1))
  written_by Write by written = absurd by
  written_by Memory by written =
      let all : AreGathered first new [] (border_lines found) =
      record { taken = border_lines found; bytes = written.bytes; joined = append-nil (border_lines found) } in
      (written.fine, inl (found, (to, gathered_first first new [] (border_lines found) all)))
  written_by _ by written = (found, (by, written))

  unread_by : (fault : JoinFault) (Also : Type 0)
      → (IsCutShort first new (border_lines found) fault × Also) ⊎ ((ended : JoinFault)
      × (IsEndedBy ended past expected h found reported at × (IsFlushed first new found ended fault × Also)))
      → IsJoinEachOutcome past expected (Err fault) h first new reported at × Also
  unread_by fault Also (inl cut) = (cut_by fault cut.0, cut.1)
  unread_by fault Also (inr (ended, (by, (inl (written, same), also)))) = (rw same (written_by ended by written), also)
  unread_by fault Also (inr (ended, (by, (inr (cut, same), also)))) = (rw same (cut_by Write cut), also)

-- the parts weren't read whole
pub each_unread : (fault : JoinFault) (past : Bool) (expected : Option ℕ) (h : BytesRead)
    (first new reported at : BytesWritten) (Also : Type 0)
    → IsUnread fault past expected h reported at (λ found f. IsCutShort first new (border_lines found) f × Also)
    (λ found ended f. IsFlushed first new found ended f × Also)
    → IsJoinEachOutcome past expected (Err fault) h first new reported at × Also
each_unread fault past expected h first new reported at Also u = unread_by expected first new u.to fault Also u.by

module _ {past : Bool} {expected : Option ℕ} {w : Written} {h : BytesRead} {first old reported at : BytesWritten}
    {text : List ℕ} {Also : Type 0}
    (a : (found : List Border)
    × (IsReadEach past expected h w found reported at × (AreLined first old text found × Also))) where
  -- the whole text was written
  pub each_written : {answer : Answer} {new : BytesWritten} {whole slice : List ℕ} → whole ≡ text ++ join_text w
      → slice ≡ whole → IsAnswer answer w → new.bytes ≡ old.bytes ++ slice → new.failures ≡ old.failures
      → IsJoinEachOutcome past expected (Ok answer) h first new reported at
  each_written {new = new} e same is bytes fine = (
    w,
    (
      a.0,
      (
        a.1.0,
        is,
        record {
          bytes = all_behind first old new text (border_lines a.0) (join_text w) a.1.1.0.lines (rw (same ∙ e) at bytes);
          fine = fine ∙ a.1.1.0.fine;
        },
      ),
    ),
  )

  -- a prefix of it was written, and then the output failed
  pub each_cut_off : (new : BytesWritten) {whole slice : List ℕ} {n : ℕ} → whole ≡ text ++ join_text w → slice ≡ whole
      → new.bytes ≡ old.bytes ++ take n slice → n < length slice → new.failures ≡ old.failures + 1
      → IsJoinEachOutcome past expected (Err Write) h first new reported at
  each_cut_off new {n = n} e same bytes within failed =
      let emitted : EmittedPart old new (text ++ join_text w) =
      (n, (rw (same ∙ e) at within, rw (same ∙ e) at bytes)) in (
        failed ∙ ap (λ (k : ℕ). k + 1) a.1.1.0.fine,
        inr (w, (a.0, (a.1.0, part_after first old new text (border_lines a.0) (join_text w) a.1.1.0.lines emitted))),
      )

  -- no memory for it
  pub each_no_memory : IsJoinEachOutcome past expected (Err Memory) h first old reported at
  each_no_memory = (
    a.1.1.0.fine,
    inr (
      w,
      (
        a.0,
        (
          a.1.0,
          first_behind first old old text (border_lines a.0) (join_text w) a.1.1.0.lines
              (0, sym (append-nil old.bytes)),
        ),
      ),
    ),
  )
