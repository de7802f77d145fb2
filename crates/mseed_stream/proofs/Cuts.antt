-- What the reads for one record come to, by what is held.
use Rattle.std.proofs.Common.{◌≡◌, ℕ, ◌<◌, ◌≤◌, Bool, true, false, List, length, take, Result, Ok, Err, []}
use Rattle.std.proofs.Common.{refl, ap, ◌∙◌, ◌+◌, ◌++◌, arith}
use Rattle.std.proofs.lemmas.Grind.{common_steps}
use Rattle.std.proofs.lemmas.List.{drop-append-le}
use Rattle.mseed_record.specs.declared.framer.Scan.TheVariants.{Need, Not}
use Rattle.mseed_record.specs.declared.fault.FrameFault.{FrameFault}
use Rattle.mseed_record.specs.Record.{IsRecord}
use Rattle.mseed_record.specs.Scan.{Decides, short}
use Rattle.mseed_record.proofs.Answered.{answered}
use Rattle.mseed_record.proofs.OneAnswer.{one_answer}
use Rattle.mseed_stream.specs.Archive.{is_frame, is_truncated}
use Rattle.mseed_stream.specs.Device.{BytesRead}
use Rattle.mseed_stream.specs.CutterState.{CutterState}
use Rattle.mseed_stream.specs.Cutting.{FallsShort, IsRead, IsStop, IsReadTo, asks_of, read_from}
use Rattle.mseed_stream.specs.private.Steps.{HoldsMore, IsFillFault, IsFilled, IsCutting, IsCut, IsAnswerAtEnd}
use Rattle.mseed_stream.specs.declared.fault.StreamFault.{StreamFault}
use Rattle.mseed_stream.specs.declared.fault.StreamFault.TheVariants.{Frame, Truncated, Read, Turns, Memory}
use Rattle.mseed_record.proofs.Called.{record_more}
use Rattle.mseed_stream.proofs.Filled.{held_is}
use Rattle.mseed_stream.proofs.Stops.{record_whole, none_short, stop_grows, stop_next}

-- what is read from the offset on is what is held
pub reported : (c after : CutterState) (old new : BytesRead) → HoldsMore c after old new
    → read_from c.offset new ≡ after.prefix
reported c after old new is = grind (arith, held_is after is.not_lent)

-- reads go on after others
holds_on : (c now after : CutterState) (old middle new : BytesRead) → HoldsMore c now old middle
    → HoldsMore now after middle new → HoldsMore c after old new
holds_on c now after old middle new one two = grind (arith, common_steps)

-- a record that is found is all that is held, and the input isn't at its end
found : (b : List ℕ) (is_at_end : Bool) (k : ℕ) → IsReadTo b is_at_end → k ≤ length b → IsRecord (take k b)
    → IsRecord b × (is_at_end ≡ false)
found b true k less within r = absurd (none_short b less k within r)
found b false k stop within r = ((record_whole b (length b) k stop (omega arith) within r).0, refl)

-- the source was called once for the header of a record, and for the rest
called_twice : (held prefix : List ℕ) (old new : ℕ) → old < new
    → (held ≡ [] → new ≤ old + 1 → length prefix ≤ 48)
    → IsRecord prefix → old + 2 ≤ new + asks_of held
called_twice held prefix old new more few r = grind (arith, record_more prefix r)

pub record_cut : (c now : CutterState) (is_at_end : Bool) (k n : ℕ) (old new : BytesRead)
    → IsCutting c now is_at_end old new → Decides c.prefix (Need n) → k ≤ length now.prefix
    → IsRecord (take k now.prefix) → IsCut (Ok true) c now old new
record_cut c now is_at_end k n old new is asks within r =
    let it = found now.prefix is_at_end k is.stop within r in
    let more : new.calls ≤ old.calls → ⊥ = λ none.
    cc (answered now.prefix k (Need n) (rw (is.holds.quiet none) asks) within r) in
    let called =
    called_twice c.prefix now.prefix old.calls new.calls (omega (arith, more)) is.header it.0 in
    record { holds = is.holds; stop = rw is.end is.stop; found = (it.0, is.end ∙ it.1, is.failures, called) }

-- the framing steps refuse what is held
pub frame_cut : (c now : CutterState) (is_at_end : Bool) (offset : ℕ) (f : FrameFault) (old new : BytesRead)
    → IsCutting c now is_at_end old new → offset ≡ c.offset → Decides now.prefix (Not f)
    → IsCut (Err (Frame offset f)) c now old new
frame_cut c now is_at_end offset f old new is at decides =
    let stop : IsReadTo now.prefix new.is_at_end = rw is.end is.stop in
    record {
      holds = is.holds;
      stop = stop;
      found = (
        rw (reported c now old new is.holds) (at, is_frame f decides, stop),
        omega (arith, is.failures),
        λ e. cc,
      );
    }

-- the input is at its end
pub end_cut : (answer : Result Bool StreamFault) (k : ℕ) (c now : CutterState) (old new : BytesRead)
    → IsCutting c now true old new → IsAnswerAtEnd answer now.offset now.prefix → Decides now.prefix (Need k)
    → IsCut answer c now old new
end_cut (Ok true) k c now old new is it d = absurd (cc it.0)
end_cut (Ok false) k c now old new is it d =
    record { holds = is.holds; stop = rw is.end is.stop; found = (it.1, is.end, is.failures) }
end_cut (Err e) k c now old new is it d = rw it.0 (record {
  holds = is.holds;
  stop = rw is.end is.stop;
  found = (
    (is.holds.offset, rw (reported c now old new is.holds) (is_truncated k it.1 d), is.end),
    omega (arith, is.failures),
    λ same. cc,
  );
})

-- the stop that reads were made for
next_stop : (now after : CutterState) (needed : ℕ) (middle new : BytesRead) (more : List ℕ) → IsRead middle now
    → now.is_lent ≡ false → IsStop now.prefix (length now.prefix) → Decides now.prefix (Need needed)
    → HoldsMore now after middle new → new.bytes ≡ middle.bytes ++ more → IsStop after.prefix needed
next_stop now after needed middle new more read lent stop d holds bytes =
    let grown : after.prefix ≡ now.prefix ++ more = grind (
      arith,
      drop-append-le,
      reported now after middle new holds,
      held_is now lent,
    ) in
    rw grown (stop_grows now.prefix more needed (stop_next now.prefix needed stop d))

-- a fault of the reads for one stop is one of the reads for the record
filled_err : (e : StreamFault) (c now after : CutterState) (needed : ℕ) (old middle new : BytesRead)
    → IsCutting c now false old middle → Decides now.prefix (Need needed) → HoldsMore now after middle new
    → HoldsMore c after old new → FallsShort after.prefix → IsFillFault e needed now middle new
    → IsCut (Err e) c after old new
filled_err (Frame n f) c now after needed old middle new is d holds all less it = absurd it
filled_err (Truncated n have) c now after needed old middle new is d holds all less it = absurd it
filled_err (Read n) c now after needed old middle new is d holds all less it =
    record {
      holds = all;
      stop = less;
      found = (
        (it.0 ∙ is.holds.offset, omega (arith, it.1), it.2, rw (reported c after old new all) less),
        omega (arith, it.1, is.failures),
        λ e. cc,
      );
    }
filled_err (Turns n) c now after needed old middle new is d holds all less it =
    record {
      holds = all;
      stop = less;
      found = (
        (it.0 ∙ is.holds.offset, it.2, it.3, rw (reported c after old new all) less),
        omega (arith, it.1, is.failures),
        λ e. cc,
      );
    }
filled_err Memory c now after needed old middle new is d holds all less it =
    let same : after.prefix ≡ now.prefix =
    holds.quiet (omega (arith, ap (λ (h : BytesRead). h.calls) it.1)) in
    let room : c.room < needed = omega (arith, is.holds.room, it.0) in
    record {
      holds = all;
      stop = rw same is.stop;
      found = (tt, grind (arith, is.failures), λ e. ((needed, room, rw same d), cc));
    }

pub fill_cut : (e : StreamFault) (c now after : CutterState) (needed : ℕ) (old middle new : BytesRead) (more : List ℕ)
    → IsCutting c now false old middle → Decides now.prefix (Need needed) → HoldsMore now after middle new
    → new.bytes ≡ middle.bytes ++ more → IsFilled (Err e) needed now after middle new
    → IsCut (Err e) c after old new
fill_cut e c now after needed old middle new more is d holds bytes it =
    let stop =
    next_stop now after needed middle new more is.holds.read is.holds.not_lent is.stop d holds bytes in
    filled_err e c now after needed old middle new is d holds (holds_on c now after old middle new is.holds holds)
    (needed, (stop, it.0)) it.1

-- the first reads for a record are those for its header
first_need : (b : List ℕ) (n : ℕ) → b ≡ [] → Decides b (Need n) → n ≡ 48
first_need b n none d = cc (one_answer b (Need n) (Need 48) d (rw none (short refl (omega arith))))

-- what is held then goes up to the stop, or falls short of it at the input's end
filled : (b : Bool) (now after : CutterState) (needed : ℕ) (middle new : BytesRead)
    → IsFilled (Ok b) needed now after middle new → IsStop after.prefix needed
    → IsReadTo after.prefix b × (new.is_at_end ≡ b) × (length after.prefix ≤ needed)
    × (new.failures ≡ middle.failures) × (middle.calls < new.calls)
filled true now after needed middle new it stop = ((needed, (stop, it.0)), it.1, omega arith, it.2, it.3)
filled false now after needed middle new it stop = (rw it.0 stop, it.1, omega arith, it.2, it.3)

pub cutting_on : (b : Bool) (c now after : CutterState) (needed : ℕ) (old middle new : BytesRead) (more : List ℕ)
    → IsCutting c now false old middle → Decides now.prefix (Need needed) → HoldsMore now after middle new
    → new.bytes ≡ middle.bytes ++ more → IsFilled (Ok b) needed now after middle new
    → IsCutting c after b old new
cutting_on b c now after needed old middle new more is d holds bytes it =
    let stop =
    next_stop now after needed middle new more is.holds.read is.holds.not_lent is.stop d holds bytes in
    let so_far = filled b now after needed middle new it stop in
    record {
      holds = holds_on c now after old middle new is.holds holds;
      stop = so_far.0;
      end = so_far.1;
      header = λ none few.
          let least = first_need now.prefix needed (is.holds.quiet (omega (arith, so_far.4)) ∙ none) d in
          omega (arith, least, so_far.2);
      failures = so_far.3 ∙ is.failures;
    }
