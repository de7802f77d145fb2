-- A cutter stays along what its source gave, whatever it answers.
use Rattle.std.proofs.Common.{◌≡◌, ◌≢◌, ℕ, ◌+◌, ◌≤◌, Bool, true, false, List, [], length, Option, Some}
use Rattle.std.proofs.Common.{◌++◌}
use Rattle.std.proofs.Common.{IfOk}
use Rattle.std.proofs.Common.{None, Result, Ok, Err, IfErr, IfSome, refl, sym, ◌∙◌, arith}
use Rattle.std.proofs.KnownBytes.{Consumes-nil}
use Rattle.std.proofs.lemmas.List.{append-nil, drop_all}
use Rattle.mseed_record.specs.Record.{IsRecord}
use Rattle.mseed_record.specs.Scan.{short}
use Rattle.mseed_stream.specs.Archive.{is_clean}
use Rattle.mseed_stream.specs.Calls.{ReadsOn}
use Rattle.mseed_stream.specs.Device.{Beside, BytesRead}
use Rattle.mseed_stream.specs.CutterState.{CutterState}
use Rattle.mseed_stream.specs.Cutting.{at_start, IsRead, IsAlong, IsEnding, IsNextAnswer}
use Rattle.mseed_stream.specs.Cutting.{IsCutFault, IsCleanEnd, answer_of, asks_of, read_from}
use Rattle.mseed_stream.specs.private.Steps.{HoldsMore, IsCut, forgot, lent_of, after_found}
use Rattle.mseed_stream.specs.declared.cutter.Ending.{Ending}
use Rattle.mseed_stream.specs.declared.cutter.Ending.TheVariants.{Clean, Fault}
use Rattle.mseed_stream.specs.declared.fault.StreamFault.{StreamFault}
use Rattle.mseed_stream.specs.declared.fault.StreamFault.TheVariants.{Frame, Truncated, Read, Turns, Memory}
use Rattle.mseed_stream.proofs.Cuts.{reported}
use Rattle.mseed_stream.proofs.Filled.{held_is}
use Rattle.mseed_stream.proofs.Handed.{records_after, archive_at}

pub nothing_ended : (answer : Option Ending) (P : Ending → Type 0) → answer ≡ None → IfSome answer P
nothing_ended answer P e = rw e tt

-- the answer is kept
ended_along : (h : BytesRead) (c : CutterState) (e : Ending) → IsRead h c → IsEnding e c.offset h
    → IsAlong h (record c { answer = Some e })
ended_along h c e is ending = grind arith

along_fault : (e : StreamFault) (c after : CutterState) (old new : BytesRead) → HoldsMore c after old new
    → e ≢ Memory → IsCutFault e c.offset new → IsAlong new (record after { answer = Some (Fault e) })
along_fault e c after old new is other fault =
    ended_along new after (Fault e) is.read (rw is.offset fault, other)

-- by each answer
pub along_found : (found : Result Bool StreamFault) (c after : CutterState) (old new : BytesRead)
    → c.answer ≡ None
    → IsCut found c after old new → IsAlong new (after_found after found)
along_found (Ok true) c after old new goes is =
    let read = is.holds.read in
    record {
      read = grind (arith, drop_all, held_is after is.holds.not_lent);
      stop = λ same. at_start;
      asks = λ same. (48, short refl (omega arith));
      going_on = λ same. is.found.1;
      ended = nothing_ended after.answer (λ e. IsEnding e (after.offset + length after.prefix) new)
          (is.holds.answer ∙ goes);
    }
along_found (Ok false) c after old new goes is =
    let read = is.holds.read in
    ended_along new after Clean read (is_clean (read.held ∙ held_is after is.holds.not_lent ∙ is.found.0), is.found.1)
along_found (Err Memory) c after old new goes is =
    let memory = is.found.2 refl in
    record {
      read = is.holds.read;
      stop = λ same. rw is.holds.not_lent is.stop;
      asks = λ same. rw is.holds.not_lent (memory.0.0, memory.0.2);
      going_on = λ same. memory.1;
      ended = nothing_ended after.answer (λ e. IsEnding e after.offset new) (is.holds.answer ∙ goes);
    }
along_found (Err (Frame n f)) c after old new goes is =
    along_fault (Frame n f) c after old new is.holds (λ e. cc) is.found.0
along_found (Err (Truncated n have)) c after old new goes is =
    along_fault (Truncated n have) c after old new is.holds (λ e. cc) is.found.0
along_found (Err (Read n)) c after old new goes is =
    along_fault (Read n) c after old new is.holds (λ e. cc) is.found.0
along_found (Err (Turns n)) c after old new goes is =
    along_fault (Turns n) c after old new is.holds (λ e. cc) is.found.0

-- what was found is what became of the input
pub next_answer : (found : Result Bool StreamFault) (n : ℕ) (c after : CutterState) (old new : BytesRead)
    (left rest : Option (List ℕ)) (apart later : Beside) → IsRead old c → c.answer ≡ None
    → IsCut found (forgot c) after old new → ReadsOn old new left rest apart later
    → IsNextAnswer (lent_of n found) c old new left rest
next_answer found n c after old new left rest apart later read goes is reads =
    let all = reported (forgot c) after old new is.holds in
    let within : c.offset ≤ length old.bytes = omega (arith, read.reported) in
    let end : lent_of n found ≡ Ok None → IsCleanEnd c.offset new = grind (arith, is_clean) in
    let fault : IfErr (lent_of n found) (λ e. IsCutFault e c.offset new) = grind arith in
    let one : IfOk (lent_of n found) (λ o. IfSome o (λ m. IsRecord (read_from c.offset new))) =
    grind arith in
    record {
      more = reads.more;
      known = λ same. reads.known;
      end = end;
      fault = fault;
      records = λ records has. records_after (lent_of n found) old new reads.more.0 c.offset records within reads.more.1
          one has;
      archive = λ records has. archive_at (lent_of n found) old new reads.more.0 c.offset records within reads.more.1
          has end fault;
      memory = grind arith;
      read_to = grind arith;
      failed = grind arith;
      repeats = rw goes tt;
      most = grind arith;
    }

-- the answer that was kept is given again
pub same_answer : (e : Ending) (c : CutterState) (h : BytesRead) (left : Option (List ℕ)) → IsAlong h c
    → c.answer ≡ Some e → IsNextAnswer {X = ℕ} (answer_of e) c h h left left
same_answer e c h left is same =
    let within : c.offset ≤ length h.bytes = omega (arith, is.read.reported) in
    let none : h.bytes ≡ h.bytes ++ [] = sym (append-nil h.bytes) in
    let ending : IsEnding e c.offset h = rw same at is.ended in
    let end : answer_of {X = ℕ} e ≡ Ok None → IsCleanEnd c.offset h = grind arith in
    let fault : IfErr (answer_of {X = ℕ} e) (λ f. IsCutFault f c.offset h) = grind arith in
    let one : IfOk (answer_of {X = ℕ} e) (λ o. IfSome o (λ m. IsRecord (read_from c.offset h))) =
    grind arith in
    record {
      more = ([], none, Consumes-nil left);
      known = λ goes. cc;
      end = end;
      fault = fault;
      records = λ records has. records_after (answer_of e) h h [] c.offset records within none one has;
      archive = λ records has. archive_at (answer_of e) h h [] c.offset records within none has end fault;
      memory = grind arith;
      read_to = λ goes. cc;
      failed = λ goes. cc;
      repeats = rw same (refl, refl);
      most = grind arith;
    }

pub few_asks : (held : List ℕ) → asks_of held ≤ 1
few_asks held = grind arith
