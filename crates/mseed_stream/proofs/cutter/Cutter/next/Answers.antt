use Rattle.std.proofs.Common.{◌≡◌, ◌+◌, ◌≤◌, List, ℕ, length, take, refl, sym, ap, ◌∙◌, arith}
use Rattle.std.proofs.Common.{Option, Some, Ok, IfSome}
use Rattle.std.proofs.lemmas.Grind.{common_steps}
use Rattle.mseed_record.specs.View.{View}
use Rattle.mseed_record.specs.Viewing.{view_of}
use Rattle.mseed_stream.specs.Device.{BytesRead}
use Rattle.mseed_stream.specs.CutterState.{CutterState}
use Rattle.mseed_record.specs.declared.view.RecordView.{RecordView}
use Rattle.mseed_stream.specs.Cutting.{read_from, held_of, answer_of}
use Rattle.mseed_stream.proofs.AfterFound.{few_asks}
use Rattle.mseed_stream.specs.Walk.{HasHandedOut, bytes_in}
use Rattle.mseed_stream.specs.declared.cutter.Ending.{Ending}
use Rattle.mseed_stream.proofs.Walks.{handed_record}
use Rattle.mseed_stream.proofs.cutter.Cutter.next.Goals as goal

-- as many bytes as the prefix has are the prefix
taken : (items prefix : List ℕ) (have n : ℕ) → take have items ≡ prefix → n ≡ length prefix
    → have ≤ length items
    → take n items ≡ prefix
taken items prefix have n is size within = grind (arith, common_steps)

-- a cutter that has ended hands out no record
no_record : (o : Option Ending) (n : ℕ) (r : RecordView) (Same : Type 0)
    → IfSome o (λ e. (Ok (Some n) ≡ answer_of e) × Same) → IfSome o (λ e. (Ok (Some r) ≡ answer_of e) × Same)
no_record o n r Same h = grind arith

pub returns-in-Some : goal.returns-in-Some
returns-in-Some g c =
    let it = rw c.in-Some.is at c.in_ok-length.ensures in
    let before : CutterState = c.args.self.now in
    let after : CutterState = c.advance.new.self in
    let new : BytesRead = g.R.Source.read c.advance.new.source in
    let view : View = view_of c.of_record.result in
    let items : List ℕ = c.self.inside.held.items in
    let prefix : take c.self.inside.have items ≡ after.prefix =
    ap (λ (s : CutterState). s.prefix) c.self.view_is in
    let size : length items ≡ length c.deref.result.now =
    ap (λ (xs : List ℕ). length xs) (sym c.deref.ensures.value) in
    let within : c.self.inside.have ≤ length items =
    omega (arith, size, c.deref.ensures.len, c.self.invariant.0) in
    let bytes : view.bytes ≡ read_from before.offset new = c.of_record.ensures.bytes
    ∙ (ap (λ (xs : List ℕ). take c.in-Some.length xs) c.deref.ensures.value
    ∙ (taken items after.prefix c.self.inside.have c.in-Some.length prefix it.record.0 within ∙ it.record.2)) in
    let moved : after.offset ≡ before.offset + length view.bytes =
    rw (bytes, ← it.record.2) it.offset in
    let handed = λ (views : List View) (h : HasHandedOut (g.R.Source.read c.args.source.now) before views).
    handed_record _ new before after views view h c.of_record.ensures.view
    (rw (moved, bytes) (it.answer.records (bytes_in views) h.records.records)) it.along moved it.kept
    (omega (arith, it.answer.failed h.goes_on)) it.called in (
      (
        refl,
        λ _. tt,
        (
          rw c.self.view_is it.along,
          ap (λ (s : CutterState). s.offset) c.self.view_is ∙ (rw bytes at moved),
          ap (λ (s : CutterState). s.answer) c.self.view_is ∙ it.kept,
          omega (arith, it.room, ap (λ (s : CutterState). s.room) c.self.view_is),
          λ views h. rw c.self.view_is (handed views h),
        ),
      ),
      record {
        answer = record {
          more = it.answer.more;
          known = it.answer.known;
          end = λ e. cc;
          fault = tt;
          records = it.answer.records;
          archive = it.answer.archive;
          memory = λ e. cc;
          read_to = it.answer.read_to;
          failed = it.answer.failed;
          repeats = no_record before.answer c.in-Some.length c.of_record.result _ it.answer.repeats;
          most = it.answer.most;
        };
        «record» = (c.of_record.ensures.view, bytes);
        all = λ views h. tt;
        called = omega (arith, it.called, few_asks (held_of before));
        beside = it.beside;
        after = tt;
      },
    )
