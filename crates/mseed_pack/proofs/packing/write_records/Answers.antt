use Rattle.std.proofs.Common.{◌≤◌, ℤ, List, [], ◌++◌, length, refl, sym, ◌∙◌, take, append_assoc, arith}
use Rattle.std.proofs.lemmas.List.{append-nil, drop_all}
use Rattle.mseed_pack.specs.Traces.{headed}
use Rattle.mseed_pack.proofs.Begun.{go_on}
use Rattle.mseed_pack.specs.private.Spans.{CanBegin}
use Rattle.mseed_pack.proofs.Growing.{emitted_prefix, packs_none}
use Rattle.mseed_stream.proofs.Calls.{writes_none, writes_on}
use Rattle.mseed_pack.proofs.packing.write_records.Goals as goal

pub gather-batch-requires-clause-on : goal.gather-batch-requires-clause-on
gather-batch-requires-clause-on g c =
    let xs = c.requires.begins.0 in
    let begins = c.requires.begins.1 in
    let l = c.loop-place.invariant in
    (xs, go_on begins.count begins.fits l.standing c.loop-place-test.true (l.stands_there xs begins))

pub returns-in-Err-clause-err : goal.returns-in-Err-clause-err
returns-in-Err-clause-err g c = λ xs begins.
    let s = headed c.args.job.now.head.now xs in
    let l = c.loop-place in
    let e = l.invariant.emitted in
    let b = take c.gather-batch.result.bytes c.gather-batch.new.out in
    let before = e.to xs begins in
    let to = c.gather-batch.ensures.to xs (go_on begins.count begins.fits l.invariant.standing c.loop-place-test.true
    (l.invariant.stands_there xs begins)) in
    rw (c.from.ensures, c.length_of-length.ensures.value) (emitted_prefix s c.args.job.now.options.now l.place
    c.gather-batch.result.next c.in-Err.taken e.bytes b (g.W.Sink.written c.args.sink.now) (g.W.Sink.written l.sink)
    (g.W.Sink.written c.write_all_of.new.sink) before
    (to.on.after e.bytes before) c.in-Err.ensures.within e.grown e.fine
    c.in-Err.ensures.err c.in-Err.ensures.failed)

pub returns-in-Err-clause-writes : goal.returns-in-Err-clause-writes
returns-in-Err-clause-writes g c =
    let b = take c.in-Err.taken (take c.gather-batch.result.bytes c.gather-batch.new.out) in
    writes_on _ (g.W.Sink.written c.loop-place.sink) _ _ _ _ _ _ _ c.loop-place.invariant.writes (record {
      contents = (b, c.in-Err.ensures.err, c.in-Err.ensures.known);
      beside = c.write_all_of.ensures.beside;
    })

pub loop-place-init : goal.loop-place-init
loop-place-init g c = record {
  standing = c.first_place-place.ensures.standing;
  stands_there = λ xs begins. rw (c.first_place-place.ensures.first) begins.stands_first;
  emitted = record {
    bytes = [];
    to = λ xs begins. packs_none (headed c.args.job.now.head.now xs) c.args.job.now.options.now
        c.first_place-place.result c.first_place-place.ensures.number c.first_place-place.ensures.first;
    grown = sym (append-nil _);
    fine = refl;
  };
  beside = refl;
  writes = writes_none _ _ _;
}

pub loop-place-preserved : goal.loop-place-preserved
loop-place-preserved g c =
    let l = c.loop-place in
    let e = l.invariant.emitted in
    let b = take c.gather-batch.result.bytes c.gather-batch.new.out in
    let to = λ (xs : List ℤ)
    (begins : CanBegin g.F.Filler.stands c.args.job.now c.args.filler.now c.args.supply.now xs).
    c.gather-batch.ensures.to xs (go_on begins.count begins.fits l.invariant.standing c.loop-place-test.true
    (l.invariant.stands_there xs begins)) in
    record {
      standing = c.gather-batch.ensures.standing;
      stands_there = λ xs begins. (to xs begins).stands_next;
      emitted = record {
        bytes = e.bytes ++ b;
        to = λ xs begins. (to xs begins).on.after e.bytes (e.to xs begins);
        grown = c.in_default.ensures.ok ∙ rw (e.grown, append_assoc);
        fine = c.in_default.ensures.fine ∙ e.fine;
      };
      beside = c.gather-batch.ensures.beside ∙ l.invariant.beside;
      writes = writes_on (g.W.Sink.written c.args.sink.now) (g.W.Sink.written l.sink)
          (g.W.Sink.written c.write_all_of.new.sink) _ _ _ _ _ _ l.invariant.writes (record {
            contents = (b, c.in_default.ensures.ok, c.in_default.ensures.known);
            beside = c.write_all_of.ensures.beside;
          });
    }

pub returns-clause-ok : goal.returns-clause-ok
returns-clause-ok g c = λ xs begins.
    let e = c.loop-place.invariant.emitted in
    let to = e.to xs begins in
    let end : length xs ≤ c.loop-place.place.first = omega (arith, begins.count, c.loop-place-test.false) in
    record {
      records = to.records;
      packing = rw drop_all at to.packing;
      count_is = to.count_is;
      bytes = rw to.bytes_are e.grown;
      failures = e.fine;
    }
