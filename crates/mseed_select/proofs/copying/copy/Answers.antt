use Rattle.std.proofs.Common.{◌++◌, ◌∷◌, [], arith, append-nil, refl, sym}
use Rattle.std.proofs.KnownBytes.{Consumes-nil}
use Rattle.std.proofs.lemmas.List.Sums.{count_by-le-length}
use Rattle.mseed_stream.specs.Gathered.{AreGathered}
use Rattle.mseed_stream.specs.Walk.{HasHandedOut}
use Rattle.mseed_stream.proofs.Calls.{reads_on}
use Rattle.mseed_select.proofs.Copied.{copied_err, counts_more, cut_off, held_on}
use Rattle.mseed_select.proofs.copying.copy.Goals as goal

pub returns-in_err-answer-clause-copied : goal.returns-in_err-answer-clause-copied
returns-in_err-answer-clause-copied g c =
    let before = c.records.invariant.copied.1 in
    copied_err _ _ c.from_residual.result _ c.in_err-answer.field-0.0 _ _ _ _ c.from_residual.ensures.1 (λ e q. q)
    (c.in_err-answer.ensures.next (g.W.Sink.written c.args.output.now) c.records.invariant.copied.0 before.0 before.1)

pub returns-in-Ended-clause-copied : goal.returns-in-Ended-clause-copied
returns-in-Ended-clause-copied g c =
    let before = c.records.invariant.copied.1 in
    let next = rw c.in-Ended.is at c.in_ok-answer.ensures.next (g.W.Sink.written c.args.output.now)
    c.records.invariant.copied.0 before.0 before.1 in
    rw c.selected.ensures (
      c.records.invariant.copied.0,
      record {
        is_found = record {
          all = next.0;
          counted = rw before.2 (record { records = refl; written = refl; without_time = refl });
        };
        held = next.1;
      },
    )

pub records-preserved : goal.records-preserved
records-preserved g c =
    let before = c.records.invariant.copied.1 in
    let more = rw c.in-Judged.is at c.in_ok-answer.ensures.next (g.W.Sink.written c.args.output.now)
    c.records.invariant.copied.0 before.0 before.1 in
    let reads = reads_on (g.R.Source.read c.args.input.now) (g.R.Source.read c.records.input)
    (g.R.Source.read c.push_next.new.input) _ _ _ _ _ _ c.records.invariant.more c.records.invariant.beside
    (c.in_ok-answer.ensures.reads before.0.goes_on) in
    let held = held_on _ _ _ _ _ _ _ _ more.held c.in-Ok.ensures.ok c.in-Ok.ensures.fine in
    let counts =
    counts_more (g.C.Choice.selection c.args.choice.now) _ more.view _ _ _ before.2 more.answered
    c.add.ensures in
    record {
      along = more.handed.along;
      copied = (c.records.invariant.copied.0 ++ more.view ∷ [], (more.handed, held, counts));
      more = reads.more;
      beside = reads.beside;
      few = c.in-Ok.ensures.most;
    }

pub returns-in-Err-clause-copied : goal.returns-in-Err-clause-copied
returns-in-Err-clause-copied g c =
    let before = c.records.invariant.copied.1 in
    let more = rw c.in-Judged.is at c.in_ok-answer.ensures.next (g.W.Sink.written c.args.output.now)
    c.records.invariant.copied.0 before.0 before.1 in
    cut_off _ _ _ _ _ _ _ _ _ _ more.handed.records more.held c.in-Err.ensures.err

pub records-smaller : goal.records-smaller
records-smaller g c =
    let before = c.records.invariant.copied.1 in
    let more = rw c.in-Judged.is at c.in_ok-answer.ensures.next (g.W.Sink.written c.args.output.now)
    c.records.invariant.copied.0 before.0 before.1 in
    omega (arith, more.called, c.records.invariant.along.read.reads, c.records.invariant.along.read.few_reads)

pub add-requires : goal.add-requires
add-requires g c =
    let before = c.records.invariant.copied.1.0 in
    rw c.records.invariant.copied.1.2 (record {
      records = omega (arith, before.called, before.along.read.reads, before.along.read.few_reads);
      asked_for = count_by-le-length _ _;
      without_time = count_by-le-length _ _;
    })

pub records-init : goal.records-init
records-init g c =
    let handed : HasHandedOut (g.R.Source.read c.args.input.now) c.new-cutter.result [] =
    rw c.requires.read c.new-cutter.ensures.handed in
    let gathered : AreGathered (g.W.Sink.written c.args.output.now) (g.W.Sink.written c.args.output.now)
    c.args.text.now.items [] = record { taken = []; bytes = sym (append-nil _); joined = c.requires.text } in
    record {
      along = handed.along;
      copied = ([], (handed, record { gathered = gathered; fine = refl }, c.none-counts.ensures));
      more = ([], sym (append-nil _), Consumes-nil _);
      beside = refl;
      few = rw c.requires.text (omega arith);
    }

pub returns-in_err-answer-clause-reads : goal.returns-in_err-answer-clause-reads
returns-in_err-answer-clause-reads g c =
    reads_on _ _ _ _ _ _ _ _ _ c.records.invariant.more c.records.invariant.beside
    (c.in_err-answer.ensures.reads c.records.invariant.copied.1.0.goes_on)

pub returns-in-Ended-clause-reads : goal.returns-in-Ended-clause-reads
returns-in-Ended-clause-reads g c =
    reads_on _ _ _ _ _ _ _ _ _ c.records.invariant.more c.records.invariant.beside
    (c.in_ok-answer.ensures.reads c.records.invariant.copied.1.0.goes_on)

pub returns-in-Err-clause-reads : goal.returns-in-Err-clause-reads
returns-in-Err-clause-reads g c =
    reads_on _ _ _ _ _ _ _ _ _ c.records.invariant.more c.records.invariant.beside
    (c.in_ok-answer.ensures.reads c.records.invariant.copied.1.0.goes_on)
