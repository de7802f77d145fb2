use Rattle.std.proofs.Common.{[], append-nil, arith, refl, sym}
use Rattle.std.proofs.KnownBytes.{Consumes-nil}
use Rattle.mseed_stream.proofs.Calls.{reads_on}
use Rattle.mseed_join.specs.Borders.{AreBorders}
use Rattle.mseed_join.specs.Reached.{start}
use Rattle.mseed_join.proofs.Along.{none_reported}
use Rattle.mseed_join.proofs.Each.{all_read, cut_off, miscounted, none_read_yet, on_way, stopped_at}
use Rattle.mseed_join.proofs.parts.read_with.Goals as goal

pub returns-in-Err-clause-outcome : goal.returns-in-Err-clause-outcome
returns-in-Err-clause-outcome g c =
    none_read_yet c.requires.read (c.stop.ensures c.args.output.now [] c.requires.report)

pub lines-init : goal.lines-init
lines-init g c = record {
  along = record {
    stage = start;
    found = [];
    along = rw c.requires.read c.in-Ok.ensures;
    reported = none_reported c.args.past_faults (g.E.Sink.written c.args.errors.now);
    borders = AreBorders.none [];
    stands = c.requires.report;
  };
  more = (
    [],
    sym (append-nil (g.R.Source.read c.args.source.now).bytes),
    Consumes-nil (g.R.Source.remaining c.args.source.now),
  );
  beside = refl;
}

pub next-requires : goal.next-requires
next-requires g c =
    let u = c.lines.invariant.along in
    (c.args.past_faults, u.stage, u.along)

pub lines-smaller : goal.lines-smaller
lines-smaller g c =
    let line = rw c.in-Ok-Some.field-0-is at c.in-Ok-Some.ensures.line in
    let few = rw c.in-Ok-Some.field-0-is at c.in-Ok-Some.ensures.few in
    omega (arith, line, few)

pub lines-preserved : goal.lines-preserved
lines-preserved g c =
    let i = c.lines.invariant in
    let step = rw c.in-Ok-Some.field-0-is at c.in-Ok-Some.ensures.step c.args.past_faults i.along.stage i.along.along in
    let reads = reads_on (g.R.Source.read c.args.source.now) (g.R.Source.read c.lines.source) _ _ _ _ _ _ _ i.more
    i.beside c.next.ensures.reads in
    record {
      along = on_way c.in-Ok-Some.reported i.along step c.report_passed.ensures
          (c.in-Ok-add.ensures.reported c.args.output.now);
      more = reads.more;
      beside = reads.beside;
    }

pub returns-in-Err-add-clause-outcome : goal.returns-in-Err-add-clause-outcome
returns-in-Err-add-clause-outcome g c =
    let i = c.lines.invariant in
    let step = rw c.in-Ok-Some.field-0-is at c.in-Ok-Some.ensures.step c.args.past_faults i.along.stage i.along.along in
    cut_off (on_way c.in-Ok-Some.reported i.along step c.report_passed.ensures
    (c.in-Err-add.ensures.reported c.args.output.now))

pub returns-in-Ok-finish-clause-outcome : goal.returns-in-Ok-finish-clause-outcome
returns-in-Ok-finish-clause-outcome g c =
    let i = c.lines.invariant in
    let step = rw c.in-Ok-None.field-0-is at c.in-Ok-None.ensures.step c.args.past_faults i.along.stage i.along.along in
    all_read i.along step c.in-Ok-finish.ensures

pub returns-in-Err-finish-clause-outcome : goal.returns-in-Err-finish-clause-outcome
returns-in-Err-finish-clause-outcome g c =
    let i = c.lines.invariant in
    let step = rw c.in-Ok-None.field-0-is at c.in-Ok-None.ensures.step c.args.past_faults i.along.stage i.along.along in
    miscounted i.along c.in-Err-finish.unread (c.stop-in-Err-finish.ensures c.args.output.now) step
    c.in-Err-finish.ensures

pub returns-in-Err-next-clause-outcome : goal.returns-in-Err-next-clause-outcome
returns-in-Err-next-clause-outcome g c =
    let i = c.lines.invariant in
    stopped_at i.along c.in-Err-next.unread (c.stop-in-Err-next.ensures c.args.output.now)
    (c.in-Err-next.ensures.step c.args.past_faults i.along.stage i.along.along)

pub returns-in-Err-add-clause-reads : goal.returns-in-Err-add-clause-reads
returns-in-Err-add-clause-reads g c =
    reads_on _ (g.R.Source.read c.lines.source) _ _ _ _ _ _ _ c.lines.invariant.more c.lines.invariant.beside
    c.next.ensures.reads

pub returns-in-Ok-finish-clause-reads : goal.returns-in-Ok-finish-clause-reads
returns-in-Ok-finish-clause-reads g c =
    reads_on _ (g.R.Source.read c.lines.source) _ _ _ _ _ _ _ c.lines.invariant.more c.lines.invariant.beside
    c.next.ensures.reads

pub returns-in-Err-finish-clause-reads : goal.returns-in-Err-finish-clause-reads
returns-in-Err-finish-clause-reads g c =
    reads_on _ (g.R.Source.read c.lines.source) _ _ _ _ _ _ _ c.lines.invariant.more c.lines.invariant.beside
    c.next.ensures.reads

pub returns-in-Err-next-clause-reads : goal.returns-in-Err-next-clause-reads
returns-in-Err-next-clause-reads g c =
    reads_on _ (g.R.Source.read c.lines.source) _ _ _ _ _ _ _ c.lines.invariant.more c.lines.invariant.beside
    c.next.ensures.reads
