use Rattle.std.proofs.Common.{◌∙◌, ap}
use Rattle.std.proofs.lemmas.Result.{err_from_is_err_and}
use Rattle.mseed_stream.specs.CutterState.{CutterState}
use Rattle.mseed_stream.proofs.Calls.{reads_on}
use Rattle.mseed_stream.proofs.Cuts.{record_cut, frame_cut, end_cut, fill_cut, cutting_on}
use Rattle.mseed_stream.proofs.cutter.Cutter.cut.Goals as goal

pub returns-in-Record-clause-cut : goal.returns-in-Record-clause-cut
returns-in-Record-clause-cut g c =
    let it = c.look.ensures.record c.in-Record.size c.in-Record.is in
    rw (c.note_held.ensures.read, c.look.ensures.stays)
    (record_cut _ _ _ _ _ _ _ c.stops.invariant.cutting c.requires.asks.1 it.0 it.1)

pub returns-in-Not-clause-cut : goal.returns-in-Not-clause-cut
returns-in-Not-clause-cut g c =
    let inv = c.stops.invariant.cutting in
    let same = c.look.ensures.stays in
    let offset = ap (λ (s : CutterState). s.offset) (c.self.view_is ∙ same) ∙ inv.holds.offset in
    rw same (frame_cut _ _ _ _ _ _ _ inv offset (rw c.in-Not.is at c.look.ensures.decides))

pub returns-in-Need-clause-cut : goal.returns-in-Need-clause-cut
returns-in-Need-clause-cut g c =
    let same = c.look.ensures.stays in
    rw same (end_cut _ _ _ _ _ _ (rw c.if-is_at_end.true at c.stops.invariant.cutting) (rw same at c.end.ensures)
    (rw c.in-Need.is at c.look.ensures.decides))

pub returns-in_err-is_at_end-in-Need-2-clause-cut : goal.returns-in_err-is_at_end-in-Need-2-clause-cut
returns-in_err-is_at_end-in-Need-2-clause-cut g c =
    let err = rw c.look.ensures.stays at c.in_err-is_at_end-in-Need-2.ensures in
    let e = err_from_is_err_and c.from_residual.result c.from_residual.ensures.1 in
    rw (e.1, e.2) (fill_cut _ _ _ _ _ _ _ _ _ (rw c.if-is_at_end.false at c.stops.invariant.cutting)
    (rw c.in-Need.is at c.look.ensures.decides) err.holds err.reads.more.1 err.filled)

pub stops-preserved : goal.stops-preserved
stops-preserved g c =
    let inv = c.stops.invariant in
    let ok = rw c.look.ensures.stays at c.in_ok-is_at_end-in-Need-2.ensures in
    record {
      cutting = cutting_on _ _ _ _ _ _ _ _ _ (rw c.if-is_at_end.false at inv.cutting)
          (rw c.in-Need.is at c.look.ensures.decides) ok.holds ok.reads.more.1 ok.filled;
      reads = reads_on _ _ _ _ _ _ _ _ _ inv.reads.more inv.reads.beside ok.reads;
    }

pub returns-in_err-is_at_end-in-Need-2-clause-reads : goal.returns-in_err-is_at_end-in-Need-2-clause-reads
returns-in_err-is_at_end-in-Need-2-clause-reads g c =
    let so_far = c.stops.invariant.reads in
    reads_on _ _ _ _ _ _ _ _ _ so_far.more so_far.beside c.in_err-is_at_end-in-Need-2.ensures.reads
