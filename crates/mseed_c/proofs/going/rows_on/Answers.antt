use Rattle.std.proofs.Common.{◌≡◌, ap, arith}
use Rattle.mseed_c.specs.declared.going.Progress.{Progress}
use Rattle.mseed_c.proofs.Further.{goes_none, goes_on}
use Rattle.mseed_c.proofs.going.rows_on.Goals as goal

pub loop-index-init : goal.loop-index-init
loop-index-init g c = record {
  goes = goes_none g.P.Places.is_row g.P.Places.room c.args.bytes.now c.args.rows.now c.args.out.now
      c.args.progress.now c.requires.inside c.requires.room;
  rows = c.requires.no_row;
}

pub row_next-requires : goal.row_next-requires
row_next-requires g c =
    let l = c.loop-index in
    let before = l.invariant.rows in
    record {
      inside = l.invariant.goes.inside;
      more = omega (arith, before, c.loop-index-test.true, l.auto.rows);
      room = l.invariant.goes.fits;
    }

pub returns-in-Err-clause-goes : goal.returns-in-Err-clause-goes
returns-in-Err-clause-goes g c =
    goes_on g.P.Places.is_row g.P.Places.room c.args.bytes.now c.args.rows.now c.loop-index.rows c.row_next.new.rows
    c.args.out.now c.loop-index.out c.row_next.new.out c.args.progress.now c.loop-index.progress
    c.row_next.new.progress c.loop-index.invariant.goes c.row_next.ensures.goes

pub returns-in-Err-clause-before : goal.returns-in-Err-clause-before
returns-in-Err-clause-before g c =
    let same : c.row_next.new.progress.offset ≡ c.loop-index.progress.offset =
    ap (λ (p : Progress). p.offset) c.in-Err.ensures.stays in
    omega arith

pub loop-index-preserved : goal.loop-index-preserved
loop-index-preserved g c = record {
  goes = goes_on g.P.Places.is_row g.P.Places.room c.args.bytes.now c.args.rows.now c.loop-index.rows
      c.row_next.new.rows c.args.out.now c.loop-index.out c.row_next.new.out c.args.progress.now
      c.loop-index.progress c.row_next.new.progress c.loop-index.invariant.goes c.row_next.ensures.goes;
  rows = let more = c.in_default.ensures.count in let before = c.loop-index.invariant.rows in omega arith;
}
