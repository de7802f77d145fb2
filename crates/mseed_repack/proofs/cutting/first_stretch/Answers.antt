use Rattle.std.proofs.Common.{◌<◌, arith, length, map, take, sym, ◌∙◌}
use Rattle.std.proofs.lemmas.Bool.{false≢true}
use Rattle.mseed_record.specs.Viewing.{view_of}
use Rattle.mseed_repack.proofs.Passing.{cut_before, passed_more}
use Rattle.mseed_repack.proofs.cutting.first_stretch.Goals as goal

pub returns-then-not-goes_on-clause-first : goal.returns-then-not-goes_on-clause-first
returns-then-not-goes_on-clause-first c =
    let l = c.loop-index in
    let vs = map view_of (take l.index c.args.views.now) in
    cut_before _ _ _ _ c.loop-index-test.true c.index-views-index.is l.invariant.passed (λ go. false≢true (sym
    c.if-not-goes_on.true ∙ (c.goes_on.ensures vs l.invariant.passed.kept).1 go))

pub loop-index-preserved : goal.loop-index-preserved
loop-index-preserved c =
    let l = c.loop-index in
    let vs = map view_of (take l.index c.args.views.now) in
    let more : l.index < length c.args.views.now = c.loop-index-test.true in
    record {
      passed = passed_more _ _ _ _ _ more c.index-views-index.is l.invariant.passed ((c.goes_on.ensures vs
          l.invariant.passed.kept).0 c.if-not-goes_on.false) (c.with-stretch.ensures.stretch vs l.invariant.passed.kept)
          c.with-stretch.ensures.more;
      inside = omega (arith, more);
    }
