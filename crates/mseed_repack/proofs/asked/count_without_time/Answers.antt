use Rattle.std.proofs.Common.{◌∙◌, ◌+◌, ◌≤◌, arith, length, map, rules, take}
use Rattle.std.proofs.lemmas.List.{length-map, length-take-le, take_all}
use Rattle.std.proofs.lemmas.List.Sums.{count_by-le-length}
use Rattle.mseed_record.specs.Viewing.{view_of}
use Rattle.mseed_record.specs.Selection.{lacks_time}
use Rattle.mseed_record.proofs.Counted.{count_more}
use Rattle.mseed_repack.proofs.Runs.{passed_with}
use Rattle.mseed_repack.proofs.Untimed.{at_most_one}
use Rattle.mseed_repack.proofs.asked.count_without_time.Goals as goal

pub returns : goal.returns
returns g c =
    rw (take_all c.loop-view.view-index c.args.views.now c.loop-view-test.false) at c.loop-view.invariant

pub overflow_add-count : goal.overflow_add-count
overflow_add-count g c =
    let test = lacks_time (g.C.Choice.selection c.args.choice.now) in
    let passed = take c.loop-view.view-index c.args.views.now in
    let size = length-map passed view_of ∙ length-take-le c.loop-view.view-index c.args.views.now
    (omega (arith, c.loop-view-test.true)) in
    let one = at_most_one (test (view_of c.view-item.result)) c.count_one-count.result c.count_one-count.ensures in
    let below : c.loop-view.count + c.count_one-count.result ≤ length c.args.views.now = omega (
      arith,
      c.loop-view.invariant,
      count_by-le-length test (map view_of passed),
      size,
      one,
      c.loop-view-test.true,
    ) in
    search rules

pub loop-view-preserved : goal.loop-view-preserved
loop-view-preserved g c =
    let l = c.loop-view in
    let rs = c.args.views.now in
    let before = map view_of (take l.view-index rs) in
    let one = count_more (lacks_time (g.C.Choice.selection c.args.choice.now)) before (view_of c.view-item.result) in
    rw (passed_with rs l.view-index c.view-item.result c.loop-view-test.true c.view-item.is)
    (omega (arith, l.invariant, c.count_one-count.ensures, one))
