use Rattle.std.proofs.Common.{◌≡◌, ◌<◌, ◌≤◌, ◌∙◌, ap, arith}
use Rattle.std.proofs.lemmas.Bool.{le-ltb, lt-ltb}
use Rattle.slink_wire.specs.Place.{Fields}
use Rattle.slink_feed.proofs.ReportLines.{reported_line}
use Rattle.slink_feed.specs.Reporter.{none}
use Rattle.mseed_feed.specs.Plans.{came_to, keeps_line}
use Rattle.mseed_feed.proofs.keeping.report_ring.Goals as goal

pub returns-then-came-from : goal.returns-then-came-from
returns-then-came-from g c =
    let came : c.saturating_sub-came.result ≡ came_to c.args.serving.now c.args.ring.now =
    omega (arith, c.saturating_sub-came.ensures, c.next.ensures.value, c.from.ensures) in
    let more : c.args.serving.now.capacity < c.saturating_sub-came.result =
    omega (arith, c.if-came-from.true, c.from-2.ensures) in
    rw (← came, lt-ltb _ _ more) (reported_line _ _ _ _ (c.as_slice.ensures ∙ (c.keeps_line.ensures
    ∙ ap (λ (p : Fields). keeps_line p c.args.serving.now.capacity c.saturating_sub-came.result) c.place.ensures))
    c.report.ensures)

pub returns-else-came-from : goal.returns-else-came-from
returns-else-came-from g c =
    let came : c.saturating_sub-came.result ≡ came_to c.args.serving.now c.args.ring.now =
    omega (arith, c.saturating_sub-came.ensures, c.next.ensures.value, c.from.ensures) in
    let few : c.saturating_sub-came.result ≤ c.args.serving.now.capacity =
    omega (arith, c.if-came-from.false, c.from-2.ensures) in
    rw (← came, le-ltb _ _ few) (none (g.E.Sink.written c.args.errors.now))
