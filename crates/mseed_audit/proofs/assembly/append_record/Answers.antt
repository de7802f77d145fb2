use Rattle.std.proofs.Common.{ap, ◌∙◌}
use Rattle.mseed_record.specs.Viewing.{view_of}
use Rattle.mseed_audit.specs.Judging.{step_in}
use Rattle.mseed_audit.proofs.Joined.{holds_more}
use Rattle.mseed_audit.proofs.assembly.append_record.Goals as goal

pub returns-in-Ok-clause-holds : goal.returns-in-Ok-clause-holds
returns-in-Ok-clause-holds g c = λ codes start rate vs before.
    let added = c.in-Ok.ensures in
    holds_more codes start rate vs (view_of c.args.view.now) added.0 c.step.result c.args.series.now c.push.new.self
    before added.1.0
    (c.step.ensures ∙ ap step_in c.leap.ensures) added.1.1
