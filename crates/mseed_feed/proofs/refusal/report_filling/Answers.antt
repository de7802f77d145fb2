use Rattle.slink_feed.specs.Reporter.{one}
use Rattle.mseed_feed.specs.Plans.{fill_text, more_lines}
use Rattle.mseed_feed.proofs.refusal.report_filling.Goals as goal

pub returns : goal.returns
returns g c =
    one (fill_text c.args.fault.now) (more_lines c.args.fault.now) _ _ _ c.report_reason.ensures c.report_more.ensures
