use Rattle.std.proofs.Common.{◌∙◌, [], ◌∷◌, codes}
use Rattle.slink_feed.specs.Reporter.{none, one}
use Rattle.mseed_feed.specs.Unlistened.{cannot_listen}
use Rattle.mseed_feed.proofs.refusal.report_unlistened.Goals as goal

pub returns : goal.returns
returns g c =
    let line = cannot_listen c.args.listener.now c.args.fault in (
      c.link_failed-status.ensures.status,
      one (codes "mseed: link failed\n") (line ∷ []) _ _ _ c.link_failed-status.ensures.reported
          (one line [] _ _ _ (rw (c.as_slice.ensures ∙ c.cannot_listen.ensures) at c.report.ensures) (none _)),
    )
