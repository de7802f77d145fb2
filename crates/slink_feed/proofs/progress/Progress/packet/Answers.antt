use Rattle.std.proofs.Common.{◌∙◌, sym}
use Rattle.slink_feed.proofs.Sendoffs.{no_packet}
use Rattle.slink_feed.proofs.progress.Progress.packet.Goals as goal

pub returns-in-Err-clause-few : goal.returns-in-Err-clause-few
returns-in-Err-clause-few g c bytes e = absurd (no_packet c.in-Err.unsent bytes (sym c.sent.ensures ∙ e))

pub returns-in-Ok-clause-few : goal.returns-in-Ok-clause-few
returns-in-Ok-clause-few g c bytes e = c.in-Ok.ensures.few
