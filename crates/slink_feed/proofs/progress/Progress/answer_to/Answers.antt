use Rattle.std.proofs.Common.{sym, ap}
use Rattle.slink_wire.specs.declared.reply.Reply.{Reply}
use Rattle.slink_feed.specs.Session.{State}
use Rattle.slink_feed.proofs.Fitting.{fits_answered}
use Rattle.slink_feed.proofs.progress.Progress.answer_to.Goals as goal

pub returns-in-Line-clause-fits : goal.returns-in-Line-clause-fits
returns-in-Line-clause-fits g c =
    fits_answered _ _ _ c.read.result c.requires (ap (λ (p : State × Reply). p.0) c.answer.ensures.answered)

pub returns-in-TooLong-clause-fits : goal.returns-in-TooLong-clause-fits
returns-in-TooLong-clause-fits g c =
    rw (sym (ap (λ (p : State × Reply). p.0) c.end.ensures.answered)) (tt, c.requires.1)
