use Rattle.std.proofs.Common.{◌∙◌, inl, sym}
use Rattle.slink_feed.proofs.Waits.{waits_all}
use Rattle.slink_live.specs.History.{none_called}
use Rattle.slink_live.proofs.Due.{asks_or, filled_or}
use Rattle.slink_live.proofs.link.Link.end.Goals as goal

pub returns-then-has_sent_all-clause-asks : goal.returns-then-has_sent_all-clause-asks
returns-then-has_sent_all-clause-asks c =
    asks_or c.args.feed.now c.args.self.now c.ask.new.self c.ask.result c.ask.ensures.yes c.ask.ensures.stays

pub returns-then-has_sent_all-clause-filled : goal.returns-then-has_sent_all-clause-filled
returns-then-has_sent_all-clause-filled c =
    filled_or c.args.feed.now c.args.self.now c.ask.new.self c.ask.result
    (c.ask.ensures.ends c.requires.streams c.requires.none) c.ask.ensures.stays c.ask.ensures.no

pub returns-else-has_sent_all-clause-asks : goal.returns-else-has_sent_all-clause-asks
returns-else-has_sent_all-clause-asks c = none_called

pub returns-else-has_sent_all-clause-filled : goal.returns-else-has_sent_all-clause-filled
returns-else-has_sent_all-clause-filled c room =
    inl (waits_all _ _ c.requires.streams c.requires.none (sym c.has_sent_all.ensures ∙ c.if-has_sent_all.false))
