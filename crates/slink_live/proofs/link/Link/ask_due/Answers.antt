use Rattle.std.proofs.Common.{refl}
use Rattle.slink_live.specs.private.Calling.{Gives}
use Rattle.slink_live.proofs.Due.{due_after, gives_due}
use Rattle.slink_live.proofs.link.Link.ask_due.Goals as goal

pub ask_at-requires : goal.ask_at-requires
ask_at-requires c =
    let within = c.requires.due.within c.args.k c.requires.turn in
    record { within = within.0; few = within.1; room = c.requires.room; fits = c.requires.fits }

pub is_due-requires : goal.is_due-requires
is_due-requires c = (c.requires.due.within c.args.k c.requires.turn).0

pub without-requires : goal.without-requires
without-requires c = (c.requires.due.within c.args.k c.requires.turn).1

pub returns-then-is_due-clause-gives : goal.returns-then-is_due-clause-gives
returns-then-is_due-clause-gives c =
    gives_due _ _ c.args.k _ _ _ c.requires.due c.requires.turn c.ask_at.ensures.yes c.ask_at.ensures.no

pub returns-else-is_due-clause-gives : goal.returns-else-is_due-clause-gives
returns-else-is_due-clause-gives c =
    gives_due _ _ c.args.k _ _ _ c.requires.due c.requires.turn c.ask_at.ensures.yes c.ask_at.ensures.no

pub returns-then-is_due-clause-due : goal.returns-then-is_due-clause-due
returns-then-is_due-clause-due c =
    let g : Gives c.args.feed.now c.args.k c.args.self.now c.ask_at.new.self = returns-then-is_due-clause-gives c in
    due_after _ _ _ c.args.due c.args.k g.answer c.requires.due c.requires.turn g.given c.args.due (λ j ne h. h)
    (λ j lt ne h. h) (λ h. (c.if-is_due.ensures.yes).1) (λ streams none. absurd (none c.requires.turn))

pub returns-else-is_due-clause-due : goal.returns-else-is_due-clause-due
returns-else-is_due-clause-due c =
    let g : Gives c.args.feed.now c.args.k c.args.self.now c.ask_at.new.self = returns-else-is_due-clause-gives c in
    due_after _ _ _ c.args.due c.args.k g.answer c.requires.due c.requires.turn g.given c.without.result
    (λ j ne h. (c.without.ensures.less j h).0) c.without.ensures.others
    (λ h. absurd ((c.without.ensures.less c.args.k h).1 refl)) (λ streams none. c.if-is_due.ensures.no streams)
