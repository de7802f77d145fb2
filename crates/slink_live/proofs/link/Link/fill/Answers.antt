use Rattle.std.proofs.Common.{ap, length, length-append, arith, inl, inr}
use Rattle.slink_feed.proofs.Waits.{quiet_or_closed}
use Rattle.slink_live.specs.History.{none_called}
use Rattle.slink_live.proofs.Due.{due_turn}
use Rattle.slink_live.proofs.Histories.{asks_then}
use Rattle.slink_live.proofs.Turning.{gives_asks}
use Rattle.slink_live.proofs.link.Link.fill.Goals as goal

pub returns-then-not-is_streaming-clause-asks : goal.returns-then-not-is_streaming-clause-asks
returns-then-not-is_streaming-clause-asks c = none_called

pub returns-then-not-is_streaming-clause-filled : goal.returns-then-not-is_streaming-clause-filled
returns-then-not-is_streaming-clause-filled c room =
    quiet_or_closed c.args.feed.now c.args.self.now.session.state c.if-not-is_streaming.ensures.no

pub loop-ask-init : goal.loop-ask-init
loop-ask-init c = record {
  asks = none_called;
  fits = c.requires.fits;
  grown = omega arith;
  due = c.due-due.ensures;
}

pub ask_due-due-requires : goal.ask_due-due-requires
ask_due-due-requires c = record {
  room = c.if-not-has_room.ensures.yes;
  fits = c.loop-ask.invariant.fits;
  due = c.loop-ask.invariant.due;
  turn = c.in-Some.ensures.some;
}

pub end-requires : goal.end-requires
end-requires c = record {
  room = c.if-not-has_room.ensures.yes;
  fits = c.loop-ask.invariant.fits;
  streams = c.loop-ask.invariant.due.streams;
  none = λ k lt. c.loop-ask.invariant.due.rest k lt (c.in-None.ensures.none k);
}

pub returns-in-None-clause-asks : goal.returns-in-None-clause-asks
returns-in-None-clause-asks c = asks_then c.loop-ask.invariant.asks c.end.ensures.asks

pub returns-then-is_closed-clause-asks : goal.returns-then-is_closed-clause-asks
returns-then-is_closed-clause-asks c = asks_then c.loop-ask.invariant.asks
    (gives_asks _ _ _ c.in-Some.k c.ask_due-due.ensures.gives (due_turn _ _ c.loop-ask.due c.loop-ask.self.ring
    c.in-Some.k c.loop-ask.invariant.due c.in-Some.ensures.some c.in-Some.ensures.first))

pub returns-then-is_closed-clause-filled : goal.returns-then-is_closed-clause-filled
returns-then-is_closed-clause-filled c room = inr c.if-is_closed.ensures.yes

pub loop-ask-preserved : goal.loop-ask-preserved
loop-ask-preserved c = record {
  asks = asks_then c.loop-ask.invariant.asks (gives_asks _ _ _ c.in-Some.k c.ask_due-due.ensures.gives
      (due_turn _ _ c.loop-ask.due c.loop-ask.self.ring c.in-Some.k c.loop-ask.invariant.due c.in-Some.ensures.some
      c.in-Some.ensures.first));
  fits = c.ask_due-due.ensures.fits;
  grown = let gives = c.ask_due-due.ensures.gives in elim gives.grows [
    | inl shut ↦ absurd (c.if-is_closed.ensures.no shut)
    | inr more ↦ omega (arith, c.loop-ask.invariant.grown, more, simp length-append at (ap length gives.pending))
  ];
  due = elim c.ask_due-due.ensures.due [
    | inl shut ↦ absurd (c.if-is_closed.ensures.no shut)
    | inr due ↦ due
  ];
}
