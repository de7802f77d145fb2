use Rattle.std.proofs.Common.{arith, inr, refl}
use Rattle.std.proofs.lemmas.Result.{err_from_is_err_and}
use Rattle.slink_live.specs.Turns.{gives_up, is_done, is_wrong, nothing_comes}
use Rattle.slink_live.proofs.Goes.{come_on, handled_come, served_first, stands}
use Rattle.slink_live.proofs.Goes.{served_on}
use Rattle.slink_live.proofs.server.Server.serve.Goals as goal

pub loop-turn-init : goal.loop-turn-init
loop-turn-init g c = served_first c.requires.sound

pub returns-then-is_finished-clause-steps : goal.returns-then-is_finished-clause-steps
returns-then-is_finished-clause-steps g c start v a =
    is_done _ _ c.loop-turn-test.true (c.loop-turn.invariant.turns start v a) (stands c.loop-turn.invariant start v a)
    c.if-is_finished.ensures.yes

pub returns-in-Nothing : goal.returns-in-Nothing
returns-in-Nothing g c =
    let on = handled_come c.loop-turn.invariant c.next.result c.next.ensures.log in
    record {
      sound = on.keeps.sound;
      serving = on.keeps.carries.serving;
      failed = inr (c.next.ensures.failed c.in-Nothing.is);
      fault = tt;
      ended = tt;
      grows = on.keeps.carries.grows;
      unread = on.keeps.carries.unread;
      steps = rw (c.next.ensures.log, c.in-Nothing.is)
          (λ start v a. nothing_comes _ _ _ c.loop-turn-test.true (c.loop-turn.invariant.turns start v a)
          (stands c.loop-turn.invariant start v a) c.if-is_finished.ensures.no refl);
      slots = on.keeps.carries.slots;
      awake = on.awakens.awake;
      closed = on.awakens.closed;
    }

pub returns-in_err-step-in_default : goal.returns-in_err-step-in_default
returns-in_err-step-in_default g c =
    let p = err_from_is_err_and c.from_residual.result c.from_residual.ensures.1 in
    let handled = handled_come c.loop-turn.invariant c.next.result c.next.ensures.log in
    let answers = c.in_err-step-in_default.ensures.answers in
    let on =
    come_on handled answers.keeps (c.step.ensures.keeps_awake (g.R.Ready.log c.loop-turn.ready) c.next.ensures.log) in
    record {
      sound = on.keeps.sound;
      serving = on.keeps.carries.serving;
      failed = rw p.1 tt;
      fault = rw (p.1, p.2) (λ start v. answers.fault start (handled.keeps.carries.serving start v));
      ended = rw p.1 answers.ended;
      grows = on.keeps.carries.grows;
      unread = on.keeps.carries.unread;
      steps = rw (p.1, p.2) (λ start v a. is_wrong _ _ _ c.next.result _ c.loop-turn-test.true
          (c.loop-turn.invariant.turns start v a) (stands c.loop-turn.invariant start v a)
          c.if-is_finished.ensures.no (rw c.next.ensures.log at c.in_err-step-in_default.ensures.called));
      slots = on.keeps.carries.slots;
      awake = on.awakens.awake;
      closed = on.awakens.closed;
    }

pub loop-turn-preserved : goal.loop-turn-preserved
loop-turn-preserved g c =
    served_on c.loop-turn.invariant c.next.result c.if-is_finished.ensures.no
    (come_on (handled_come c.loop-turn.invariant c.next.result c.next.ensures.log)
    c.in_ok-step-in_default.ensures.answers.keeps
    (c.step.ensures.keeps_awake (g.R.Ready.log c.loop-turn.ready) c.next.ensures.log)) c.in_default.not-Nothing
    (rw c.next.ensures.log at c.in_ok-step-in_default.ensures.called)

pub returns : goal.returns
returns g c =
    let ends = c.give_up.ensures.ends in
    let on = come_on c.loop-turn.invariant.come ends.answers.keeps ends.keeps_awake in
    record {
      sound = on.keeps.sound;
      serving = on.keeps.carries.serving;
      failed = tt;
      fault = λ start v. ends.answers.fault start (c.loop-turn.invariant.come.keeps.carries.serving start v);
      ended = ends.answers.ended;
      grows = on.keeps.carries.grows;
      unread = on.keeps.carries.unread;
      steps = rw c.give_up.ensures.fault (λ start v a. gives_up c.loop-turn.turn _ _
          (omega (arith, c.loop-turn-test.false, c.loop-turn.auto.turn-end)) (c.loop-turn.invariant.turns start v a)
          (stands c.loop-turn.invariant start v a) c.give_up.ensures.leaves);
      slots = on.keeps.carries.slots;
      awake = on.awakens.awake;
      closed = on.awakens.closed;
    }
