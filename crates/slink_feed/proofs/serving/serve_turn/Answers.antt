use Rattle.std.proofs.Common.{◌≤◌, ◌^◌, rules}
use Rattle.slink_feed.specs.Attending.{at_send, is_closed}
use Rattle.slink_feed.proofs.Attended.{stays}
use Rattle.slink_feed.proofs.serving.serve_turn.Goals as goal

pub returns-in-Err-clause-fault : goal.returns-in-Err-clause-fault
returns-in-Err-clause-fault g c =
    at_send c.in-Err.count c.in-Err.ensures.fault (stays (g.met.S.Duplex.writes_apart c.send_all.new.link)
    c.send_all.ensures.beside (g.met.S.Duplex.writes_apart c.args.link.now))

pub returns-then-is_closed-clause-ok : goal.returns-then-is_closed-clause-ok
returns-then-is_closed-clause-ok g c =
    is_closed c.in-Ok.ensures.ok.sends c.if-is_closed.ensures.yes (stays (g.met.S.Duplex.writes_apart
    c.send_all.new.link) c.send_all.ensures.beside (g.met.S.Duplex.writes_apart c.args.link.now))

pub returns-clause-ok : goal.returns-clause-ok
returns-clause-ok g c =
    rw (stays (g.met.S.Duplex.writes_apart c.send_all.new.link) c.send_all.ensures.beside
    (g.met.S.Duplex.writes_apart c.args.link.now)) at (c.answer_once.ensures.ok _ c.in-Ok.ensures.ok)

pub returns-clause-fault : goal.returns-clause-fault
returns-clause-fault g c =
    rw (stays (g.met.S.Duplex.writes_apart c.send_all.new.link) c.send_all.ensures.beside
    (g.met.S.Duplex.writes_apart c.args.link.now)) at (c.answer_once.ensures.fault _ c.in-Ok.ensures.ok)

pub answer_once-requires : goal.answer_once-requires
answer_once-requires g c =
    let awake = c.if-is_closed.ensures.no in
    let few : c.in-Ok.written ≤ 2 ^ 40 = c.in-Ok.ensures.ok.few in
    search rules
