use Rattle.std.proofs.Common.{inl, ap, arith, length, ◌<◌}
use Rattle.slink_live.specs.Served.{ServerState}
use Rattle.slink_live.proofs.Reported.{gone_keeps, gone_updates}
use Rattle.slink_live.specs.Awake.{nothing}
use Rattle.slink_live.proofs.Steps.{removes_at, removes_past}
use Rattle.slink_live.proofs.Updating.{awake_same, awake_then, updates_awake}
use Rattle.slink_live.proofs.server.Server.on_gone.Goals as goal

pub returns-then-slot-len : goal.returns-then-slot-len
returns-then-slot-len g c =
    let within : c.args.slot < length c.args.self.now.links =
    omega (arith, c.if-slot-len.true, c.len.ensures, ap (λ (s : ServerState). length s.links) c.self.view_is) in
    rw (c.close.ensures.links, c.close.ensures.log) (record {
      keeps = gone_keeps c.args.self.now c.args.slot _ within c.requires;
      called = removes_at _ c.args.slot _ _;
      keeps_awake = λ earlier handled. awake_then (λ start v. v) (λ a. (λ k ne. a.each k, a.is_reported))
          (λ start v a. nothing) (λ a. updates_awake
          (gone_updates c.args.self.now c.args.slot _ within (λ start v r. inl (earlier, handled))));
    })

pub returns-else-slot-len-clause-called : goal.returns-else-slot-len-clause-called
returns-else-slot-len-clause-called g c =
    removes_past c.args.self.now.links c.args.slot _
    (omega (arith, c.if-slot-len.false, c.len.ensures, ap (λ (s : ServerState). length s.links) c.self.view_is))

pub returns-else-slot-len-clause-keeps_awake : goal.returns-else-slot-len-clause-keeps_awake
returns-else-slot-len-clause-keeps_awake g c earlier handled = awake_same
