use Rattle.std.proofs.Common.{◌*◌, ap, refl}
use Rattle.slink_live.specs.Turns.{had_failed, is_failed}
use Rattle.slink_live.proofs.Takings.{ends_input, fault_in, nothing_ends}
use Rattle.slink_live.proofs.server.Server.on_failure.Goals as goal

pub returns : goal.returns
returns g c = rw (← c.self.view_is, c.failure-fault.ensures) (
    let end = rw (← c.self.view_is) at c.end.ensures in
    record {
      ends = ends_input end.keeps end.keeps_awake
          (λ start v. fault_in c.end.ensures.leaves v (ap (λ n. 512 * n) v.counted));
      called = is_failed c.if-self.false c.end.ensures.leaves;
    })

pub returns-then-self : goal.returns-then-self
returns-then-self g c = rw (← c.self.view_is)
    (record { ends = nothing_ends (rw (← c.self.view_is) at c.requires); called = had_failed c.if-self.true refl })
