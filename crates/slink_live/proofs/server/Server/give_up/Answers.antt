use Rattle.std.proofs.Common.{◌*◌, ap}
use Rattle.slink_live.proofs.Takings.{ends_input, fault_in}
use Rattle.slink_live.proofs.server.Server.give_up.Goals as goal

pub returns-clause-ends : goal.returns-clause-ends
returns-clause-ends g c = rw (← c.self.view_is, c.last_turn-fault.ensures) (
    let end = rw (← c.self.view_is) at c.end.ensures in ends_input end.keeps end.keeps_awake
    (λ start v. fault_in c.end.ensures.leaves v (ap (λ n. 512 * n) v.counted)))

pub returns-clause-fault : goal.returns-clause-fault
returns-clause-fault g c = rw (← c.self.view_is) c.last_turn-fault.ensures
