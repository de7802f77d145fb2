use Rattle.std.proofs.lemmas.Result.{IfErr-weaker}
use Rattle.std.proofs.Common.{refl}
use Rattle.slink_live.specs.Turns.{had_ended}
use Rattle.slink_live.proofs.Takings.{cut_off_fault, ends_called, ends_input, nothing_ends}
use Rattle.slink_live.proofs.server.Server.on_end.Goals as goal

pub returns : goal.returns
returns g c = rw (← c.self.view_is) (
    let end = rw (← c.self.view_is) at c.end.ensures in
    record {
      ends = ends_input end.keeps end.keeps_awake (IfErr-weaker c.end-ending.result _ _
          (λ e is start v. cut_off_fault _ (rw (← c.self.view_is) at c.requires) c.if-self.false c.end.ensures.leaves
          start v e is) c.end-ending.ensures.err);
      called = ends_called _ c.end.ensures.leaves c.if-self.false c.end-ending.result c.end-ending.ensures.ok
          c.end-ending.ensures.err;
    })

pub returns-then-self : goal.returns-then-self
returns-then-self g c = rw (← c.self.view_is)
    (record { ends = nothing_ends (rw (← c.self.view_is) at c.requires); called = had_ended c.if-self.true refl })
