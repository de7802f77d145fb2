use Rattle.slink_feed.specs.Dialogue.{want_at}
use Rattle.slink_feed.proofs.Wanting.{short_with}
use Rattle.slink_feed.proofs.dialogue.Dialogue.pass.Goals as goal

pub invariant_of-self : goal.invariant_of-self
invariant_of-self c = (
  rw c.want_next.ensures
      (short_with (want_at c.self.inside.wants c.args.k) c.self.inside.wants c.args.k c.args.number c.self.invariant.0),
  c.self.invariant.1,
)
