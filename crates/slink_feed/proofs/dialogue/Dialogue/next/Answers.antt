use Rattle.slink_feed.proofs.Wanting.{short_next}
use Rattle.slink_feed.proofs.dialogue.Dialogue.next.Goals as goal

pub returns-in-Some-clause-short : goal.returns-in-Some-clause-short
returns-in-Some-clause-short c =
    short_next c.self.inside.wants c.args.k c.want_at.result c.in-Some.wanted c.self.invariant.0
    c.want_at.ensures.value c.in-Some.is
