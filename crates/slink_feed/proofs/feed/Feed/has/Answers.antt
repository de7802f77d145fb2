use Rattle.std.proofs.Common.{sym, ◌∙◌, arith}
use Rattle.slink_feed.proofs.Places.{has_at, lacks_more, lacks_all, same_place, other_place}
use Rattle.slink_feed.proofs.feed.Feed.has.Goals as goal

pub returns-then-eq-clause-yes : goal.returns-then-eq-clause-yes
returns-then-eq-clause-yes g c =
    has_at c.args.self.now c.loop-k.k c.ring.result.now c.args.place c.ring.ensures.ring (sym c.place.ensures
    ∙ same_place c.place.result c.args.place c.eq.result c.eq.ensures c.if-eq.true)

pub loop-k-preserved : goal.loop-k-preserved
loop-k-preserved g c =
    lacks_more c.args.self.now c.loop-k.k c.ring.result.now c.args.place c.ring.ensures.ring
    (λ same. other_place c.place.result c.args.place c.eq.result c.eq.ensures c.if-eq.false (c.place.ensures
    ∙ same)) c.loop-k.invariant

pub returns-clause-no : goal.returns-clause-no
returns-clause-no g c = lacks_all c.args.self.now c.loop-k.k c.args.place (omega arith) c.loop-k.invariant
