use Rattle.std.proofs.Common.{arith, ap, sym, ◌∙◌}
use Rattle.slink_wire.specs.Place.{Fields, matches}
use Rattle.slink_feed.specs.Window.{Window}
use Rattle.slink_feed.proofs.Places.{found_at, none_left, passed_at}
use Rattle.slink_feed.proofs.feed.Feed.find.Goals as goal

pub loop-k-preserved : goal.loop-k-preserved
loop-k-preserved g c =
    passed_at (λ (w : Window). matches w.place c.args.sta.now c.args.net) c.args.self.now c.loop-k.k c.ring.result.now _
    _ c.ring.ensures.ring (c.matches.ensures ∙ ap (λ (f : Fields). matches f c.args.sta.now c.args.net) c.place.ensures)
    c.if-matches.false c.loop-k.invariant

pub returns-then-matches-clause-value : goal.returns-then-matches-clause-value
returns-then-matches-clause-value g c =
    sym (found_at (λ (w : Window). matches w.place c.args.sta.now c.args.net) c.args.self.now c.loop-k.k
    c.ring.result.now c.matches.result _ c.ring.ensures.ring
    (c.matches.ensures ∙ ap (λ (f : Fields). matches f c.args.sta.now c.args.net) c.place.ensures) c.if-matches.true
    c.loop-k.invariant)

pub returns-clause-value : goal.returns-clause-value
returns-clause-value g c =
    sym (none_left (λ (w : Window). matches w.place c.args.sta.now c.args.net) c.args.self.now c.loop-k.k _
    (omega arith) c.loop-k.invariant)
