use Rattle.std.proofs.Common.{ap, ◌∙◌, set}
use Rattle.slink_feed.specs.Dialogue.{Wants, wanted_of}
use Rattle.slink_feed.proofs.Wanting.{wanted_more}
use Rattle.slink_feed.proofs.dialogue.wants_of.Goals as goal

pub loop-k-preserved : goal.loop-k-preserved
loop-k-preserved c =
    ap (λ (ws : Wants). set ws c.loop-k.k (wanted_of c.index-places-k.result)) c.loop-k.invariant
    ∙ wanted_more c.args.places.now c.loop-k.k c.index-places-k.result c.loop-k-test.true c.requires c.index-places-k.is
