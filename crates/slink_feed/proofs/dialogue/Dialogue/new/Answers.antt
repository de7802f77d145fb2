use Rattle.slink_feed.proofs.Wanting.{short_all}
use Rattle.slink_feed.proofs.dialogue.Dialogue.new.Goals as goal

pub invariant_of-result : goal.invariant_of-result
invariant_of-result c = (short_all c.args.places.now c.wants_of.result c.requires.numbers c.wants_of.ensures, tt)
