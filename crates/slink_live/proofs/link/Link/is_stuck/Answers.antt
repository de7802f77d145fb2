use Rattle.std.proofs.Common.{not}
use Rattle.std.proofs.lemmas.Bool.{OnFalse_from}
use Rattle.slink_live.specs.Awake.{IsLost}
use Rattle.slink_live.proofs.Losing.{rested_not_lost}
use Rattle.slink_live.proofs.link.Link.is_stuck.Goals as goal

pub returns-else-not-has_room-clause-no : goal.returns-else-not-has_room-clause-no
returns-else-not-has_room-clause-no c =
    OnFalse_from (not c.has_room.result) (¬ (IsLost c.args.feed.now c.args.self.now.session.state))
    (λ e. rested_not_lost c.args.feed.now c.args.self.now.session.state (c.requires c.if-not-has_room.ensures.yes))
