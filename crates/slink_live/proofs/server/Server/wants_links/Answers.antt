use Rattle.std.proofs.Common.{◌∙◌}
use Rattle.slink_live.proofs.Reported.{wants_if}
use Rattle.slink_live.proofs.server.Server.wants_links.Goals as goal

pub returns : goal.returns
returns c = c.is_some.ensures
    ∙ wants_if c.args.self.now.has_ended c.args.self.now.links c.free_slot.result c.free_slot.ensures.some
    c.free_slot.ensures.reads c.free_slot.ensures.none
