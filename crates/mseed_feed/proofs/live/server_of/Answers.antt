use Rattle.mseed_feed.specs.Filling.{served}
use Rattle.mseed_feed.proofs.Numbered.{can_number_new}
use Rattle.mseed_feed.proofs.live.server_of.Goals as goal

pub new-requires : goal.new-requires
new-requires c =
    rw c.in-Ok.ensures.ok
    (can_number_new c.args.live.now.serving (served c.args.live.now.serving) c.requires.serving.first)
