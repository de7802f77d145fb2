use Rattle.std.proofs.Common.{[]}
use Rattle.mseed_feed.specs.Filling.{feed_of}
use Rattle.mseed_feed.specs.Live.{no_room}
use Rattle.mseed_feed.proofs.live.serve_live.Goals as goal

pub returns-in-Ok : goal.returns-in-Ok
returns-in-Ok g c =
    rw c.in-Ok.ensures.clients at c.serve_to_the_end.ensures (feed_of c.args.live.now.serving [])
    (rw c.requires.new c.in-Ok.ensures.serving) (rw c.requires.new c.in-Ok.ensures.awake)

pub returns-in-Err : goal.returns-in-Err
returns-in-Err g c = no_room c.requires.new c.refuse_memory.ensures.status c.refuse_memory.ensures.reported
