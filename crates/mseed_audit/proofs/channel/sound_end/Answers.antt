use Rattle.mseed_record.specs.Viewing.{view_of}
use Rattle.mseed_audit.proofs.Judged.{found_whole}
use Rattle.mseed_audit.proofs.channel.sound_end.Goals as goal

pub returns-in-None-clause-sound : goal.returns-in-None-clause-sound
returns-in-None-clause-sound c = λ b before.
    let follows = rw c.tail.ensures at (c.follows.ensures c.if-follows.true) in
    rw follows at
    (found_whole c.in-Ok.examined _ b (view_of c.args.view.now) c.in-Ok.ensures.examined c.in-None.is before)
