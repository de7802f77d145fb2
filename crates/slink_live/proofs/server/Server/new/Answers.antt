use Rattle.std.proofs.Common.{arith}
use Rattle.slink_live.proofs.Begun.{begun_awake, begun_serving, begun_sound}
use Rattle.slink_live.proofs.server.Server.new.Goals as goal

pub returns-clause-serving : goal.returns-clause-serving
returns-clause-serving c = rw c.new.ensures (begun_serving c.args.feed c.in_ok-new.field-0 c.in_ok-new.ensures.empty)

pub returns-clause-sound : goal.returns-clause-sound
returns-clause-sound c =
    rw c.new.ensures (begun_sound c.args.feed c.in_ok-new.field-0 c.in_ok-new.ensures.empty c.requires)

pub returns-clause-awake : goal.returns-clause-awake
returns-clause-awake c some =
    rw c.new.ensures (begun_awake c.args.feed c.in_ok-new.field-0 c.in_ok-new.ensures.empty
    (omega (arith, some, c.in_ok-new.ensures.count)))
