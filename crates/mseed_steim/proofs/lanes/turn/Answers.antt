use Rattle.std.specs.Int.Bits.{bit_xor}
use Rattle.mseed_steim.specs.private.Lanes.{words}
use Rattle.mseed_steim.proofs.LaneSums.{planes_by}
use Rattle.mseed_steim.proofs.lanes.turn.Goals as goal

pub returns : goal.returns
returns c = λ byte row e f. planes_by bit_xor c.args.plane c.look_up.result c.args.rows c.args.table byte row words
    c.look_up.ensures.value e f
