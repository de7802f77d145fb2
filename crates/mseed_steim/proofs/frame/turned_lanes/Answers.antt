use Rattle.mseed_steim.specs.private.Lanes.{byte_at, row_at}
use Rattle.mseed_steim.proofs.frame.turned_lanes.Goals as goal

pub returns-clause-lanes : goal.returns-clause-lanes
returns-clause-lanes c = λ from begins.
    let f = c.args.frame.now in
    let rows = c.rows_of-rows.ensures.value from begins in
    record {
      rows_are = rows;
      first = c.turn.ensures (byte_at f 0) (row_at f from) c.planes.ensures.first rows;
      second = c.turn-2.ensures (byte_at f 1) (row_at f from) c.planes.ensures.second rows;
      third = c.turn-3.ensures (byte_at f 2) (row_at f from) c.planes.ensures.third rows;
      fourth = c.turn-4.ensures (byte_at f 3) (row_at f from) c.planes.ensures.fourth rows;
    }
