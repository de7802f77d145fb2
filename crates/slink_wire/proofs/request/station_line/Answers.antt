use Rattle.slink_wire.proofs.Codes.{field_of}
use Rattle.slink_wire.proofs.Requests.{station_written}
use Rattle.slink_wire.proofs.request.station_line.Goals as goal

pub returns-clause-command : goal.returns-clause-command
returns-clause-command c =
    let p = c.args.place.now in
    station_written _ _ (field_of _ _ _ c.station.ensures.value c.station.ensures.code c.station.ensures.field)
    (field_of _ _ _ c.network.ensures.value c.network.ensures.code c.network.ensures.field)
