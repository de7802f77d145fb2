use Rattle.slink_wire.proofs.Codes.{field_of}
use Rattle.slink_model.proofs.schedule.has_codes.Goals as goal

pub returns : goal.returns
returns c = (
  field_of _ _ _ c.station-station.ensures.value c.station-station.ensures.code c.station-station.ensures.field,
  field_of _ _ _ c.network-network.ensures.value c.network-network.ensures.code c.network-network.ensures.field,
)
