use Rattle.std.proofs.Common.{sym, ◌∙◌, arith}
use Rattle.mseed_record.specs.Viewing.{view_of}
use Rattle.mseed_record.proofs.Passing.{record_room}
use Rattle.mseed_record.proofs.Viewed.{view_once}
use Rattle.mseed_record.proofs.view.RecordView.of_record.Goals as goal

pub order_of-requires : goal.order_of-requires
order_of-requires c = omega (arith, record_room _ _ _ _ c.requires.1.1.1)

pub returns-clause-only : goal.returns-clause-only
returns-clause-only c w h e =
    view_once (view_of c.by.result) w c.by.ensures.view h (e ∙ sym c.by.ensures.bytes)
