use Rattle.std.proofs.Common.{map, take}
use Rattle.mseed_record.specs.Viewing.{view_of}
use Rattle.mseed_pack.specs.ReadBack.{AreViewsOf}
use Rattle.slink_model.proofs.relaying.views_of.Given as goal

abbrev pub invariant-loop-record : goal.invariant-loop-record
invariant-loop-record l = AreViewsOf (take l.record-index l.records) (map view_of l.views.items)
