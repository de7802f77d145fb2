use Rattle.std.proofs.Common.{◌≡◌, map, take}
use Rattle.std.specs.List.{count_by}
use Rattle.mseed_record.specs.Viewing.{view_of}
use Rattle.mseed_record.specs.Selection.{lacks_time}
use Rattle.mseed_repack.proofs.asked.count_without_time.Given as goal

abbrev pub invariant-loop-view : goal.invariant-loop-view
invariant-loop-view g l =
    l.count ≡ count_by (lacks_time (g.C.Choice.selection l.choice)) (map view_of (take l.view-index l.views))
