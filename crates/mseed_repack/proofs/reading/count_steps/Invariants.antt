use Rattle.std.proofs.Common.{◌≡◌, ◌≤◌, map, take}
use Rattle.mseed_record.specs.Viewing.{view_of}
use Rattle.mseed_repack.specs.private.Reading.{steps_of}
use Rattle.mseed_repack.proofs.reading.count_steps.Given as goal

abbrev pub invariant-loop-view : goal.invariant-loop-view
invariant-loop-view l = (l.count ≡ steps_of (map view_of (take l.view-index l.views))) × (l.count ≤ l.view-index)
