use Rattle.std.proofs.Common.{◌≡◌, [], map, take}
use Rattle.std.specs.List.{filter}
use Rattle.mseed_record.specs.Viewing.{view_of}
use Rattle.mseed_audit.specs.Channels.{is_of_channel}
use Rattle.mseed_audit.proofs.assembly.first_rate.Given as goal

abbrev pub invariant-loop-view : goal.invariant-loop-view
invariant-loop-view l = filter (is_of_channel l.codes) (map view_of (take l.view-index l.views)) ≡ []
