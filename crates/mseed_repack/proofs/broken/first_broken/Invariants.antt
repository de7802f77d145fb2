use Rattle.std.proofs.Common.{map, take}
use Rattle.mseed_record.specs.Viewing.{view_of}
use Rattle.mseed_repack.specs.Repack.{AreContinuous}
use Rattle.mseed_repack.proofs.broken.first_broken.Given as goal

abbrev pub invariant-loop-channel : goal.invariant-loop-channel
invariant-loop-channel l = AreContinuous (map view_of l.views) (take l.channel-index l.channels)
