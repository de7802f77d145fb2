use Rattle.std.proofs.Common.{length, map, take}
use Rattle.mseed_record.specs.Viewing.{view_of}
use Rattle.mseed_repack.specs.private.Planning.{AreReady}
use Rattle.mseed_repack.proofs.packability.plan_channels.Given as goal

abbrev pub invariant-loop-number : goal.invariant-loop-number
invariant-loop-number g l =
    AreReady l.cutting l.options (length l.samples.items) (length l.steps) (map view_of l.archive.views.now)
    (take l.number l.archive.channels.now) l.packabilities.items (map (λ own. own.items) l.plans.items)
