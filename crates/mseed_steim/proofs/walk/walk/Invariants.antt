use Rattle.std.proofs.Common.{◌≡◌, ◌-◌, ◌≤◌, length}
use Rattle.mseed_steim.specs.Frames.{data_words}
use Rattle.mseed_steim.specs.private.Items.{items_of}
use Rattle.mseed_steim.specs.private.Sums.{Continues, places_for}
use Rattle.mseed_steim.specs.private.Unpacked.{left_from}
use Rattle.mseed_steim.proofs.walk.walk.Given as goal

abbrev pub invariant-loop-next : goal.invariant-loop-next
invariant-loop-next g l = record {
  places : length l.out ≡ places_for g.K.Keeper.kept l.task.samples;
  met : l.sum.met ≤ l.task.samples;
  walked : Continues g.K.Keeper.kept l.task.samples (record { met = 0; last = l.first }) l.fn.out
      (items_of l.task.scheme (data_words l.payload)) (items_of l.task.scheme (left_from l.payload l.sum.met l.next))
      l.out l.sum;
}

abbrev pub decreases-loop-next : goal.decreases-loop-next
decreases-loop-next g l = length l.frames - l.next
