use Rattle.std.proofs.Common.{◌≡◌, ◌-◌, length, min, List, ℕ}
use Rattle.mseed_pack.specs.Traces.{headed}
use Rattle.mseed_pack.specs.private.Filling.{GoOnAt}
use Rattle.mseed_pack.specs.private.Spans.{PacksTo, StandsAt}
use Rattle.mseed_pack.proofs.Overwritten.{over}
use Rattle.mseed_pack.proofs.lent.pack_into.Given as goal

abbrev pub invariant-loop-place : goal.invariant-loop-place
invariant-loop-place l = record {
  standing : StandsAt l.job.head.now.steps.now l.job.head.now.count l.place;
  listed : l.list ≡ l.series.samples.now;
  goes_on : GoOnAt l.payloads l.job.options.now.encoding l.series.samples.now l.place.first;
  bytes : List ℕ;
  packs : PacksTo (headed l.job.head.now l.series.samples.now) l.job.options.now l.place bytes;
  room_is : l.room ≡ over bytes l.fn.room;
  filled_is : l.filled ≡ min (length l.fn.room) (length bytes);
}

abbrev pub decreases-loop-place : goal.decreases-loop-place
decreases-loop-place l = l.job.head.now.count - l.place.first
