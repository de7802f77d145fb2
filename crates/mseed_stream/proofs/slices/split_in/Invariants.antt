use Rattle.std.proofs.Common.{◌-◌, ◌<◌, ◌≤◌, ◌^◌, length}
use Rattle.std.specs.List.{AllByRecursion}
use Rattle.mseed_record.specs.View.{IsView}
use Rattle.mseed_record.specs.Viewing.{view_of}
use Rattle.mseed_stream.specs.Archive.{HasRecords}
use Rattle.mseed_stream.specs.Split.{bytes_of_each}
use Rattle.mseed_stream.proofs.slices.split_in.Given as goal

abbrev pub invariant-loop-offset : goal.invariant-loop-offset
invariant-loop-offset g l = record {
  records : HasRecords l.bytes l.offset (bytes_of_each l.records.items);
  views : AllByRecursion (λ r. IsView (view_of r)) l.records.items;
  few : length l.records.items < 2 ^ 40;
  within : l.offset ≤ length l.bytes;
}

abbrev pub decreases-loop-offset : goal.decreases-loop-offset
decreases-loop-offset g l = length l.bytes - l.offset
