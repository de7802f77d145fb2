use Rattle.std.proofs.Common.{◌≤◌, ◌<◌, ℕ, length, slice_index}
use Rattle.mseed_files.proofs.reader.place_in.Given as goal

abbrev pub invariant-loop-file : goal.invariant-loop-file
invariant-loop-file l = record {
  within : l.file ≤ length l.begins;
  after : (next : ℕ) → l.file ≤ next → next < length l.begins → l.offset < slice_index l.begins next;
}

abbrev pub decreases-loop-file : goal.decreases-loop-file
decreases-loop-file l = l.file
