use Rattle.std.proofs.Common.{◌≡◌, ◌<◌, length}
use Rattle.std.specs.Io.KnownBytes.{Keeps}
use Rattle.mseed_files.specs.ReaderState.{remaining_of}
use Rattle.mseed_files.specs.private.Steps.{steps_left}
use Rattle.mseed_files.proofs.reader.Reader.read.Given as goal

abbrev pub invariant-loop-self : goal.invariant-loop-self
invariant-loop-self g l = record {
  contents : l.self.contents ≡ l.fn.self.contents;
  failed : l.self.failed ≡ l.fn.self.failed;
  failures : l.self.failures ≡ l.fn.self.failures;
  known : Keeps (remaining_of l.fn.self) (remaining_of l.self);
  some : 0 < length l.buf;
}

abbrev pub decreases-loop-self : goal.decreases-loop-self
decreases-loop-self g l = steps_left l.self
