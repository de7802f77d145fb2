use Rattle.std.proofs.Common.{◌≡◌, ◌-◌, ◌*◌, ◌++◌, take, length}
use Rattle.mseed_steim.specs.Samples.{bytes_of}
use Rattle.mseed_steim.proofs.Integers.{integers}
use Rattle.mseed_steim.proofs.read.fill_integers.Given as goal

abbrev pub invariant-loop-i : goal.invariant-loop-i
invariant-loop-i l = record {
  room : length l.out ≡ l.samples;
  kept : take l.i l.out ++ integers l.order (bytes_of l.width) l.payload (bytes_of l.width * l.i) (l.samples - l.i)
      ≡ integers l.order (bytes_of l.width) l.payload 0 l.samples;
}
