use Rattle.std.proofs.Common.{◌≡◌, ◌*◌, take, map, length}
use Rattle.byteorder.specs.Endian.{twos_complement}
use Rattle.mseed_steim.proofs.widen.widen_bytes.Given as goal

abbrev pub invariant-loop-i : goal.invariant-loop-i
invariant-loop-i l = record {
  room : length l.out ≡ length l.bytes;
  so_far : take (16 * l.i) l.out ≡ map (λ byte. twos_complement 1 byte) (take (16 * l.i) l.bytes);
}

abbrev pub invariant-loop-i-2 : goal.invariant-loop-i-2
invariant-loop-i-2 l = record {
  room : length l.out ≡ length l.bytes;
  so_far : take l.i l.out ≡ map (λ byte. twos_complement 1 byte) (take l.i l.bytes);
}
