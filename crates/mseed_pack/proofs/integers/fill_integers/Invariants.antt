use Rattle.std.proofs.Common.{◌≡◌, ◌+◌, ◌*◌, ◌++◌, ℤ, drop}
use Rattle.std.specs.List.{flat_map}
use Rattle.std.specs.Prelude.{slice_range}
use Rattle.mseed_pack.specs.private.Filling.{bytes_in, integer_bytes}
use Rattle.mseed_pack.proofs.integers.fill_integers.Given as goal

abbrev pub invariant-loop-index : goal.invariant-loop-index
invariant-loop-index l = record {
  bytes_are : l.bytes ≡ bytes_in l.width;
  written : l.payload ≡ flat_map (λ (z : ℤ). integer_bytes (bytes_in l.width) z)
      (slice_range l.samples l.left.first (l.left.first + l.index))
      ++ drop (bytes_in l.width * l.index) l.fn.payload;
}
