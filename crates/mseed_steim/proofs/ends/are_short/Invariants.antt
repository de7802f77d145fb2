use Rattle.std.proofs.Common.{ℕ, ◌*◌, ◌<◌, ◌↔◌}
use Rattle.byteorder.specs.Endian.{twos_complement}
use Rattle.mseed_time.specs.Fields.{number_at}
use Rattle.mseed_steim.specs.Spelling.{IsWithin}
use Rattle.mseed_steim.proofs.ends.are_short.Given as goal

abbrev pub invariant-loop-index : goal.invariant-loop-index
invariant-loop-index l = (l.highest < 536870912)
    ↔ ((i : ℕ) → i < l.index → IsWithin 29 (twos_complement 4 (number_at l.order 4 (4 * i) l.payload)))
