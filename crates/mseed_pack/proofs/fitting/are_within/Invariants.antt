use Rattle.std.proofs.Common.{◌↔◌, ◌<◌, ◌*◌, ℕ, pos, get_or}
use Rattle.mseed_pack.specs.private.Filling.{IsUnder}
use Rattle.mseed_pack.proofs.Misfits.{AreEightUnder}
use Rattle.mseed_pack.proofs.fitting.are_within.Given as goal

abbrev pub invariant-loop-index : goal.invariant-loop-index
invariant-loop-index l =
    (l.bits < 2 * l.limit) ↔ ((k : ℕ) → k < l.index → AreEightUnder (pos l.limit) l.samples l.part k)

abbrev pub invariant-loop-last : goal.invariant-loop-last
invariant-loop-last l =
    (l.bits < 2 * l.limit) ↔ ((k : ℕ) → k < l.last → IsUnder (pos l.limit) (get_or l.samples k (pos 0)))
