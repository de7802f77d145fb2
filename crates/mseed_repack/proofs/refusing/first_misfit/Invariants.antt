use Rattle.std.proofs.Common.{All, take}
use Rattle.mseed_repack.specs.ByStretches.{IsFit}
use Rattle.mseed_repack.proofs.refusing.first_misfit.Given as goal

abbrev pub invariant-loop-number : goal.invariant-loop-number
invariant-loop-number l = All IsFit (take l.number l.packabilities)
