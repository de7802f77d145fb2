use Rattle.std.proofs.Common.{All, take}
use Rattle.mseed_repack.specs.private.Restretching.{IsUnbroken}
use Rattle.mseed_repack.proofs.refusing.first_broken.Given as goal

abbrev pub invariant-loop-number : goal.invariant-loop-number
invariant-loop-number l = All IsUnbroken (take l.number l.packabilities)
