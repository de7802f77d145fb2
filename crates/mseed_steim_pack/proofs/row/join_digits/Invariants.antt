use Rattle.std.proofs.Common.{◌≡◌, take}
use Rattle.mseed_steim.specs.Spelling.{positional}
use Rattle.mseed_steim_pack.proofs.row.join_digits.Given as goal

abbrev pub invariant-loop-index : goal.invariant-loop-index
invariant-loop-index l = l.word ≡ positional l.width (take l.index l.diffs)
