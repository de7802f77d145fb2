use Rattle.std.proofs.Common.{◌-◌, length}
use Rattle.mseed_steim_pack.specs.private.Ahead.{Cleared}
use Rattle.mseed_steim_pack.proofs.ahead.look_at_few.Given as goal

abbrev pub invariant-loop-index : goal.invariant-loop-index
invariant-loop-index l = Cleared (length l.fn.diffs - 7) l.index l.initial.most l.most
