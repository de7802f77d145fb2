use Rattle.mseed_steim_pack.specs.private.Ahead.{Cleared}
use Rattle.mseed_steim_pack.proofs.ahead.look_ahead.Given as goal

abbrev pub invariant-loop-index : goal.invariant-loop-index
invariant-loop-index g l = Cleared 121 l.index l.initial.most l.most
