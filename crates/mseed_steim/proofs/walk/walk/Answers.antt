use Rattle.std.proofs.Common.{◌∙◌, arith, sym, w32, FitsSigned}
use Rattle.std.proofs.lemmas.Int.{to_z-of_z}
use Rattle.std.proofs.lemmas.Result.{err_from_is_err_and}
use Rattle.mseed_steim.proofs.Continuing.{walks_on}
use Rattle.mseed_steim.proofs.walk.walk.Goals as goal

pub returns-in_err-sum-in-None-clause-folded : goal.returns-in_err-sum-in-None-clause-folded
returns-in_err-sum-in-None-clause-folded g c =
    let first : FitsSigned w32 c.args.first = c.ranges.first in
    let walked = rw (to_z-of_z w32 c.args.first first) at c.loop-next.invariant.walked in
    let fault = err_from_is_err_and c.from_residual.result c.from_residual.ensures.1 in
    rw (fault.1, fault.2) (sym (walked.folded ∙ c.in_err-sum-in-None.ensures 0))

pub loop-next-preserved : goal.loop-next-preserved
loop-next-preserved g c =
    let step = c.in_ok-sum-in-None.ensures c.in_ok-sum-in-None.sum.met in
    grind (arith, walks_on)
