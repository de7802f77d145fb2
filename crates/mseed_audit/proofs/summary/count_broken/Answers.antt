use Rattle.std.proofs.Common.{◌∙◌, ap, arith, take}
use Rattle.mseed_audit.specs.Summary.{broken_count}
use Rattle.mseed_audit.proofs.OneMore.{count_snoc, prefix_more}
use Rattle.mseed_audit.proofs.summary.count_broken.Goals as goal
use Rattle.mseed_audit.proofs.summary.count_broken.Goals.{then-not-is_continuous, else-not-is_continuous}

pub loop-verdict-preserved : goal.loop-verdict-preserved
loop-verdict-preserved c =
    let prefix = prefix_more c.args.verdicts.now c.loop-verdict.verdict-index c.loop-verdict-item.result
    c.loop-verdict-test.true c.loop-verdict-item.is in
    let more = ap broken_count prefix ∙ count_snoc (take c.loop-verdict.verdict-index c.args.verdicts.now) _ in
    let says = c.is_continuous.ensures in
    elim c.if-not-is_continuous.branch [
      | then-not-is_continuous w ↦ grind (arith, more, says, w, c.loop-verdict.invariant)
      | else-not-is_continuous w ↦ grind (arith, more, says, w, c.loop-verdict.invariant)
    ]
