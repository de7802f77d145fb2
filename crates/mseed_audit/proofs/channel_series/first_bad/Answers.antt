use Rattle.std.proofs.Common.{rules}
use Rattle.mseed_time.specs.declared.outcome.LeapStep.TheVariants.{Plus}
use Rattle.mseed_audit.specs.Series.{IsBadStep}
use Rattle.mseed_audit.proofs.Places.{bad_step, bad_steps, more_steps}
use Rattle.mseed_audit.proofs.channel_series.first_bad.Goals as goal

bad : (c : goal.Then-not-is_after) → IsBadStep c.args.size c.args.steps.now c.loop-index.index
bad c = bad_step c.args.size c.args.steps.now c.loop-index.index (0, Plus) c.loop-index.before (search rules)
    c.loop-index.invariant.0 c.loop-index.invariant.1 (search rules)

pub returns-then-not-is_after-clause-none : goal.returns-then-not-is_after-clause-none
returns-then-not-is_after-clause-none c =
    (search rules, λ all. absurd (bad_steps c.args.size c.args.steps.now c.loop-index.index (bad c) all))

pub returns-then-not-is_after-clause-some : goal.returns-then-not-is_after-clause-some
returns-then-not-is_after-clause-some c = bad c

pub loop-index-preserved : goal.loop-index-preserved
loop-index-preserved c =
    more_steps c.args.size c.args.steps.now c.loop-index.index (0, Plus) c.loop-index.before (search rules)
    c.loop-index.invariant.0 c.loop-index.invariant.1 (search rules) (search rules)
