use Rattle.std.proofs.Common.{arith}
use Rattle.std.proofs.lemmas.List.{drop_all}
use Rattle.mseed_pack.proofs.Steps.{one_after}
use Rattle.mseed_pack.proofs.record.flags_at.Goals as goal

pub returns-then-span-head : goal.returns-then-span-head
returns-then-span-head c = λ xs count. rw (
  one_after c.requires.standing c.args.end c.requires.begin (omega arith),
  drop_all c.args.span.passed c.args.head.now.steps.now c.if-span-head.true,
)
