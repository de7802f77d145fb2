use Rattle.std.proofs.Common.{◌≡◌, ◌<◌, ◌≤◌, arith}
use Rattle.mseed_time.specs.declared.outcome.LeapStep.TheVariants.{Plus, Minus}
use Rattle.mseed_c.specs.Heading.{without_leap, with_leap}
use Rattle.mseed_c.proofs.heading.leap_of.Goals as goal

pub returns-then-heading-eq0-clause-some : goal.returns-then-heading-eq0-clause-some
returns-then-heading-eq0-clause-some c = without_leap c.if-heading-eq0.true

pub returns-then-heading-eq1-clause-some : goal.returns-then-heading-eq1-clause-some
returns-then-heading-eq1-clause-some c =
    let some : 0 < c.args.heading.now.leap_after = omega arith in
    let within : c.args.heading.now.leap_after ≤ c.args.samples = omega arith in
    with_leap Plus c.if-heading-eq1.true (some, within, tt)

pub returns-else-heading-eq1-clause-some : goal.returns-else-heading-eq1-clause-some
returns-else-heading-eq1-clause-some c =
    let some : 0 < c.args.heading.now.leap_after = omega arith in
    let within : c.args.heading.now.leap_after ≤ c.args.samples = omega arith in
    let two : c.args.heading.now.leap ≡ 2 = omega arith in
    with_leap Minus two (some, within, tt)
