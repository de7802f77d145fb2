use Rattle.std.proofs.Common.{sym}
use Rattle.slink_feed.specs.Cutting.{Begins, no_first}
use Rattle.slink_feed.proofs.cutting.judge.Goals as goal

pub returns-in-Some : goal.returns-in-Some
returns-in-Some c =
    let begins : Begins c.args.bytes.now c.in-Some.field-0.now = sym c.in-Some.ensures.value in
    no_first c.in-Some.field-0.now begins c.in-Some.field-0-test.0.1 c.in-Some.field-0-test.1
    (c.requires.first c.in-Some.field-0.now begins c.in-Some.field-0-test.0.1 c.in-Some.field-0-test.1)
