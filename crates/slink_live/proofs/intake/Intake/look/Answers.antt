use Rattle.std.proofs.Common.{◌≡◌, ◌∙◌, ap, refl, arith, length, length-take, take_all}
use Rattle.slink_live.specs.Served.{IntakeState}
use Rattle.slink_live.specs.private.Cutting.{waits}
use Rattle.slink_live.proofs.Cuts.{refused_long, refused_not, refused_record}
use Rattle.slink_live.proofs.intake.Intake.look.Goals as goal

pub push_kept-requires : goal.push_kept-requires
push_kept-requires c =
    let most = rw (← c.self.view_is, ← c.as_slice.ensures.value) at c.requires.size in
    let there = (c.scan.ensures.«record» c.in-Record.size).0 c.in-Record.is in
    rw (← c.self.view_is, ← c.as_slice.ensures.value) (record {
      whole = omega (arith, there.0, most, c.if-size-eq-RECORD.true);
      «record» = rw (take_all c.in-Record.size c.as_slice.result.now (omega (arith, most, c.if-size-eq-RECORD.true)))
          at there.1;
      decides = rw (c.in-Record.is, c.if-size-eq-RECORD.true) at c.scan.ensures.decides;
      below = rw (← c.self.view_is) at c.requires.below;
      few = rw (← c.self.view_is) at c.requires.few;
    })

pub returns-then-needed-le-RECORD-clause-ok : goal.returns-then-needed-le-RECORD-clause-ok
returns-then-needed-le-RECORD-clause-ok c =
    let leading : c.as_slice.result.now ≡ c.args.self.now.kept =
    c.as_slice.ensures.value ∙ ap (λ (s : IntakeState). s.kept) c.self.view_is in
    let more = c.scan.ensures.bound c.in-Need.needed c.in-Need.is in
    waits c.in-Need.needed (rw (leading, c.in-Need.is) at c.scan.ensures.decides) c.if-needed-le-RECORD.true
    (omega (arith, more.0, ap length leading, c.if-needed-le-RECORD.true)) refl

pub returns-in-Not-clause-err : goal.returns-in-Not-clause-err
returns-in-Not-clause-err c = rw (← c.self.view_is, ← c.as_slice.ensures.value) (refused_not _ _ _ _ c.in-Not.fault
    (rw c.in-Not.is at c.scan.ensures.decides) (c.scan.ensures.refused c.in-Not.fault c.in-Not.is)
    (rw (← c.self.view_is) at c.offset.ensures))

pub returns-else-needed-le-RECORD-clause-err : goal.returns-else-needed-le-RECORD-clause-err
returns-else-needed-le-RECORD-clause-err c = rw (c.foreign.ensures, ← c.self.view_is, ← c.as_slice.ensures.value)
    (refused_long _ _ _ _ (rw c.in-Need.is at c.scan.ensures.decides)
    (c.scan.ensures.least c.in-Need.needed c.in-Need.is) (omega (arith, c.if-needed-le-RECORD.false)))

pub returns-else-size-eq-RECORD-clause-err : goal.returns-else-size-eq-RECORD-clause-err
returns-else-size-eq-RECORD-clause-err c =
    let there = (c.scan.ensures.«record» c.in-Record.size).0 c.in-Record.is in
    rw (c.foreign-else-size-eq-RECORD.ensures, ← c.self.view_is, ← c.as_slice.ensures.value)
    (refused_record _ _ _ c.in-Record.size there.0 (rw c.in-Record.is at c.scan.ensures.decides) there.1
    (λ of. c.if-size-eq-RECORD.false
    (omega (arith, there.0, of.size, length-take c.in-Record.size c.as_slice.result.now))))
