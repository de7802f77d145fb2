use Rattle.std.proofs.Common.{◌≢◌, arith, rules}
use Rattle.std.proofs.lemmas.Result.{err_from_is_err_and}
use Rattle.slink_live.proofs.Cuts.{refused_none}
use Rattle.slink_live.proofs.intake.Intake.push_kept.Goals as goal

pub take_record-requires : goal.take_record-requires
take_record-requires c =
    let below = rw (← c.self.view_is) at c.requires.below in
    (search rules, λ k w there. omega (arith, below k w there))

pub returns-clause-others : goal.returns-clause-others
returns-clause-others c = rw (← c.self.view_is) (λ j none.
    let other : j ≢ c.in_ok-k.k = λ same. none (rw same c.with.ensures.here) in
    (λ has. none ((c.with.ensures.others j other).1 has), c.in_ok-k.ensures.others j other))

pub returns-in_err-k-clause-err : goal.returns-in_err-k-clause-err
returns-in_err-k-clause-err c =
    let p = err_from_is_err_and c.from_residual.result c.from_residual.ensures.1 in
    rw (p.1, p.2, c.in_err-k.ensures.fault, ← c.self.view_is, ← c.as_slice.ensures.value) (refused_none _ _ _
    (rw (← c.self.view_is, ← c.as_slice.ensures.value) at c.requires.whole)
    (rw (← c.self.view_is, ← c.as_slice.ensures.value) at c.requires.«record»)
    (rw (← c.self.view_is, ← c.as_slice.ensures.value) at c.requires.decides) c.in_err-k.ensures.foreign)
