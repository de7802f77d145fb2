use Rattle.std.proofs.Common.{◌<◌, ◌≤◌, ◌∙◌, arith, inl, inr, length, refl, rules}
use Rattle.std.proofs.lemmas.Result.{err_from_is_err_and}
use Rattle.slink_feed.proofs.Sendoffs.{few_written, has_moved, has_sent, less_left, nothing_sent, not_ok, one_sent}
use Rattle.slink_feed.proofs.Sendoffs.{passed_on, unsent}
use Rattle.slink_feed.proofs.serving.send_all.Goals as goal

pub loop-waits-init : goal.loop-waits-init
loop-waits-init g c = record {
  so_far = nothing_sent c.args.feed.now _;
  few = omega arith;
  fits = c.requires.fits;
  stands = c.requires.stands;
  beside = refl;
}

pub returns-in_err-given-clause-fault : goal.returns-in_err-given-clause-fault
returns-in_err-given-clause-fault g c =
    let cut = c.in_err-given.ensures.fault in
    passed_on _ _ _ (err_from_is_err_and c.from_residual.result c.from_residual.ensures.1)
    (unsent _ _ _ _ _ _ _ c.loop-waits.invariant.so_far (c.give.new.session.state, cut.answer) cut.is refl cut.held
    c.in_err-given.field-0.0 cut.cut)

pub loop-waits-smaller : goal.loop-waits-smaller
loop-waits-smaller g c =
    let given = c.in_ok-given.ensures.ok in
    rw (← given.waited_is) at (less_left _ _ _ _ c.loop-waits.waits (has_moved _ _ _ _ _ _ _ _
    c.if-is_closed.ensures.no c.loop-waits.invariant.fits.1 given) refl
    (omega (arith, c.loop-waits-test.true, c.len.ensures.most)))

pub loop-waits-preserved : goal.loop-waits-preserved
loop-waits-preserved g c =
    let given = c.in_ok-given.ensures.ok in
    let lt : c.loop-waits.waits < length c.args.feed.now = omega (arith, c.loop-waits-test.true, c.len.ensures.value) in
    let so_far = one_sent _ _ _ _ _ _ _ c.loop-waits.invariant.so_far (c.give.new.session.state, given.answer) given.is
    refl given.held c.in_ok-given.given.written (has_moved _ _ _ _ _ _ _ _ c.if-is_closed.ensures.no
    c.loop-waits.invariant.fits.1 given) lt (c.loop-waits.invariant.so_far.within (omega (arith, lt))) given.short
    given.written in
    let few : c.in_ok-given.given.written ≤ 1099511627776 =
    few_written _ _ _ _ _ _ (omega (arith, c.len.ensures.value, c.len.ensures.most)) so_far in
    record {
      so_far = rw (← c.next_place-k.ensures) at (rw (← given.waited_is) at so_far);
      few = omega (arith, few);
      fits = c.give.ensures.fits;
      stands = c.give.ensures.stands;
      beside = c.give.ensures.beside ∙ c.loop-waits.invariant.beside;
    }

pub returns-after-loop-waits-clause-ok : goal.returns-after-loop-waits-clause-ok
returns-after-loop-waits-clause-ok g c =
    has_sent _ _ _ _ _ _ (omega (arith, c.len.ensures.value, c.len.ensures.most))
    (inr (omega (arith, c.loop-waits-test.false, c.len.ensures.value))) c.loop-waits.invariant.so_far

pub returns-then-is_closed-clause-ok : goal.returns-then-is_closed-clause-ok
returns-then-is_closed-clause-ok g c =
    has_sent _ _ _ _ _ _ (omega (arith, c.len.ensures.value, c.len.ensures.most)) (inl c.if-is_closed.ensures.yes)
    c.loop-waits.invariant.so_far

pub returns-in_err-given-clause-ok : goal.returns-in_err-given-clause-ok
returns-in_err-given-clause-ok g c =
    not_ok _ _ (err_from_is_err_and c.from_residual.result c.from_residual.ensures.1)

pub next_place-k-requires : goal.next_place-k-requires
next_place-k-requires g c =
    (search rules, c.loop-waits.invariant.so_far.within (omega (arith, c.loop-waits-test.true, c.len.ensures.value)))

pub give-requires : goal.give-requires
give-requires g c =
    let within = c.loop-waits.invariant.so_far.within (omega (arith, c.loop-waits-test.true, c.len.ensures.value)) in
    let waits : c.loop-waits.waits < 16 = omega (arith, c.loop-waits-test.true, c.len.ensures.most) in
    (search rules, (within, (c.loop-waits.invariant.fits, (c.loop-waits.invariant.few, waits))))
