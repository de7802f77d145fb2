use Rattle.std.proofs.Common.{◌≡◌, ◌<◌, ◌≤◌, ◌-◌, ◌∙◌, ℕ, add-zero, arith, drop, get_or, length, rules, ⊎_elim}
use Rattle.mseed_steim_pack.specs.private.Ahead.{Knows}
use Rattle.mseed_steim_pack.proofs.Lookaheads.{cleared_holds, cleared_more, cleared_none, known_by, knows_few}
use Rattle.mseed_steim_pack.proofs.Lookaheads.{knows_found, nothing}
use Rattle.mseed_steim_pack.proofs.ahead.look_at_few.Goals as goal

pub loop-index-init : goal.loop-index-init
loop-index-init c = cleared_none (length c.args.diffs.now - 7) c.look_ahead.new.most

pub loop-index-preserved : goal.loop-index-preserved
loop-index-preserved c =
    let long : length c.loop-index.most ≡ 144 = search rules in
    cleared_more (length c.args.diffs.now - 7) c.loop-index.index c.look_ahead.new.most c.loop-index.most
    (omega (arith, long, c.loop-index-test.true)) c.loop-index.invariant

pub returns : goal.returns
returns c =
    let s = c.args.scheme in
    let ds = c.args.diffs.now in
    let most = c.loop-index.most in
    let cut = c.look_ahead.new.cut in
    let before = c.look_ahead.ensures in
    let found = knows_found s c.padded-all.result c.look_ahead.new.most cut (search rules) before.ahead before.none
    before.cut in
    let none : (i : ℕ) → 121 ≤ i → i < 144 → get_or most i 0 ≡ 0 = λ i low inside. ⊎_elim
    (λ (kept : get_or most i 0 ≡ get_or c.look_ahead.new.most i 0). kept ∙ before.none i low inside)
    (λ (zero : get_or most i 0 ≡ 0). zero) (c.loop-index.invariant.each i) in
    known_by s most cut 0 ds (omega arith) (λ i inside. rw add-zero (cleared_holds (Knows s (drop i ds) (drop i cut))
    (nothing s (drop i ds) (drop i cut)) (length ds - 7) c.loop-index.index i c.look_ahead.new.most most
    c.loop-index.invariant
    (λ early. knows_few s ds c.padded-all.ensures.0 (drop i cut) i _ (omega (arith, early))
    (rw c.padded-all.ensures.1 at (found i (omega (arith, inside)))))
    (λ late. before.none i (omega (arith, late, c.loop-index-test.false)) (omega (arith, inside))))) none
