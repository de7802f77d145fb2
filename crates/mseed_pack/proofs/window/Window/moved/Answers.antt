use Rattle.std.proofs.Common.{◌≡◌, ◌+◌, ◌-◌, ◌<◌, ℕ, ℤ, pos, ◌+ℤ◌, ◌-ℤ◌, get_or, ap, arith, subst, ◌∙◌, rules, w32}
use Rattle.std.proofs.Common.{to_z}
use Rattle.std.specs.Int.{int_wrap}
use Rattle.std.specs.Prelude.{slice_range}
use Rattle.std.proofs.lemmas.Int.{wrapping_add_onto}
use Rattle.mseed_pack.specs.private.KnownSamples.{sample_before}
use Rattle.mseed_pack.proofs.Filled.{part_at}
use Rattle.mseed_pack.proofs.Marked.{moved_on}
use Rattle.mseed_pack.proofs.window.Window.moved.Goals as goal

pub loop-difference-preserved : goal.loop-difference-preserved
loop-difference-preserved c = λ xs h.
    let w = c.args.self.now in
    let at = c.args.first - w.first in
    let end = c.args.end - w.first in
    let k = c.loop-difference.difference-index in
    let bits = c.loop-difference.moved-bits in
    let inside : k < end - at = omega (arith, c.loop-difference-test.true) in
    wrapping_add_onto w32 bits (get_or (slice_range w.differences at end) k (pos 0)) (search rules) (search rules)
    ∙ ap (λ (z : ℤ). int_wrap w32 (to_z w32 bits +ℤ z)) (part_at w.differences at end k inside)
    ∙ moved_on xs w c.args.first k (to_z w32 bits) h c.requires.low
    (omega (arith, inside, c.requires.low, c.requires.order, c.requires.high)) (c.loop-difference.invariant xs h)

pub returns : goal.returns
returns c = λ xs h.
    let end : c.args.first + c.loop-difference.difference-index ≡ c.args.end = omega arith in
    let bits = to_z w32 c.loop-difference.moved-bits in
    subst (λ (n : ℕ). bits ≡ int_wrap w32 (sample_before xs n -ℤ sample_before xs c.args.first)) end
    (c.loop-difference.invariant xs h)
