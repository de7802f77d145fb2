use Rattle.std.proofs.Common.{◌≡◌, ◌*◌, ◌/◌, length, w32, pos, get_or, rules, arith}
use Rattle.mseed_pack.specs.private.Filling.{IsUnder}
use Rattle.std.proofs.lemmas.Bool.{lt-ltb, ltb-true}
use Rattle.std.proofs.lemmas.Int.{to_z-of_z}
use Rattle.std.proofs.lemmas.List.Elements.{All-from_get_or, All-get_or}
use Rattle.mseed_pack.proofs.Misfits.{eight_more, one_more, parts_under}
use Rattle.mseed_pack.proofs.fitting.are_within.Goals as goal

pub loop-index-init : goal.loop-index-init
loop-index-init c = (λ less k h. absurd (omega (arith, h)), λ all. omega (arith, c.requires.some))

pub loop-index-preserved : goal.loop-index-preserved
loop-index-preserved c =
    eight_more (pos c.args.limit) c.args.samples.now _ c.loop-index.index (2 * c.args.limit) c.loop-index.bits
    c.bits_of_four-bits.result c.bits_of_four-bits-in-loop-index.result c.requires.power c.bits_of_four-bits.ensures
    c.bits_of_four-bits-in-loop-index.ensures c.loop-index.invariant

pub loop-last-init : goal.loop-last-init
loop-last-init c =
    let part = length c.args.samples.now / 8 in
    let end : c.loop-index.index ≡ part = omega arith in
    let before = rw end at c.loop-index.invariant in
    let all = parts_under (pos c.args.limit) c.args.samples.now part in
    (λ less. all.0 (before.0 less), λ under. before.1 (all.1 under))

pub loop-last-preserved : goal.loop-last-preserved
loop-last-preserved c =
    let xs = c.args.samples.now in
    let i = c.loop-last.last in
    one_more (pos c.args.limit) xs i (2 * c.args.limit) c.loop-last.bits c.raised-bits.result c.requires.power
    (rw (to_z-of_z w32 (get_or xs i (pos 0)) (search rules)) at c.raised-bits.ensures) c.loop-last.invariant

pub returns : goal.returns
returns c =
    let inv = c.loop-last.invariant in
    let xs = c.args.samples.now in
    let under = IsUnder (pos c.args.limit) in (
      λ yes. All-from_get_or under xs (pos 0) (λ k h. inv.0 (ltb-true _ _ yes) k (omega (arith, h))),
      λ all. lt-ltb _ _ (inv.1 (λ k h. All-get_or under xs k (pos 0) (omega (arith, h)) all)),
    )
