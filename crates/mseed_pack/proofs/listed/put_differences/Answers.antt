use Rattle.std.proofs.Common.{◌≡◌, ◌+◌, ◌<◌, ℕ, pos, rules, arith, get_or, length, sym, ap, ◌∙◌}
use Rattle.std.proofs.Common.{w32}
use Rattle.std.proofs.lemmas.Int.{to_z-of_z}
use Rattle.std.proofs.lemmas.List.{ext_get_or}
use Rattle.std.specs.Prelude.{slice_range}
use Rattle.mseed_pack.specs.Stretches.{differences}
use Rattle.mseed_pack.proofs.Differences.{difference_fits, length-differences, put_one}
use Rattle.std.proofs.lemmas.List.Edits.{length-between}
use Rattle.mseed_pack.proofs.Filled.{part_at}
use Rattle.std.proofs.lemmas.Bool.Decides.{nat_tests}
use Rattle.mseed_pack.proofs.listed.put_differences.Goals as goal

pub difference_or_0-requires : goal.difference_or_0-requires
difference_or_0-requires c =
    let inside : c.args.first < length c.args.samples.now = grind (arith, nat_tests) in
    record { inside = inside; fits = difference_fits c.args.samples.now c.args.first inside c.requires.fits }

pub loop-index-init : goal.loop-index-init
loop-index-init c =
    let some : 0 < length c.args.out.now = grind (arith, nat_tests) in
    let first : c.args.first ≡ c.args.first + 0 = omega arith in
    λ k h. put_one (differences c.args.samples.now) c.args.out.now c.args.first 0 _ some
    (to_z-of_z w32 c.difference_or_0.result (record { sfits = c.difference_or_0.type_inv })
    ∙ c.difference_or_0.ensures ∙ ap (λ (n : ℕ). get_or (differences c.args.samples.now) n (pos 0)) first) k
    (λ other. absurd (omega (arith, h, other)))

pub difference_after-requires : goal.difference_after-requires
difference_after-requires c =
    let l = c.loop-index in
    let kept : length l.out ≡ length c.args.out.now = search rules in
    let inside : c.args.first + l.index < length c.args.samples.now =
    omega (arith, c.requires.inside, kept, l.auto.out, c.loop-index-test.true) in
    record {
      some = omega (arith, l.auto.index);
      inside = inside;
      fits = difference_fits c.args.samples.now (c.args.first + l.index) inside c.requires.fits;
    }

pub loop-index-preserved : goal.loop-index-preserved
loop-index-preserved c =
    let l = c.loop-index in
    λ k h. put_one (differences c.args.samples.now) l.out c.args.first l.index _
    (omega (arith, l.auto.out, c.loop-index-test.true))
    (to_z-of_z w32 c.difference_after.result (record { sfits = c.difference_after.type_inv })
    ∙ c.difference_after.ensures) k
    (λ other. l.invariant k (omega (arith, h, other)))

pub returns : goal.returns
returns c =
    let xs = c.args.samples.now in
    let n = length c.args.out.now in
    let kept : length c.loop-index.out ≡ n = search rules in
    let size = length-between (differences xs) c.args.first (c.args.first + n)
    (omega (arith, c.requires.inside, length-differences xs)) in
    ext_get_or (pos 0) c.loop-index.out (slice_range (differences xs) c.args.first (c.args.first + n))
    (omega (arith, size, kept))
    (λ k h. c.loop-index.invariant k (omega (arith, h, kept, c.loop-index-test.false))
    ∙ sym (part_at (differences xs) c.args.first (c.args.first + n) k (omega (arith, h, kept))))
