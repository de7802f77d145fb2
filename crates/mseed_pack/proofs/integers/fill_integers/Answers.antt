use Rattle.std.proofs.Common.{◌≡◌, ◌<◌, ◌≤◌, ◌+◌, ◌-◌, ◌*◌, ◌/◌, ℕ, ℤ, pos, length, get_or, ap}
use Rattle.std.proofs.Common.{◌∙◌, arith, rules}
use Rattle.std.specs.List.{flat_map}
use Rattle.std.specs.Prelude.{slice_range}
use Rattle.std.proofs.Math.Nat.{mul-div-le, mul-le-mul_left}
use Rattle.std.proofs.lemmas.List.{take_rest}
use Rattle.mseed_pack.specs.private.Filling.{bytes_in, integer_bytes}
use Rattle.std.proofs.lemmas.List.Edits.{length-between}
use Rattle.mseed_pack.proofs.Spellings.{length-all}
use Rattle.mseed_pack.proofs.Numbers.{flat_more, one_more}
use Rattle.mseed_pack.specs.Stretches.{differences}
use Rattle.mseed_pack.proofs.Differences.{length-differences}
use Rattle.std.proofs.lemmas.Grind.{common_steps}
use Rattle.mseed_pack.proofs.integers.fill_integers.Goals as goal

pub loop-index-preserved : goal.loop-index-preserved
loop-index-preserved c =
    let w : ℕ = bytes_in c.args.width in
    let xs = c.args.samples.now in
    let index = c.loop-index.index in
    let first = c.args.left.first in
    let old = c.args.payload.now in
    let same : c.bytes_in-bytes.result ≡ w = c.loop-index.invariant.bytes_are in
    let count = rw same at c.min-count.ensures in
    let more : index + 1 ≤ length old / w = omega (arith, count, c.loop-index-test.true) in
    let inside : first + index < length xs = omega (arith, count, c.loop-index-test.true, c.requires.left) in
    let part = slice_range xs first (first + index) in
    let part_long : length part ≡ index =
    omega (arith, length-between xs first (first + index) (omega (arith, inside))) in
    record {
      bytes_are = same;
      written = rw (same, flat_more w xs first index inside)
          (one_more w (length old) index (flat_map (λ (z : ℤ). integer_bytes w z) part)
          (integer_bytes w (get_or xs (first + index) (pos 0))) c.loop-index.payload old c.put_sample.new.out
          (length-all w part ∙ ap (λ (n : ℕ). w * n) part_long)
          (omega (arith, mul-div-le (length old) w, mul-le-mul_left w more)) (search rules)
          c.loop-index.invariant.written (rw (take_rest, same) at c.put_sample.ensures));
    }

pub loop-index-init : goal.loop-index-init
loop-index-init c =
    let w : ℕ = bytes_in c.args.width in
    let none : w * 0 ≡ 0 = omega arith in
    let no_samples : c.args.left.first + 0 - c.args.left.first ≡ 0 = omega arith in
    record { bytes_are = c.bytes_in-bytes.ensures; written = rw (none, no_samples) }

pub returns-clause-holds : goal.returns-clause-holds
returns-clause-holds c =
    let xs = c.args.samples.now in
    rw (length-between (differences xs) c.args.left.first c.args.left.end (omega (arith, length-differences xs)))
    (grind (arith, common_steps))
