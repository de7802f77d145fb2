use Rattle.std.proofs.Common.{◌≡◌, ◌∙◌, ◌<◌, ◌≤◌, ◌+◌, ◌-◌, ◌%◌, ℕ, ℤ, pos, ◌-ℤ◌, List, ◌∷◌, length, take}
use Rattle.std.proofs.Common.{get_or, set, add-one, refl, ap, arith, rules, FitsSigned, w32, to_z, of_z}
use Rattle.std.specs.Int.{int_wrap}
use Rattle.std.proofs.lemmas.Int.{to_z-of_z, wrapping_sub-bits}
use Rattle.std.proofs.lemmas.List.{length-set, take_all, take_more}
use Rattle.std.proofs.Math.Seq.{take-suc-set}
use Rattle.mseed_steim_pack.specs.private.Wrapped.{wrapped_from}
use Rattle.mseed_steim_pack.proofs.Wrapped.{wrapped_at, wrapped_length}
use Rattle.mseed_steim_pack.proofs.pending.put_wrapped.Goals as goal

-- one more is put after those before it
put_more : (before last z : ℤ) (xs ds : List ℤ) (i : ℕ) → i < length xs → length xs ≤ length ds
    → last ≡ get_or (before ∷ xs) i (pos 0) → z ≡ int_wrap w32 (get_or xs i (pos 0) -ℤ last)
    → take i ds ≡ take i (wrapped_from before xs) → take (i + 1) (set ds i z) ≡ take (i + 1) (wrapped_from before xs)
put_more before last z xs ds i inside room last_is is done =
    let more = take_more (wrapped_from before xs) i (pos 0) (omega (arith, inside, wrapped_length before xs)) in
    let put = rw (← add-one) at (take-suc-set ds i z (omega (arith, inside, room))) in
    rw (put, more, done, is, wrapped_at before xs i inside, last_is) refl

pub loop-index-preserved : goal.loop-index-preserved
loop-index-preserved c =
    let before = c.args.before in
    let xs = c.args.samples.now in
    let ds = c.loop-index.differences in
    let i = c.loop-index.index in
    let bits = c.loop-index.last-bits in
    let x = get_or xs i (pos 0) in
    let fits : FitsSigned w32 x = search rules in
    let z = to_z w32 ((of_z w32 x + (4294967296 - bits)) % 4294967296) in
    let is : z ≡ int_wrap w32 (x -ℤ to_z w32 bits) =
    wrapping_sub-bits w32 (of_z w32 x) bits (search rules) (search rules)
    ∙ ap (λ (y : ℤ). int_wrap w32 (y -ℤ to_z w32 bits)) (to_z-of_z w32 x fits) in
    let same : to_z w32 (of_z w32 before) ≡ before = to_z-of_z w32 before c.ranges.before in
    let last = rw same at c.loop-index.invariant.last in
    let done = rw same at c.loop-index.invariant.done in
    rw same (record {
      room = omega (arith, c.loop-index.invariant.room, length-set ds i z);
      last = to_z-of_z w32 x fits ∙ rw add-one refl;
      done = put_more before (to_z w32 bits) z xs ds i c.loop-index-test.true c.loop-index.invariant.room
          last is done;
    })

pub returns : goal.returns
returns c =
    let before = c.args.before in
    let xs = c.args.samples.now in
    let all : c.loop-index.index ≡ length xs = omega (arith, c.loop-index-test.false, c.loop-index.auto.index-end) in
    rw (to_z-of_z w32 before c.ranges.before, all) at c.loop-index.invariant.done
    ∙ take_all (length xs) (wrapped_from before xs) (omega (arith, wrapped_length before xs))
