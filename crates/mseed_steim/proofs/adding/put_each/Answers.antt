use Rattle.std.proofs.Common.{◌≡◌, ◌<◌, ◌+◌, [], ◌∷◌, ◌++◌, ◌∙◌, ℤ, ◌+ℤ◌, length, take, drop, set, get_or}
use Rattle.std.proofs.Common.{pos, to_z}
use Rattle.std.proofs.Common.{append-nil, ap, arith, refl, rules, sym, w32, FitsSigned}
use Rattle.std.proofs.lemmas.Int.{ints, to_z-of_z}
use Rattle.mseed_steim.specs.private.Lanes.{total}
use Rattle.mseed_steim.specs.private.Sums.{sums}
use Rattle.mseed_steim.proofs.Folded.{next_cut, take_put}
use Rattle.mseed_steim.proofs.Summed.{next_some}
use Rattle.mseed_steim.proofs.adding.put_each.Goals as goal

pub loop-i-preserved : goal.loop-i-preserved
loop-i-preserved c =
    let ds = c.args.differences.now in
    let i = c.loop-i.i in
    let out = c.loop-i.out in
    let d = get_or ds i (pos 0) in
    let past : ℤ = to_z w32 c.loop-i.sum-bits in
    let next : ℤ = c.add_near-sum.result in
    let fits : FitsSigned w32 d = search rules in
    let begin : FitsSigned w32 c.args.last = search rules in
    let last : FitsSigned w32 c.add_near-sum.result = search rules in
    let sum : next ≡ past +ℤ d = rw to_z-of_z at c.add_near-sum.ensures in
    let inside : i < length out = omega arith in
    let one : take 1 (drop i ds) ≡ d ∷ [] = ap (take 1) (next_cut ds i (pos 0) c.loop-i-test.true)
    in
    let put : take (i + 1) (set out i next) ≡ take i out ++ sums past (take 1 (drop i ds)) =
    rw (one, ← sum) (sym (append-nil (take (i + 1) (set out i next))) ∙ take_put out i (i + 1) next [] inside refl) in
    let moved : next ≡ past +ℤ total (take 1 (drop i ds)) = rw one (omega (arith, ints, sum)) in
    record {
      places = search rules;
      summed = rw (to_z-of_z w32 next last, to_z-of_z w32 c.args.last begin) (next_some ds c.args.last i 1 (i + 1) out
          (set out i next) past next refl
          (rw (to_z-of_z w32 c.args.last begin) at c.loop-i.invariant.summed) put moved);
    }
