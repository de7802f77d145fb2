use Rattle.std.proofs.Common.{◌≡◌, ℤ, ◌+ℤ◌, get_or, pos, to_z, arith, rules, w32, FitsSigned}
use Rattle.std.proofs.lemmas.Int.{ints, to_z-of_z}
use Rattle.mseed_steim.proofs.Far.{abs_sum, span_step, total_step}
use Rattle.mseed_steim.proofs.sum.add_all.Goals as goal

pub loop-i-preserved : goal.loop-i-preserved
loop-i-preserved c =
    let ds = c.args.differences.now in
    let d = get_or ds c.loop-i.i (pos 0) in
    let past : ℤ = to_z w32 c.loop-i.sum-bits in
    let fits : FitsSigned w32 d = search rules in
    let last : FitsSigned w32 c.add_near-sum.result = search rules in
    let step = span_step ds c.loop-i.i (pos 0) c.loop-i-test.true in
    let totals = total_step ds c.loop-i.i (pos 0) c.loop-i-test.true in
    let next : c.add_near-sum.result ≡ past +ℤ d = rw to_z-of_z at c.add_near-sum.ensures in
    let sum = abs_sum past d in
    record {
      near = rw (to_z-of_z w32 c.add_near-sum.result last, next) (omega (arith, step, sum, c.loop-i.invariant.near));
      moved = rw (to_z-of_z w32 c.add_near-sum.result last, next)
          (omega (arith, ints, totals, c.loop-i.invariant.moved));
    }
