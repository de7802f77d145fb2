use Rattle.std.proofs.Common.{◌≡◌, ◌+◌, ◌*◌, ◌≤◌, ℕ, nat_abs, get_or, arith, pos, rules, w32, FitsSigned}
use Rattle.std.proofs.lemmas.Int.{to_z-of_z}
use Rattle.std.proofs.Math.Nat.{mul-le-mul_left}
use Rattle.mseed_steim.proofs.Far.{span_step}
use Rattle.mseed_steim.proofs.Greatest.{max_is}
use Rattle.mseed_steim.proofs.sum.reach_of.Goals as goal

-- one more
more : (i m n d all later : ℕ) → all ≤ i * m + (d + later) → d ≤ n → i * m ≤ i * n → all ≤ (i + 1) * n + later
more i m n d all later h high many = grind arith

pub loop-i-preserved : goal.loop-i-preserved
loop-i-preserved c =
    let i = c.loop-i.i in
    let d = get_or c.args.differences.now i (pos 0) in
    let fits : FitsSigned w32 d = search rules in
    let size : c.unsigned_abs.result ≡ nat_abs d = rw to_z-of_z at c.unsigned_abs.ensures.value in
    let most = max_is c.loop-i.most c.unsigned_abs.result c.max-most.result c.max-most.ensures in
    let step = span_step c.args.differences.now i (pos 0) c.loop-i-test.true in
    record {
      most = c.max-most.type_inv;
      so_far = more i c.loop-i.most c.max-most.result (nat_abs d) _ _ (omega (arith, c.loop-i.invariant.so_far, step))
          (omega (arith, size, most.1)) (mul-le-mul_left i most.0);
    }
