use Rattle.std.proofs.Common.{◌≡◌, ◌+◌, ◌-◌, ◌++◌, length, take, drop, arith}
use Rattle.std.proofs.KnownBytes.{Appends-trans}
use Rattle.std.proofs.Math.Seq.{take-add}
use Rattle.std.proofs.lemmas.Grind.{common_steps}
use Rattle.mseed_stream.proofs.whole.write_all_of.Goals as goal

pub loop-at-preserved : goal.loop-at-preserved
loop-at-preserved g c =
    let bytes = c.args.bytes.now in
    let at = c.loop-at.at in
    let n = c.in-Ok.n in
    let taken : take (at + n) bytes ≡ take at bytes ++ take n (take (length bytes - at) (drop at bytes)) =
    grind (arith, common_steps, take-add) in
    record {
      bytes = grind (arith, common_steps, take-add);
      failures = grind (arith, common_steps);
      known = rw taken (Appends-trans _ _ _ _ _ c.loop-at.invariant.known c.in-Ok.ensures.known);
      beside = grind (arith, common_steps);
      within = grind (arith, common_steps);
    }
