use Rattle.std.proofs.Common.{◌≡◌, ℕ, ◌%◌, pos, cond, to_z, ◌+◌, ◌*◌, ◌<◌, ◌≤◌, length, arith, rules}
use Rattle.std.proofs.Common.{w32}
use mir.Syntax.{wrap_sub}
use Rattle.std.proofs.lemmas.Int.{to_z_pos}
use lib.Signed.{lt_z}
use Rattle.std.proofs.lemmas.Simd.{chunk-fits, length-chunk, below_from_Fits}
use Rattle.byteorder.specs.Endian.{twos_complement}
use lib.Lanes.{top}
use Rattle.mseed_steim.proofs.Widened.{widened, stored}
use Rattle.mseed_steim.proofs.widen.widen_bytes.Goals as goal

-- a byte above 127 is lowered by 256
lane : (x : ℕ) → x < 256
    → to_z w32 (cond (top 31 (cond (lt_z (pos 127) (to_z w32 x)) 4294967295 0)) ((x + 4294967040) % 4294967296) x)
    ≡ twos_complement 1 x
lane x h = search (arith, to_z_pos)

pub loop-i-preserved : goal.loop-i-preserved
loop-i-preserved c =
    let inside : 16 * c.loop-i.i + 16 ≤ length c.args.bytes.now = omega arith in
    let long = length-chunk (16 * c.loop-i.i) 16 c.args.bytes.now inside in
    record {
      room = search rules;
      so_far = grind (arith, below_from_Fits, chunk-fits, lane, stored, widened, wrap_sub);
    }
