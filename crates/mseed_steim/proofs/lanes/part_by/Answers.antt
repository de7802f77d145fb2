use Rattle.std.proofs.Common.{◌∙◌, ap, refl, length, arith, get_or}
use Rattle.std.proofs.lemmas.Simd.{length-zip2, splat_is_map}
use Rattle.std.specs.Int.Bits.{bit_and}
use lib.ListN.{replicate}
use Rattle.mseed_steim.specs.private.Lanes.{words}
use Rattle.mseed_steim.proofs.LaneTables.{length_of_table}
use Rattle.mseed_steim.proofs.LaneSums.{planes_by, weighed_words, long_words}
use Rattle.mseed_steim.proofs.lanes.part_by.Goals as goal

pub returns : goal.returns
returns c = λ byte row e f.
    let l = ap length c.look_up.ensures.value
    ∙ length_of_table (λ r. get_or c.args.mask r 0) c.args.rows c.fits-rows.0 in
    weighed_words _ (replicate 16 c.args.weight) _ (λ _. c.args.weight) words
    (length-zip2 bit_and c.args.plane c.look_up.result (omega (arith, l, c.fits-plane.0)) ∙ c.fits-plane.0) refl
    (planes_by bit_and c.args.plane c.look_up.result c.args.rows c.args.mask byte row words c.look_up.ensures.value e f)
    (splat_is_map words 16 c.args.weight long_words)
