use Rattle.std.proofs.Common.{◌∙◌, ap, length, arith, get_or}
use Rattle.std.proofs.lemmas.Simd.{length-zip2}
use Rattle.std.specs.Int.Bits.{bit_and}
use Rattle.mseed_steim.specs.private.Lanes.{words}
use Rattle.mseed_steim.proofs.LaneTables.{length_of_table}
use Rattle.mseed_steim.proofs.LaneSums.{planes_by, table_words, weighed_words}
use Rattle.mseed_steim.proofs.lanes.part.Goals as goal

pub returns : goal.returns
returns c = λ byte row e f.
    let l = ap length c.look_up.ensures.value
    ∙ length_of_table (λ r. get_or c.args.mask r 0) c.args.rows c.fits-rows.0 in
    let m = ap length c.look_up-2.ensures.value
    ∙ length_of_table (λ r. get_or c.args.weight r 0) c.args.rows c.fits-rows.0 in
    weighed_words _ c.look_up-2.result _ _ words
    (length-zip2 bit_and c.args.plane c.look_up.result (omega (arith, l, c.fits-plane.0)) ∙ c.fits-plane.0) m
    (planes_by bit_and c.args.plane c.look_up.result c.args.rows c.args.mask byte row words c.look_up.ensures.value e f)
    (table_words c.look_up-2.result c.args.rows c.args.weight row words c.look_up-2.ensures.value f)
