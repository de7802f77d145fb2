use Rattle.std.proofs.Common.{◌∙◌, ap, get_or, length}
use lib.Lanes.{sum_l}
use Rattle.mseed_steim.specs.private.Lanes.{words}
use Rattle.mseed_steim.proofs.LaneSums.{table_words}
use Rattle.mseed_steim.proofs.LaneTables.{length_of_table, sum_of_bytes}
use Rattle.mseed_steim.proofs.lanes.tally.Goals as goal

pub returns : goal.returns
returns c = λ row f.
    let long = ap length c.look_up.ensures.value
    ∙ length_of_table (λ r. get_or c.args.table r 0) c.args.rows c.fits-rows.0 in
    sum_of_bytes c.look_up.result long
    ∙ ap sum_l (table_words c.look_up.result c.args.rows c.args.table row words c.look_up.ensures.value f)
