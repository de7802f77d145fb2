use Rattle.std.proofs.Common.{◌%◌, ◌∙◌, ap, ℕ}
use Rattle.mseed_steim.proofs.LaneSums.{counted_by}
use Rattle.mseed_steim.proofs.lanes.counted.Goals as goal

pub returns : goal.returns
returns c = λ row rows.
    c.sum_of.ensures ∙ ap (λ (n : ℕ). n % 4294967296) (c.tally.ensures row rows)
    ∙ counted_by c.args.table c.requires.few row
