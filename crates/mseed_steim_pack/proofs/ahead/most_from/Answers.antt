use Rattle.mseed_steim_pack.proofs.Sizes.{most_first}
use Rattle.mseed_steim_pack.proofs.ahead.most_from.Goals as goal

pub returns : goal.returns
returns c = λ i inside.
    c.at_most.ensures i inside (c.at_most-most-5.ensures i inside (c.at_most-most-4.ensures i inside
    (c.at_most-most-3.ensures i inside (c.at_most-most-2.ensures i inside (c.at_most-most.ensures i inside
    (most_first c.args.held.now i inside))))))
