use Rattle.std.proofs.Common.{◌∙◌}
use Rattle.mseed_steim.proofs.LaneSums.{sums_of_four}
use Rattle.mseed_steim_pack.proofs.four.sums_of.Goals as goal

pub returns : goal.returns
returns c = c.added-3.ensures ∙ sums_of_four c.args.a c.args.b c.args.c c.args.d c.added.result c.added-2.result
    c.fits-a.0 c.fits-b.0 c.fits-c.0 c.fits-d.0 c.added.ensures c.added-2.ensures
