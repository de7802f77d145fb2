use Rattle.mseed_steim_pack.proofs.Layouts.{layouts_one}
use Rattle.mseed_steim_pack.proofs.layout.layout_one.Goals as goal

pub returns : goal.returns
returns c = layouts_one _ c.args.most c.requires
