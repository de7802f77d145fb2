use Rattle.mseed_steim_pack.proofs.Layouts.{layouts_two}
use Rattle.std.proofs.Common.{rules}
use Rattle.mseed_steim_pack.proofs.layout.layout_two.Goals as goal

pub returns : goal.returns
returns c = search (rules, layouts_two)
