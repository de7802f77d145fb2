use Rattle.std.proofs.Common.{rules}
use Rattle.std.proofs.lemmas.Grind.{get_or-set_at}
use Rattle.std.proofs.lemmas.Int.{to_z-of_z}
use Rattle.std.proofs.lemmas.List.{get_or-set_other}
use Rattle.mseed_steim_pack.proofs.ahead.put_cut.Goals as goal

pub loop-index-preserved : goal.loop-index-preserved
loop-index-preserved g c = search (rules, get_or-set_at, get_or-set_other, to_z-of_z)
