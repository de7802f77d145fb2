use Rattle.mseed_steim_pack.proofs.Packs.{prefix_spelled}
use Rattle.mseed_steim_pack.proofs.Fewest.{is_fewest}
use Rattle.mseed_steim_pack.proofs.law.packed_spells.Goals as goal

pub returns : goal.returns
returns c = record { spelled = prefix_spelled; fewest = is_fewest }
