use Rattle.mseed_steim_pack.proofs.OnePacking.{one_word, one_run}
use Rattle.mseed_steim_pack.proofs.law.one_packing.Goals as goal

pub returns : goal.returns
returns c = record { word = one_word; run = one_run }
