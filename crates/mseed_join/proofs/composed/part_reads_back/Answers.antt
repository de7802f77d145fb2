use Rattle.mseed_join.proofs.Readable.{has_text}
use Rattle.mseed_join.proofs.composed.part_reads_back.Goals as goal

pub returns : goal.returns
returns c = has_text
