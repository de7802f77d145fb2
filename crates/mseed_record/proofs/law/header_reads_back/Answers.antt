use Rattle.mseed_record.proofs.Headed.{reads_back}
use Rattle.mseed_record.proofs.law.header_reads_back.Goals as goal

pub returns : goal.returns
returns c = reads_back
