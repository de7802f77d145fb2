use Rattle.mseed_stream.proofs.Records.{one_archive}
use Rattle.mseed_stream.proofs.Ends.{one_end}
use Rattle.mseed_stream.proofs.slices.split.Goals as goal

pub returns-clause-one_archive : goal.returns-clause-one_archive
returns-clause-one_archive c = one_archive c.args.bytes.now

pub returns-clause-one_end : goal.returns-clause-one_end
returns-clause-one_end c = one_end
