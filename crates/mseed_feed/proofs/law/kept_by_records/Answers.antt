use Rattle.mseed_feed.specs.Filling.{served}
use Rattle.mseed_feed.proofs.Kept.{by_records}
use Rattle.mseed_feed.proofs.law.kept_by_records.Goals as goal

pub returns : goal.returns
returns c serving records = by_records serving records (served serving)
