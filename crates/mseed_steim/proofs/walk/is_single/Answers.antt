use Rattle.mseed_steim.specs.private.Reads.{as_data}
use Rattle.mseed_steim.proofs.FirstRun.{single_if}
use Rattle.mseed_steim.proofs.walk.is_single.Goals as goal

pub returns-in-Some : goal.returns-in-Some
returns-in-Some c = single_if c.args.scheme (as_data c.args.word) _ _ _ c.in-Some.ensures
