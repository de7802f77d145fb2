use Rattle.std.proofs.Common.{arith}
use Rattle.mseed_steim.specs.private.Reads.{as_data}
use Rattle.mseed_steim.proofs.FirstRun.{found_run}
use Rattle.mseed_steim.proofs.keep.unused_in.Goals as goal

pub returns : goal.returns
returns c =
    found_run c.args.task.scheme c.args.payload.now c.args.index c.args.sum
    (as_data c.first_word.result) c.first_difference.result (omega arith) (omega arith)
    c.first_word.ensures c.first_difference.ensures
