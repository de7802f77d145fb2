use Rattle.mseed_stream.proofs.OneInput.{one_input, one_views, one_stop}
use Rattle.mseed_stream.proofs.law.one_input.Goals as goal

pub returns-clause-input : goal.returns-clause-input
returns-clause-input c = one_input

pub returns-clause-views : goal.returns-clause-views
returns-clause-views c = one_views

pub returns-clause-stop : goal.returns-clause-stop
returns-clause-stop c = one_stop
