use Rattle.std.proofs.Common.{arith}
use Rattle.mseed_steim.proofs.ByteRun.{Taken, taken}
use Rattle.mseed_steim.proofs.data_words.Words.take_bytes.Goals.{After-run_end-to}
use Rattle.mseed_steim.proofs.data_words.Words.take_bytes.Goals as goal

-- what the words are that are taken
run : (c : After-run_end-to)
    → Taken c.self.inside.payload.now c.first_data_word-from.result.0 c.run_end-to.result c.self.inside.end
run c = search (arith, taken)

pub returns-clause-cut : goal.returns-clause-cut
returns-clause-cut c = rw (← c.self.view_is, c.first_data_word-from.ensures.same)
    (run (goal.at.returns-clause-cut c).After-run_end-to).cut

pub returns-clause-spelled : goal.returns-clause-spelled
returns-clause-spelled c =
    λ scheme. rw (← c.self.view_is, c.first_data_word-from.ensures.same)
    ((run (goal.at.returns-clause-spelled c).After-run_end-to).spelled scheme)

pub returns-clause-items : goal.returns-clause-items
returns-clause-items c =
    λ scheme. rw (← c.self.view_is, c.first_data_word-from.ensures.same)
    ((run (goal.at.returns-clause-items c).After-run_end-to).items scheme)

pub returns-clause-count : goal.returns-clause-count
returns-clause-count c =
    rw (← c.self.view_is, c.first_data_word-from.ensures.same)
    (run (goal.at.returns-clause-count c).After-run_end-to).count
