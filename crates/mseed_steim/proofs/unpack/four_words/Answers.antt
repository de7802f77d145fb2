use Rattle.mseed_steim.specs.private.Lanes.{words}
use Rattle.mseed_steim.proofs.LaneWords.{four}
use Rattle.mseed_steim.proofs.unpack.four_words.Goals as goal

pub returns : goal.returns
unfolding words
returns c = λ byte small e. rw e (four byte small)
