use Rattle.std.proofs.Common.{arith}
use Rattle.mseed_steim.proofs.Walking.{words_none}
use Rattle.mseed_steim.proofs.data_words.Words.of.Goals.{then-end-eq0, else-end-eq0}
use Rattle.mseed_steim.proofs.data_words.Words.of.Goals as goal

pub returns : goal.returns
returns c = search (arith, else-end-eq0, then-end-eq0, words_none)
