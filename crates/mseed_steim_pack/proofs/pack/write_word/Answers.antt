use Rattle.std.proofs.Common.{arith}
use Rattle.mseed_steim_pack.proofs.Written.{word_written}
use Rattle.mseed_steim_pack.proofs.pack.write_word.Goals as goal

pub returns : goal.returns
returns c = search (arith, word_written)
