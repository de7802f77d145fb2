use Rattle.std.proofs.Common.{arith}
use Rattle.std.proofs.lemmas.Int.{to_z-of_z}
use Rattle.mseed_steim.proofs.Nearness.{code_is, word_value}
use Rattle.mseed_steim.proofs.ends.are_words_narrow.Goals.{else-code_in-eq3-via-then-code_in-eq3+else-not-is_narrow}
use Rattle.mseed_steim.proofs.ends.are_words_narrow.Goals.{else-code_in-eq3-via-else-code_in-eq3}
use Rattle.mseed_steim.proofs.ends.are_words_narrow.Goals as goal

pub loop-place-preserved : goal.loop-place-preserved
loop-place-preserved c = search (arith, code_is, else-code_in-eq3-via-else-code_in-eq3, to_z-of_z, word_value)
