use Rattle.std.proofs.Common.{arith, rules}
use Rattle.std.proofs.Common.{append-nil}
use Rattle.std.proofs.Math.Seq.{take-length}
use Rattle.std.proofs.lemmas.Int.{to_z-of_z}
use Rattle.mseed_steim.proofs.Folded.{take_put}
use Rattle.mseed_steim.proofs.Integers.{integers, integers_step, integers_over, filled, whole_count}
use Rattle.mseed_steim.proofs.read.fill_integers.Goals as goal

pub loop-i-preserved : goal.loop-i-preserved
loop-i-preserved c = search (rules, integers, integers_step, take_put, to_z-of_z)

pub returns : goal.returns
returns c = search (arith, append-nil, filled, integers_over, take-length, whole_count)
