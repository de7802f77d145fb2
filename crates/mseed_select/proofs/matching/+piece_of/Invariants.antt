use Rattle.std.proofs.Common.{length}
use Rattle.mseed_select.proofs.matching.+piece_of.Given as goal

abbrev pub decreases-piece_of : goal.decreases-piece_of
decreases-piece_of l = length l.field.now
