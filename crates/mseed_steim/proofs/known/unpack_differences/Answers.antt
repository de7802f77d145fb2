use Rattle.std.proofs.lemmas.Bool.{false≢true}
use Rattle.mseed_steim.proofs.known.unpack_differences.Goals as goal

pub unreachable-requires : goal.unreachable-requires
unreachable-requires c = false≢true (c.in-Err.ensures.only c.requires.whole.0 c.requires.whole.1).0
