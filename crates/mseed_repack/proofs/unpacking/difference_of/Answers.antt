use Rattle.std.proofs.Common.{rules}
use Rattle.mseed_repack.proofs.Supplied.{held_fits}
use Rattle.mseed_repack.proofs.unpacking.difference_of.Goals as goal

pub overflow_sub-result : goal.overflow_sub-result
overflow_sub-result c = held_fits c.args.sample c.args.before (search rules) (search rules) c.requires
