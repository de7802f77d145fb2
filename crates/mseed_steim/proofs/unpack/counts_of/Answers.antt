use Rattle.std.proofs.Common.{refl}
use Rattle.mseed_steim.specs.private.Lanes.{all_counts_one, all_counts_two, counts_one, counts_two}
use Rattle.mseed_steim.proofs.unpack.counts_of.Goals as goal

pub returns-in-One-clause-counts : goal.returns-in-One-clause-counts
unfolding counts_one
returns-in-One-clause-counts c = rw (c.in-Bits16.is, c.in-One.is) refl

pub returns-in-Two-clause-counts : goal.returns-in-Two-clause-counts
unfolding counts_two
returns-in-Two-clause-counts c = rw (c.in-Bits16.is, c.in-Two.is) refl

pub returns-in-One-scheme-clause-counts : goal.returns-in-One-scheme-clause-counts
unfolding all_counts_one
returns-in-One-scheme-clause-counts c = rw (c.in-Bits32.is, c.in-One-scheme.is) refl

pub returns-in-Two-scheme-clause-counts : goal.returns-in-Two-scheme-clause-counts
unfolding all_counts_two
returns-in-Two-scheme-clause-counts c = rw (c.in-Bits32.is, c.in-Two-scheme.is) refl
