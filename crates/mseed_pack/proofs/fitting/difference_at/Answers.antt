use Rattle.std.proofs.Common.{arith}
use Rattle.std.proofs.lemmas.Int.{ints}
use Rattle.mseed_pack.proofs.Differences.{difference_at}
use Rattle.mseed_pack.proofs.fitting.difference_at.Goals as goal

pub returns : goal.returns
returns c =
    omega (
      arith,
      ints,
      difference_at c.args.samples.now c.args.index c.requires.inside,
      c.from.ensures,
      c.from-2.ensures,
    )
