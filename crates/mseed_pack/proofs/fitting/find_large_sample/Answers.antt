use Rattle.std.proofs.Common.{pos, arith}
use Rattle.std.proofs.lemmas.List.Elements.{All-from_get_or}
use Rattle.mseed_pack.specs.Fitting.{IsSampleOf}
use Rattle.mseed_pack.proofs.fitting.find_large_sample.Goals as goal

pub returns-clause-none : goal.returns-clause-none
returns-clause-none c =
    All-from_get_or (IsSampleOf c.args.encoding) c.args.samples.now (pos 0)
    (λ k below. c.loop-index.invariant k (omega (arith, below, c.loop-index-test.false)))
