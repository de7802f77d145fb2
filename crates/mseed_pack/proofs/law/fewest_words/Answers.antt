use Rattle.std.proofs.ByRecursion.{All-weaker}
use Rattle.mseed_pack.specs.FewestWords.{HasFewestWords}
use Rattle.mseed_pack.specs.Packing.{IsPacked}
use Rattle.mseed_pack.proofs.FewestWords.{record_fewest}
use Rattle.mseed_pack.proofs.law.fewest_words.Goals as goal

pub returns : goal.returns
returns c = λ s o records packing two. All-weaker (IsPacked s o) (HasFewestWords s)
    (λ p. record_fewest c.packed_spells.ensures.fewest s o p two) packing.pieces packing.each
