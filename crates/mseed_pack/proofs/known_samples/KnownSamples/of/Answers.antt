use Rattle.std.proofs.Common.{w32, ◌∙◌}
use Rattle.std.proofs.lemmas.Int.{to_z-of_z}
use Rattle.std.proofs.lemmas.List.Elements.{All-replicate}
use Rattle.mseed_pack.specs.private.KnownSamples.{IsKnownSample}
use Rattle.mseed_pack.proofs.known_samples.KnownSamples.of.Goals as goal

pub returns : goal.returns
returns c = λ samples is. All-replicate (IsKnownSample samples) 32 _ (to_z-of_z w32 c.args.first c.ranges.first ∙ is)
