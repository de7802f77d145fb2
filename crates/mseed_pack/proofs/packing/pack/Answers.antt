use Rattle.std.proofs.Common.{◌≡◌, ℕ, List, subst}
use Rattle.std.specs.List.{AllByRecursion}
use Rattle.mseed_audit.specs.Series.{Trace}
use Rattle.mseed_pack.specs.FewestWords.{HasFewestWords}
use Rattle.mseed_pack.specs.Packing.{IsPacking}
use Rattle.mseed_steim.specs.declared.encoding.Encoding.TheVariants.{Steim2}
use Rattle.mseed_pack.proofs.packing.pack.Goals as goal

pub returns-clause-fewest : goal.returns-clause-fewest
returns-clause-fewest g c = subst
    (λ (s : Trace). (records : List (List ℕ)) (packing : IsPacking s c.args.options.now records)
    → c.args.options.now.encoding ≡ Steim2 → AllByRecursion (HasFewestWords s) packing.pieces)
    c.of-view.ensures.trace c.pack_view.ensures.fewest
