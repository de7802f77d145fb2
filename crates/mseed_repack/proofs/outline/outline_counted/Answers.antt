use Rattle.std.proofs.Common.{◌≡◌, [], length, sym, ◌∙◌, arith}
use Rattle.std.proofs.lemmas.Bool.{eqb-true}
use Rattle.mseed_repack.specs.private.Reading.{steps_of}
use Rattle.mseed_repack.specs.declared.outline.Nearness.TheVariants.{Unknown}
use Rattle.mseed_repack.proofs.Outlines.{outlined_none, outlined_on}
use Rattle.mseed_repack.proofs.outline.outline_counted.Goals as goal

pub returns-then-is_empty-clause-outline : goal.returns-then-is_empty-clause-outline
returns-then-is_empty-clause-outline g c =
    let vs = g.R.Walk.left c.args.records in
    let ss = c.args.steps.now in
    let empty : length ss ≡ 0 = eqb-true (length ss) 0 (sym c.is_empty.ensures ∙ c.if-is_empty.true) in
    let none : steps_of vs ≡ 0 = omega (arith, empty, c.requires.read.steps_fit) in
    rw (sym c.requires.count) at
    (outlined_on [] vs ss (outlined_none Unknown ss tt) c.requires.read.walks.sound none)
