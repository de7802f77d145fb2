use Rattle.std.proofs.Common.{subst, sym}
use Rattle.std.proofs.lemmas.List.Elements.{All-more}
use Rattle.mseed_repack.specs.private.Restretching.{IsUnbroken}
use Rattle.mseed_repack.specs.ByStretches.{IsFit}
use Rattle.mseed_repack.proofs.Packabilities.{all_to_end, fits_else}
use Rattle.mseed_repack.proofs.refusing.first_misfit.Goals as goal

pub loop-number-preserved : goal.loop-number-preserved
loop-number-preserved c =
    let at = c.index-packabilities-number in
    let k = c.loop-number.number in
    let here = subst IsUnbroken (sym at.is) (c.requires k at.result c.loop-number-test.true) in
    All-more IsFit c.args.packabilities.now k at.result c.loop-number-test.true c.loop-number.invariant
    (subst IsFit at.is (fits_else at.result here c.in_default.not-Misfit))

pub returns-clause-none : goal.returns-clause-none
returns-clause-none c = all_to_end IsFit _ _ c.loop-number-test.false c.loop-number.invariant
