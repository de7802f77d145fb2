use Rattle.std.proofs.Common.{refl, [], ◌∷◌, Some}
use Rattle.mseed_repack.specs.ByStretches.{broken_line, silent}
use Rattle.mseed_repack.specs.Misfits.{misfit_text}
use Rattle.mseed_repack.proofs.Packabilities.{tells_one}
use Rattle.mseed_repack.proofs.refusing.report_packability.Goals as goal

pub returns-in-Fit : goal.returns-in-Fit
returns-in-Fit g c = rw c.in-Fit.is ([], (refl, silent (g.E.Sink.written c.args.errors.now)))

pub returns-in-Broken : goal.returns-in-Broken
returns-in-Broken g c =
    let line = broken_line c.args.channel.now in
    let reported = tells_one _ _ _ c.report_left_broken.ensures in
    rw c.in-Broken.is (line ∷ [], (refl, reported))

pub returns-in-Misfit : goal.returns-in-Misfit
returns-in-Misfit g c =
    let line = misfit_text c.args.encoding c.args.channel.now (Some c.in-Misfit.stretch) c.in-Misfit.fault in
    let reported = tells_one _ _ _ c.report_misfit.ensures in
    rw c.in-Misfit.is (line ∷ [], (refl, reported))
