use Rattle.std.proofs.Common.{◌∙◌, refl}
use Rattle.mseed_select.proofs.Sampled.{lasts_there}
use Rattle.mseed_select.proofs.selector.lasts_to.Goals as goal

pub returns-in-Ok : goal.returns-in-Ok
returns-in-Ok c =
    let rate = rw (c.in-Ok.ensures.factor, c.in-Ok.ensures.multiplier) at c.ratio.ensures in
    let lasts = rw (rate, c.samples.ensures) at c.is_sampled_to.ensures in
    lasts ∙ lasts_there _ _ _ _ _ (c.in-Ok.ensures.ok.0 refl)
