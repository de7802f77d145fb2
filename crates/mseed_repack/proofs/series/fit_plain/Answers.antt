use Rattle.std.proofs.Common.{arith, sym, ◌∙◌}
use Rattle.std.proofs.lemmas.Result.{IfErr-weaker, on_ok_weaker}
use Rattle.mseed_repack.proofs.Plain.{near_held, near_joined, unread_plain}
use Rattle.mseed_repack.proofs.Stretched.{head_places, series_held, series_misfits}
use Rattle.mseed_repack.proofs.series.fit_plain.Goals as goal

pub fit_head-requires : goal.fit_head-requires
fit_head-requires g c =
    let head = c.head_of-head.result in
    let h = c.outline_counted-outline.ensures.outline in
    record {
      steps = head_places _ _ _ _ c.head_of-head.ensures.count c.head_of-head.ensures.steps h.read.places;
    }

pub returns-clause-fits : goal.returns-clause-fits
returns-clause-fits g c =
    let vs = g.R.Walk.left c.args.records in
    let head = c.head_of-head.result in
    let h = c.outline_counted-outline.ensures.outline in
    let plain = c.requires.plain in
    let near = near_joined vs h.samples plain.plain h.read.are.samples_are in
    on_ok_weaker c.fit_head.result (λ fits. (
      series_held c.args.options.now vs head h.samples (c.head_of-head.ensures.series h.samples h.read.are)
          (h.read.size ∙ sym c.head_of-head.ensures.count)
          (near_held c.args.options.now.encoding h.samples plain.written h.within near) fits,
      (plain.written, unread_plain vs plain.plain, plain.count_is, omega arith),
    )) c.fit_head.ensures.fits

pub returns-clause-misfits : goal.returns-clause-misfits
returns-clause-misfits g c =
    let head = c.head_of-head.result in
    let h = c.outline_counted-outline.ensures.outline in
    IfErr-weaker c.fit_head.result _ _ (λ fault is.
    series_misfits _ _ _ _ (c.head_of-head.ensures.series h.samples h.read.are) (is h.samples c.args.options.now
    (h.read.size ∙ sym c.head_of-head.ensures.count))) c.fit_head.ensures.fault
