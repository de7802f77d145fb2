use Rattle.std.proofs.Common.{ℕ, List, [], ◌∷◌, ◌++◌, None, ap, arith, length, refl, subst, sym, ◌∙◌}
use Rattle.std.proofs.lemmas.Bool.{false≢true}
use Rattle.mseed_repack.specs.private.Planning.{IsFitting}
use Rattle.mseed_repack.specs.declared.plan.Plan.{Plan}
use Rattle.mseed_repack.specs.declared.series.Fitting.{Fitting}
use Rattle.mseed_repack.proofs.Planning.{broken_as, whole_fits, whole_misfits}
use Rattle.mseed_repack.proofs.packability.plan_channel.Goals as goal

pub returns-then-not-are_all_sound-clause-ready : goal.returns-then-not-are_all_sound-clause-ready
returns-then-not-are_all_sound-clause-ready g c =
    broken_as _ _ _ _ _ _ (λ sound. false≢true (sym c.if-not-are_all_sound.true ∙ c.are_all_sound.ensures.1 sound))

pub fit_stretches-requires : goal.fit_stretches-requires
fit_stretches-requires g c κs = (
  (refl, tt),
  (
    record {
      led = c.requires.led;
      sound = c.are_all_sound.ensures.0 c.if-not-are_all_sound.false;
      few = c.requires.few;
    },
    (c.requires.none, c.requires.steps_fit),
  ),
)

pub returns-in-Stretches-clause-ready : goal.returns-in-Stretches-clause-ready
returns-in-Stretches-clause-ready g c = rw c.in-Stretches.is c.fit_stretches.ensures.ready

pub fit_series-requires : goal.fit_series-requires
fit_series-requires g c κs = (
  (refl, tt),
  (
    record {
      walks = record {
        led = c.requires.led;
        some = c.requires.some c.in-Whole.is;
        sound = c.are_all_sound.ensures.0 c.if-not-are_all_sound.false;
      };
      few = c.requires.few;
      steps_fit = c.requires.steps_fit;
    },
    c.requires.plain,
  ),
)

pub returns-in_ok-push-in-Fits-clause-ready : goal.returns-in_ok-push-in-Fits-clause-ready
returns-in_ok-push-in-Fits-clause-ready g c =
    let o = c.args.options.now in
    let vs = g.R.Walk.left c.args.records in
    let room : ℕ = length c.fit_series.new.samples.items in
    let p : Plan = record { records = None; way = c.in-Fits.way } in
    let fits = subst (λ (f : Fitting). IsFitting o room vs f) c.in-Fits.is c.in_ok-way-in-Whole.ensures.fitting in
    rw c.in-Whole.is
    (whole_fits o room (length c.fit_series.new.steps) p c.push.new.self.items vs
    (record {
      some = c.requires.some c.in-Whole.is;
      sound = c.are_all_sound.ensures.0 c.if-not-are_all_sound.false;
      few = c.requires.few;
      steps_fit = omega (arith, c.requires.steps_fit, c.fit_series.auto.steps);
    })
    refl (c.in_ok-push-in-Fits.ensures.items ∙ ap (λ (ps : List Plan). ps ++ p ∷ []) c.requires.none) fits.0 fits.1)

pub returns-in-Misfits-clause-ready : goal.returns-in-Misfits-clause-ready
returns-in-Misfits-clause-ready g c =
    let o = c.args.options.now in
    let vs = g.R.Walk.left c.args.records in
    let room : ℕ = length c.fit_series.new.samples.items in
    let misfits = rw c.in-Misfits.is at c.in_ok-way-in-Whole.ensures.fitting in
    rw c.in-Whole.is
    (whole_misfits _ _ _ _ _ _ (c.are_all_sound.ensures.0 c.if-not-are_all_sound.false) misfits)
