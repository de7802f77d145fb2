use Rattle.std.proofs.Common.{List, arith, refl, subst, sym, ◌∙◌}
use Rattle.std.proofs.lemmas.Bool.{false≢true}
use Rattle.mseed_record.specs.View.{View}
use Rattle.mseed_repack.specs.Stretches.{EndsBefore}
use Rattle.mseed_repack.proofs.CutStretches.{cut_first, cut_off, cut_on, few_more, left_are}
use Rattle.mseed_repack.proofs.stretching.cut_stretch.Goals as goal

pub loop-view-init : goal.loop-view-init
loop-view-init g c = (
  c.in-Some.ensures.leads,
  c.in-Some.ensures.leads,
  refl,
  cut_first c.in-Some.ensures.next c.begin-stretch.ensures.stretch,
)

pub with-stretch-requires : goal.with-stretch-requires
with-stretch-requires g c =
    let few = few_more c.loop-view.invariant.3 c.in-Some-next.ensures.next in
    omega (arith, few, c.requires.few)

pub loop-view-preserved : goal.loop-view-preserved
loop-view-preserved g c =
    let h = c.loop-view.invariant.3 in (
      c.in-Some-next.ensures.leads,
      c.in-Some-next.ensures.leads,
      refl,
      cut_on h c.in-Some-next.ensures.next ((c.goes_on.ensures h.own h.kept).0 c.if-not-goes_on.false)
          (c.with-stretch.ensures.stretch h.own h.kept),
    )

pub returns-then-not-goes_on-clause-some : goal.returns-then-not-goes_on-clause-some
returns-then-not-goes_on-clause-some g c =
    let h = c.loop-view.invariant.3 in
    record {
      led = c.loop-view.invariant.1;
      first = cut_off h (subst (λ (vs : List View). EndsBefore h.own vs) (sym c.in-Some-next.ensures.next)
          (λ go. false≢true (sym c.if-not-goes_on.true ∙ (c.goes_on.ensures h.own h.kept).1 go)));
      left_are = c.loop-view.invariant.2 ∙ left_are h;
    }

pub returns-clause-some : goal.returns-clause-some
returns-clause-some g c =
    let h = c.loop-view.invariant.3 in
    record {
      led = c.loop-view.invariant.1;
      first = cut_off h (subst (λ (vs : List View). EndsBefore h.own vs) (sym c.in_default.ensures.next.0) tt);
      left_are = c.loop-view.invariant.2 ∙ left_are h;
    }
