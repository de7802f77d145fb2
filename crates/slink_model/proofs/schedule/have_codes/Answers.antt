use Rattle.std.proofs.Common.{◌≡◌, ◌∙◌, ◌<◌, ℕ, List, Option, Some, ap, inl, inr, subst, arith, get_or, length}
use Rattle.std.proofs.Common.{slice_get}
use Rattle.std.proofs.lemmas.Option.{slice_get_within}
use Rattle.slink_wire.specs.Place.{Fields, IsField}
use Rattle.slink_feed.proofs.Items.{one_value, same_or_not}
use Rattle.slink_model.proofs.Stepping.{got}
use Rattle.slink_model.proofs.schedule.have_codes.Goals as goal

pub loop-place-preserved : goal.loop-place-preserved
loop-place-preserved c = λ k p lt here.
    let places : List (Fields × Option ℕ) = c.args.setup.now.places.items in
    let same : c.as_slice-place-items.result.now ≡ places = c.as_slice-place-items.ensures.value in
    let below : c.loop-place.place-index < length places = omega (arith, c.loop-place-test.true, ap length same) in
    let item : c.loop-place-item.result ≡ get_or places c.loop-place.place-index c.loop-place-item.result =
    c.loop-place-item.is ∙ ap (λ xs. get_or xs c.loop-place.place-index c.loop-place-item.result) same in
    let at = got places c.loop-place.place-index c.loop-place-item.result below item in
    elim (same_or_not k c.loop-place.place-index) [
      | inl e ↦ subst (λ (q : Fields × Option ℕ). IsField 5 q.0.station × IsField 2 q.0.network)
          (one_value (slice_get places c.loop-place.place-index) c.loop-place-item.result p at
          (subst (λ i. slice_get places i ≡ Some p) e here)) c.has_codes.ensures
      | inr ne ↦ c.loop-place.invariant k p (omega (arith, lt, ne)) here
    ]

pub returns : goal.returns
returns c = λ k p here. c.loop-place.invariant k p (omega (
  arith,
  slice_get_within c.args.setup.now.places.items k p here,
  c.loop-place-test.false,
  ap length c.as_slice-place-items.ensures.value,
)) here
