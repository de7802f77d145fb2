use Rattle.std.proofs.Common.{◌≡◌, ◌∙◌, ◌<◌, ◌++◌, [], ◌∷◌, ℕ, List, Option, ap, sym, subst, arith, get_or, length, map}
use Rattle.std.proofs.Common.{rules, take}
use Rattle.std.proofs.lemmas.List.{length-map, length-take-le, map_more}
use Rattle.slink_wire.specs.Place.{Fields}
use Rattle.slink_feed.specs.Rings.{HasPlace}
use Rattle.slink_feed.specs.Window.{Window}
use Rattle.slink_model.specs.World.{empty_window}
use Rattle.slink_model.proofs.Stepping.{got, no_double}
use Rattle.slink_model.proofs.schedule.feed_of.Goals as goal

pub add_other-requires : goal.add_other-requires
add_other-requires c =
    let places : List (Fields × Option ℕ) = c.args.setup.now.places.items in
    let same : c.as_slice-place-items.result.now ≡ places = c.as_slice-place-items.ensures.value in
    let lt : c.loop-place.place-index < length places = omega (arith, c.loop-place-test.true, ap length same) in
    let item : c.loop-place-item.result ≡ get_or places c.loop-place.place-index c.loop-place-item.result =
    c.loop-place-item.is ∙ ap (λ xs. get_or xs c.loop-place.place-index c.loop-place-item.result) same in
    let count : length c.loop-place.feed ≡ c.loop-place.place-index =
    ap length c.loop-place.invariant
    ∙ (length-map (take c.loop-place.place-index places) (empty_window c.args.setup.now)
    ∙ length-take-le c.loop-place.place-index places (omega (arith, lt))) in (
      search rules,
      (
        omega (arith, count, lt, c.requires.count),
        λ has. no_double c.args.setup.now places c.loop-place.place-index c.loop-place-item.result c.requires.differ
            (got places c.loop-place.place-index c.loop-place-item.result lt item)
            (subst (λ feed. HasPlace feed c.loop-place-item.result.0) c.loop-place.invariant
            (subst (HasPlace c.loop-place.feed) (ap (λ (w : Window). w.place) c.in-Ok.ensures.empty) has)),
      ),
    )

pub loop-place-preserved : goal.loop-place-preserved
loop-place-preserved c =
    let places : List (Fields × Option ℕ) = c.args.setup.now.places.items in
    let same : c.as_slice-place-items.result.now ≡ places = c.as_slice-place-items.ensures.value in
    let lt : c.loop-place.place-index < length places = omega (arith, c.loop-place-test.true, ap length same) in
    let item : c.loop-place-item.result ≡ get_or places c.loop-place.place-index c.loop-place-item.result =
    c.loop-place-item.is ∙ ap (λ xs. get_or xs c.loop-place.place-index c.loop-place-item.result) same in
    let ring : c.in-Ok.ring ≡ empty_window c.args.setup.now
    (get_or places c.loop-place.place-index c.loop-place-item.result) = c.in-Ok.ensures.empty
    ∙ ap (empty_window c.args.setup.now) item in
    c.add_other.ensures ∙ (ap (λ feed. feed ++ c.in-Ok.ring ∷ []) c.loop-place.invariant
    ∙ (ap (λ r. map (empty_window c.args.setup.now) (take c.loop-place.place-index places) ++ r ∷ []) ring
    ∙ sym (map_more (empty_window c.args.setup.now) places c.loop-place.place-index c.loop-place-item.result lt)))
