-- Which ring takes a record.
use Rattle.std.proofs.Common.{◌≡◌, ℕ, zero, suc, ◌<◌, ◌∙◌, ap, refl, sym, arith, List, []}
use Rattle.std.proofs.Common.{◌∷◌, length, set, Some, slice_get}
use Rattle.std.proofs.lemmas.Option.{none-some, same_Some}
use Rattle.std.proofs.lemmas.Bool.{cond_both}
use Rattle.slink_wire.specs.Place.{Bears}
use Rattle.slink_wire.proofs.Carrying.{carries_fails, carries_passes}
use Rattle.slink_feed.specs.Intake.{IsOfFeed, is_of_station, places_of, pushed}
use Rattle.slink_feed.specs.Rings.{IsOfNoPlace, IsPlaceOf}
use Rattle.slink_feed.specs.Window.{Window, with_record}
use Rattle.slink_feed.proofs.Items.{get_mapped, map_got, within_is}

-- The first ring of its station takes it.
pushed_at : (feed : List Window) (r : List ℕ) (k : ℕ) (w : Window) → slice_get feed k ≡ Some w → Bears r w.place
    → ((j : ℕ) (v : Window) → j < k → slice_get feed j ≡ Some v → ¬ (Bears r v.place))
    → pushed feed r ≡ set feed k (with_record w r)
pushed_at [] r k w here bears first = absurd (none-some w here)
pushed_at (v ∷ ws) r zero w here bears first =
    rw (same_Some v w here, carries_passes w.place r bears) refl
pushed_at (v ∷ ws) r (suc k) w here bears first =
    rw (
      carries_fails v.place r (first 0 v (omega arith) refl),
      pushed_at ws r k w here bears (λ j x lt there. first (suc j) x (omega (arith, lt)) there),
    ) refl

-- the stations stay
pub places_pushed : (feed : List Window) (r : List ℕ) → places_of (pushed feed r) ≡ places_of feed
places_pushed [] r = refl
places_pushed (v ∷ ws) r =
    cond_both (is_of_station v.place r) (with_record v r ∷ ws) (v ∷ pushed ws r)
    (λ xs. places_of xs ≡ places_of (v ∷ ws)) (λ is. refl) (λ is. ap (λ ps. v.place ∷ ps) (places_pushed ws r))

-- a record of 512 bytes is of the feed where a ring is of its station
pub of_feed : (feed : List Window) (bytes whole : List ℕ) (k : ℕ) → length bytes ≡ 512 → whole ≡ bytes
    → IsPlaceOf feed whole k → IsOfFeed (places_of feed) bytes
of_feed feed bytes whole k size same b =
    let at : (w : Window) × (slice_get feed k ≡ Some w) = within_is feed k b.within in
    (size, k, at.0.place, map_got (λ (v : Window). v.place) feed k at.0 at.1, rw same at (b.bears at.0 at.1))

pub not_of_feed : (feed : List Window) (bytes whole : List ℕ) → whole ≡ bytes → IsOfNoPlace feed whole
    → ¬ (IsOfFeed (places_of feed) bytes)
not_of_feed feed bytes whole same none of =
    let at = get_mapped (λ (v : Window). v.place) feed of.1 of.2 of.3 in
    none of.1 at.0 at.1 (rw (at.2, same) of.4)

pub pushed_is : (feed new : List Window) (bytes whole : List ℕ) (k : ℕ) → whole ≡ bytes → IsPlaceOf feed whole k
    → ((w : Window) → slice_get feed k ≡ Some w → new ≡ set feed k (with_record w whole)) → new ≡ pushed feed bytes
pushed_is feed new bytes whole k same b done =
    let at : (w : Window) × (slice_get feed k ≡ Some w) = within_is feed k b.within in
    done at.0 at.1 ∙ (sym (pushed_at feed whole k at.0 at.1 (b.bears at.0 at.1) b.first) ∙ ap (pushed feed) same)
