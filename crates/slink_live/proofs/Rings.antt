-- What each ring shows, once records came.
use Rattle.std.proofs.Common.{◌≡◌, ℕ, zero, suc, ◌∙◌, ap, subst, refl, Bool, true, false, List, [], ◌∷◌}
use Rattle.std.proofs.Common.{◌++◌, append_assoc, append-nil, Option, Some, None, slice_get, if◌then◌else◌}
use Rattle.slink_feed.specs.Window.{Shows, Window, with_record}
use Rattle.slink_feed.proofs.Items.{shows_more}
use Rattle.slink_feed.specs.Intake.{is_of_station, places_of, pushed}
use Rattle.slink_feed.proofs.Intakes.{places_pushed}
use Rattle.slink_live.specs.Input.{fed}
use Rattle.slink_live.specs.Slices.{is_first, records_at}
use Rattle.std.proofs.lemmas.Option.{same_Some}

abbrev one_if : Bool → List ℕ → List (List ℕ)
one_if t r = if t then r ∷ [] else []

-- a ring of these shows these records
abbrev ShowsAt : Option Window → ℕ → List (List ℕ) → Type 0
ShowsAt o first records = (v : Window) × (o ≡ Some v) × Shows v first records

-- one record comes to the rings
shows_first : (t : Bool) (v : Window) (ws : List Window) (r : List ℕ) (k first : ℕ) (w : Window)
    (xs : List (List ℕ)) → slice_get (v ∷ ws) k ≡ Some w → Shows w first xs → is_of_station v.place r ≡ t
    → ((j : ℕ) → slice_get ws j ≡ Some w
    → ShowsAt (slice_get (pushed ws r) j) first (xs ++ one_if (is_first j (places_of ws) r) r))
    → ShowsAt (slice_get (if t then with_record v r ∷ ws else v ∷ pushed ws r) k) first
    (xs ++ one_if (is_first k (places_of (v ∷ ws)) r) r)
shows_first true v ws r zero first w xs here s is on =
    rw is (with_record v r, refl, shows_more v first xs r (rw (same_Some v w here) s))
shows_first true v ws r (suc k) first w xs here s is on = rw (is, append-nil xs) (w, here, s)
shows_first false v ws r zero first w xs here s is on = rw (is, append-nil xs) (w, here, s)
shows_first false v ws r (suc k) first w xs here s is on = rw is (on k here)

shows_pushed : (feed : List Window) (r : List ℕ) (k first : ℕ) (w : Window) (xs : List (List ℕ))
    → slice_get feed k ≡ Some w → Shows w first xs
    → ShowsAt (slice_get (pushed feed r) k) first (xs ++ one_if (is_first k (places_of feed) r) r)
shows_pushed [] r k first w xs here s = absurd (let bad : None ≡ Some w = here in cc bad)
shows_pushed (v ∷ ws) r k first w xs here s =
    shows_first (is_of_station v.place r) v ws r k first w xs here s refl (λ j e. shows_pushed ws r j first w xs e s)

filter_one : (t : Bool) (r : List ℕ) (xs : List (List ℕ)) → one_if t r ++ xs ≡ (if t then r ∷ xs else xs)
filter_one true r xs = refl
filter_one false r xs = refl

-- records come
pub shows_fed : (feed : List Window) (rs : List (List ℕ)) (k first : ℕ) (w : Window) (xs : List (List ℕ))
    → slice_get feed k ≡ Some w → Shows w first xs
    → (v : Window) × (slice_get (fed feed rs) k ≡ Some v) × Shows v first (xs ++ records_at k (places_of feed) rs)
shows_fed feed [] k first w xs here s = (w, here, rw append-nil s)
shows_fed feed (r ∷ rs) k first w xs here s =
    let t : Bool = is_first k (places_of feed) r in
    let one = shows_pushed feed r k first w xs here s in
    let rest = shows_fed (pushed feed r) rs k first one.0 (xs ++ one_if t r) one.1 one.2 in (
      rest.0,
      rest.1,
      subst (Shows rest.0 first) (append_assoc xs (one_if t r) (records_at k (places_of (pushed feed r)) rs)
          ∙ ap (λ y. xs ++ y) (ap (λ ps. one_if t r ++ records_at k ps rs) (places_pushed feed r)
          ∙ filter_one t r (records_at k (places_of feed) rs))) rest.2,
    )
