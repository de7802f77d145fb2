-- The rings, record after record.
use Rattle.std.proofs.Common.{◌≡◌, ℕ, suc, ◌+◌, ◌≤◌, ◌⊎◌, ◌∙◌, ap, refl, sym, arith, Bool, true, false}
use Rattle.std.proofs.Common.{inl, inr, List, [], ◌∷◌, ◌++◌, length, set, Some, slice_get, if◌then◌else◌}
use Rattle.slink_feed.specs.Intake.{is_of_station, places_of, pushed}
use Rattle.slink_feed.specs.Session.{Fits, State}
use Rattle.slink_feed.specs.Window.{Window, with_record}
use Rattle.slink_feed.proofs.Fitting.{fits_pushed}
use Rattle.slink_feed.proofs.Intakes.{places_pushed}
use Rattle.slink_feed.proofs.Items.{get_here, get_there}
use Rattle.slink_live.specs.Input.{fed}
use Rattle.slink_live.specs.Served.{IsBelow}
use Rattle.std.proofs.lemmas.Bool.Decides.{eqb_tells}
use Rattle.std.proofs.lemmas.Option.{same_Some, slice_get_within}

-- the stations stay
pub places_fed : (feed : List Window) (records : List (List ℕ)) → places_of (fed feed records) ≡ places_of feed
places_fed feed [] = refl
places_fed feed (r ∷ rs) = places_fed (pushed feed r) rs ∙ places_pushed feed r

pub fed_append : (feed : List Window) (rs more : List (List ℕ)) → fed feed (rs ++ more) ≡ fed (fed feed rs) more
fed_append feed [] more = refl
fed_append feed (r ∷ rs) more = fed_append (pushed feed r) rs more

pub below_more : (m n : ℕ) (feed : List Window) → m ≤ n → IsBelow m feed → IsBelow n feed
below_more m n feed le below k w there = omega (arith, le, below k w there)

-- The first ring of its station takes a record, if there is one.
abbrev pub PushedOnce : List Window → List Window → List ℕ → Type 0
PushedOnce feed new r = (new ≡ feed)
    ⊎ ((k : ℕ) × (w : Window) × (slice_get feed k ≡ Some w) × (new ≡ set feed k (with_record w r)))

once_if : (t : Bool) (v : Window) (ws xs : List Window) (r : List ℕ) → PushedOnce ws xs r
    → PushedOnce (v ∷ ws) (if t then with_record v r ∷ ws else v ∷ xs) r
once_if true v ws xs r o = inr (0, v, refl, refl)
once_if false v ws xs r (inl e) = inl (ap (λ ys. v ∷ ys) e)
once_if false v ws xs r (inr e) = inr (suc e.0, e.1, e.2, ap (λ ys. v ∷ ys) e.3)

pub pushed_once : (feed : List Window) (r : List ℕ) → PushedOnce feed (pushed feed r) r
pushed_once [] r = inl refl
pushed_once (v ∷ ws) r = once_if (is_of_station v.place r) v ws (pushed ws r) r (pushed_once ws r)

-- numbers go up by one
once_below : (n : ℕ) (feed new : List Window) (r : List ℕ) → PushedOnce feed new r → IsBelow n feed
    → IsBelow (n + 1) new
once_below n feed new r (inl e) below = rw e (below_more n (n + 1) feed (omega arith) below)
once_below n feed new r (inr e) below = rw e.3 (λ j v there. elim (eqb_tells j e.0) [
  | inl same ↦ let one : with_record e.1 r ≡ v = same_Some _ v (sym (get_here feed e.0 (with_record e.1 r)
      (slice_get_within feed e.0 e.1 e.2)) ∙ rw same.1 at there) in
      omega (arith, below e.0 e.1 e.2, ap (λ (y : Window). y.next) one)
  | inr other ↦ omega (arith, below j v (sym (get_there feed e.0 j (with_record e.1 r) other.1) ∙ there))
])

once_fits : (feed new : List Window) (r : List ℕ) (s : State) → PushedOnce feed new r → Fits feed s → Fits new s
once_fits feed new r s (inl e) fits = rw e fits
once_fits feed new r s (inr e) fits = fits_pushed feed new e.0 e.1 r s e.2 e.3 fits

-- each record takes the numbers up by one at most
pub below_fed : (n : ℕ) (feed : List Window) (rs : List (List ℕ)) → IsBelow n feed
    → IsBelow (n + length rs) (fed feed rs)
below_fed n feed [] below k w there = omega (arith, below k w there)
below_fed n feed (r ∷ rs) below k w there = omega (
  arith,
  below_fed (n + 1) (pushed feed r) rs
      (once_below n feed (pushed feed r) r (pushed_once feed r) below) k w there,
)

-- a session that these rings serve is served on
pub fits_fed : (feed : List Window) (rs : List (List ℕ)) (s : State) → Fits feed s → Fits (fed feed rs) s
fits_fed feed [] s fits = fits
fits_fed feed (r ∷ rs) s fits =
    fits_fed (pushed feed r) rs s (once_fits feed (pushed feed r) r s (pushed_once feed r) fits)
