-- The rings of a world while steps happen.
use Rattle.std.proofs.lemmas.List.{drop_more}
use Rattle.std.proofs.lemmas.Option.{slice_get-get_or}
use Rattle.std.proofs.Common.{◌∙◌}
use Rattle.slink_model.specs.Counted.{shown_of}
use Rattle.slink_model.proofs.Pushed.{IsShown, ring_at, rings_long}
use Rattle.std.proofs.Common.{◌≡◌, ℕ, ◌+◌, ◌^◌, ◌<◌, ◌≤◌, inl, inr, zero, suc, refl, sym, ap, arith, List}
use Rattle.std.proofs.Common.{[], ◌∷◌, length, map, get_or, take, drop, Option, Some, None, IfSome, slice_get}
use Rattle.slink_wire.specs.Place.{Fields}
use Rattle.slink_model.specs.declared.world.Setup.{Setup}
use Rattle.slink_model.specs.declared.world.Step.{Step}
use Rattle.slink_model.specs.declared.world.Step.TheVariants.{Append, Send}
use Rattle.slink_feed.specs.Rings.{HasPlace}
use Rattle.slink_feed.specs.Session.{Fits, State}
use Rattle.slink_model.specs.Running.{IsPossible, IsServing}
use Rattle.slink_feed.specs.Window.{Window}
use Rattle.slink_model.specs.World.{AllHappen, Differ, Happens, IsOf, LinkState, WorldState, empty_window}

module _ {X : Type 0} where
  get_prefix : (xs : List X) (n j : ℕ) (x : X) → slice_get (take n xs) j ≡ Some x → (j < n) × (slice_get xs j ≡ Some x)
  get_prefix [] zero j x is = absurd (let bad : None ≡ Some x = is in cc bad)
  get_prefix [] (suc n) j x is = absurd (let bad : None ≡ Some x = is in cc bad)
  get_prefix (y ∷ ys) zero j x is = absurd (let bad : None ≡ Some x = is in cc bad)
  get_prefix (y ∷ ys) (suc n) zero x is = (omega arith, is)
  get_prefix (y ∷ ys) (suc n) (suc j) x is = let more : (j < n) × (slice_get ys j ≡ Some x) = get_prefix ys n j x is in
      (omega (arith, more.0), more.1)

-- the rings of a setup
has_place : (setup : Setup) (ps : List (Fields × Option ℕ)) (place : Fields)
    → HasPlace (map (empty_window setup) ps) place → (j : ℕ) × (q : Fields × Option ℕ) × (slice_get ps j ≡ Some q)
    × (q.0 ≡ place)
has_place setup [] place has = absurd has
has_place setup (p ∷ ps) place (inl same) = (zero, p, refl, same)
has_place setup (p ∷ ps) place (inr more) =
    let there = has_place setup ps place more in
    (suc there.0, there.1, there.2, there.3)

pub no_double : (setup : Setup) (places : List (Fields × Option ℕ)) (i : ℕ) (p : Fields × Option ℕ) → Differ places
    → slice_get places i ≡ Some p → HasPlace (map (empty_window setup) (take i places)) p.0 → ⊥
no_double setup places i p differ is has =
    let there = has_place setup (take i places) p.0 has in
    let prefix = get_prefix places i there.0 there.1 there.2 in
    let same : there.0 ≡ i = differ there.0 i there.1 p prefix.1 is there.3 in
    omega (arith, prefix.0, same)

-- a step that names one of the stations can happen
pub possible : (setup : Setup) (w : WorldState) (n : ℕ) (step : Step) → IsShown setup w
    → ((k : ℕ) → length (get_or w.pushed k []) ≤ n) → setup.first < 2 ^ 24 → n < 2 ^ 40
    → IsOf setup.places.items step → IsPossible w.windows step
possible setup w n (Append k bytes) shown few first small of = (
  shown_of setup of.0 (get_or w.pushed k []),
  ring_at setup w k of.0 shown of.1,
  of.2,
  omega (arith, few k, first, small),
)
possible setup w n (Send k) shown few first small of = omega (arith, of, rings_long setup w shown)
possible setup w n step shown few first small of = tt

pub happens_more : (w u last : WorldState) (steps : List Step) (i : ℕ) (d : Step) → i < length steps
    → Happens w (get_or steps i d) u → AllHappen u (drop (i + 1) steps) last → AllHappen w (drop i steps) last
happens_more w u last steps i d lt happens more = rw (drop_more steps i d lt) (u, happens, more)

pub got : (places : List (Fields × Option ℕ)) (i : ℕ) (p : Fields × Option ℕ) → i < length places
    → p ≡ get_or places i p → slice_get places i ≡ Some p
got places i p lt is = slice_get-get_or places i p lt ∙ ap (λ x. Some x) (sym is)

-- The feed goes on, and fits whatever it fitted.
pub serving_on : (feed new : List Window) (link : Option LinkState) → ((s : State) → Fits feed s → Fits new s)
    → IfSome link (IsServing feed) → IfSome link (IsServing new)
serving_on feed new None fits serving = tt
serving_on feed new (Some l) fits serving = fits l.session.state serving
