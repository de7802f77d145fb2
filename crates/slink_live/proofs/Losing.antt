-- What is no longer in the ring.
use Rattle.std.proofs.Common.{◌≡◌, ℕ, ◌≤◌, ◌<◌, ◌⊎◌, ◌∙◌, ap, refl, sym, arith, inl, inr, List}
use Rattle.std.proofs.Common.{Option, Some, None, option_map, slice_get, length}
use Rattle.std.proofs.lemmas.Option.{none-some, slice_get_within, same_Some}
use Rattle.slink_feed.specs.declared.grant.Grant.{Grant}
use Rattle.slink_feed.specs.declared.session.Phase.TheVariants.{Closed, Streaming}
use Rattle.slink_feed.specs.Session.{Grants, IsWaiting, State, grant_at}
use Rattle.slink_feed.specs.Window.{Window, oldest_of}
use Rattle.slink_feed.proofs.Waits.{sends_here}
use Rattle.slink_live.specs.Awake.{HasLeft, IsLost}

-- the position of a grant, where there is one
abbrev position_of : Option Grant → Option ℕ
position_of o = option_map (λ (g : Grant). g.position) o

granted_by : (o : Option Grant) (n : ℕ) → position_of o ≡ Some n → (g : Grant) × (o ≡ Some g) × (g.position ≡ n)
granted_by None n e = absurd (none-some n e)
granted_by (Some g) n e = (g, refl, same_Some g.position n e)

module _ (feed : List Window) (grants : Grants) (k : ℕ) where
  pub has_left : {n : ℕ} (w : Window) → position_of (grant_at grants k) ≡ Some n → slice_get feed k ≡ Some w
      → n < oldest_of w → HasLeft feed grants k
  has_left {n} w granted here lt =
      let g = granted_by (grant_at grants k) n granted in
      record { ring = w; grant = g.0; there = here; granted = g.1; left = omega (arith, g.2, lt) }

  pub has_not_left : {n : ℕ} (w : Window) → position_of (grant_at grants k) ≡ Some n → slice_get feed k ≡ Some w
      → oldest_of w ≤ n → ¬ (HasLeft feed grants k)
  has_not_left {n} w granted here le x =
      let g = granted_by (grant_at grants k) n granted in
      let same = ap (λ (y : Grant). y.position) (same_Some g.0 x.grant (sym g.1 ∙ x.granted)) in
      omega (arith, le, g.2, x.left, same, ap oldest_of (same_Some w x.ring (sym here ∙ x.there)))

  pub none_left : position_of (grant_at grants k) ≡ None → ¬ (HasLeft feed grants k)
  none_left none x = none-some x.grant.position (sym none ∙ ap position_of x.granted)

-- where nothing is due, none has left
pub rested_not_lost : (feed : List Window) (s : State) → IsWaiting feed s ⊎ (s.phase ≡ Closed) → ¬ (IsLost feed s)
rested_not_lost feed s (inl waits) lost =
    let x : HasLeft feed s.grants lost.k = lost.place in
    let within : lost.k < length feed = slice_get_within feed lost.k x.ring x.there in
    sends_here feed s lost.k lost.streams within
    (λ at. omega (arith, at x.grant x.ring x.granted x.there, x.left)) (waits lost.k within)
rested_not_lost feed s (inr shut) lost = let bad : Closed ≡ Streaming = sym shut ∙ lost.streams in cc bad
