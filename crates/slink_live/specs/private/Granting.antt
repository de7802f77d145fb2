-- Which stations concern a link.
use Rattle.std.specs.Prelude.{◌≡◌, ◌<◌, ℕ, List, Option, Some, None, get_or, length, set, slice_get}
use Rattle.std.specs.Int.{bit_at}
use Rattle.slink_wire.specs.declared.limits.TheConstants.{STATIONS}
use Rattle.slink_feed.specs.declared.grant.Grant.{Grant}
use Rattle.slink_feed.specs.declared.session.Phase.TheVariants.{Streaming}
use Rattle.slink_feed.specs.Session.{IsAtNext, State, grant_at}
use Rattle.slink_feed.specs.Window.{Window}
use Rattle.slink_live.specs.declared.places.Places.{Places}
use Rattle.slink_live.specs.Served.{LinkState}

-- The station is one of these.
abbrev pub Has : Places → ℕ → Type 0
Has places k = bit_at places.bits k ≡ 1

abbrev pub no_places : Places
no_places = record { bits = 0 }

-- Once a link streams, it is sent records of these stations alone.
abbrev pub Covers : Places → LinkState → Type 0
Covers places l = l.session.state.phase ≡ Streaming → (k : ℕ) (g : Grant)
    → grant_at l.session.state.grants k ≡ Some g → Has places k

abbrev pub CoversIn : Places → Option LinkState → Type 0
CoversIn places o = (l : LinkState) → o ≡ Some l → Covers places l

-- For each slot there are stations, and the link in it is sent records of those alone.
pub record AreCovered (links : List (Option LinkState)) (granted : List Places) : Type 0 where
  pub count : length granted ≡ length links
  pub each : (k : ℕ) → CoversIn (get_or granted k no_places) (get_or links k None)

-- A link that streams is sent no records of these stations.
abbrev pub LeavesOut : Places → Option LinkState → Type 0
LeavesOut places o = (l : LinkState) → o ≡ Some l → l.session.state.phase ≡ Streaming → (k : ℕ) (g : Grant)
    → grant_at l.session.state.grants k ≡ Some g → ¬ (Has places k)

-- The link in a slot became another, and the other slots stay.
pub record Changes (j : ℕ) (P : Option LinkState → Option LinkState → Type 0) (old new : List (Option LinkState)) : Type
    0 where
  pub link : Option LinkState
  pub happened : P (get_or old j None) link
  pub is : new ≡ set old j link

-- Each ring stays but those of these stations.
abbrev pub StaysBut : Places → List Window → List Window → Type 0
StaysBut places old new = (k : ℕ) → ¬ (Has places k) → slice_get new k ≡ slice_get old k

-- Each ring stays but those of stations that were added to some.
abbrev pub StaysBeside : Places → Places → List Window → List Window → Type 0
StaysBeside places all old new = (k : ℕ) → ¬ (Has all k) → ¬ (Has places k) × (slice_get new k ≡ slice_get old k)

-- A session streams, and these are the stations, of the first ones, that have a record due, or had one, which left its
-- ring.
pub record AreDue (feed : List Window) (s : State) (due : Places) (n : ℕ) : Type 0 where
  pub streams : s.phase ≡ Streaming
  pub within : (k : ℕ) → Has due k → (k < n) × (k < STATIONS)
  pub ready : (k : ℕ) → Has due k → ¬ (IsAtNext feed s.grants k)
  pub rest : (k : ℕ) → k < n → ¬ (Has due k) → IsAtNext feed s.grants k
