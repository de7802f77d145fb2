-- No station of a link is passed over.
use Rattle.std.specs.Prelude.{◌≡◌, ◌≢◌, ℕ, ◌+◌, ◌<◌, ◌⊎◌, List, [], ◌∷◌, Some, slice_get}
use Rattle.slink_wire.specs.declared.lines.LineOutcome.{LineOutcome}
use Rattle.slink_wire.specs.declared.reply.Reply.{Reply}
use Rattle.slink_feed.specs.declared.grant.Grant.{Grant}
use Rattle.slink_feed.specs.declared.session.Phase.TheVariants.{Streaming}
use Rattle.slink_feed.specs.declared.session.Sent.{Sent}
use Rattle.slink_feed.specs.Serving.{IsAnswer}
use Rattle.slink_feed.specs.Session.{State, grant_at, sent}
use Rattle.slink_feed.specs.Window.{Window}
use Rattle.slink_live.specs.History.{IsTurn}
use Rattle.slink_live.specs.Input.{fed}

-- The stations for which a session is called one after another, each when its turn comes.
pub data TakesTurns (feed : List Window) : State → ℕ → List ℕ → State → ℕ → Type 0 where
  no_more : (s : State) (ring : ℕ) → TakesTurns feed s ring [] s ring
  next_called : (s now last : State) (ring turn k : ℕ) (answer : Sent) (more : List ℕ) → IsTurn feed s ring k
      → sent feed s k ≡ (now, answer) → TakesTurns feed now (k + 1) more last turn
      → TakesTurns feed s ring (k ∷ more) last turn

-- The same while records come to the rings, and the session's link says what it says: from these rings, a state and the
-- station that is called next, to those.
pub data TakesTurnsOn : List Window → State → ℕ → List ℕ → List Window → State → ℕ → Type 0 where
  no_more_on : (feed : List Window) (s : State) (ring : ℕ) → TakesTurnsOn feed s ring [] feed s ring
  comes : (feed : List Window) (records : List (List ℕ)) (s : State) (last : List Window) (t : State) (ring turn : ℕ)
      (ks : List ℕ) → TakesTurnsOn (fed feed records) s ring ks last t turn → TakesTurnsOn feed s ring ks last t turn
  hears : (feed : List Window) (s now : State) (last : List Window) (t : State) (ring turn : ℕ) (ks : List ℕ)
      (what : LineOutcome) (reply : Reply) → IsAnswer feed s what now reply → TakesTurnsOn feed now ring ks last t turn
      → TakesTurnsOn feed s ring ks last t turn
  called_on : (feed : List Window) (s now : State) (last : List Window) (t : State) (ring turn k : ℕ) (answer : Sent)
      (ks : List ℕ) → IsTurn feed s ring k → sent feed s k ≡ (now, answer)
      → TakesTurnsOn feed now (k + 1) ks last t turn → TakesTurnsOn feed s ring (k ∷ ks) last t turn

-- A station has a record that is due.
pub record HasDue (feed : List Window) (s : State) (j : ℕ) : Type 0 where
  pub streams : s.phase ≡ Streaming
  pub grant : Grant
  pub ring : Window
  pub granted : grant_at s.grants j ≡ Some grant
  pub there : slice_get feed j ≡ Some ring
  pub beyond : grant.position ≢ ring.next

-- The record of a station that is to be sent next has come.
pub record HasNext (feed : List Window) (s : State) (j : ℕ) : Type 0 where
  pub streams : s.phase ≡ Streaming
  pub grant : Grant
  pub ring : Window
  pub granted : grant_at s.grants j ≡ Some grant
  pub there : slice_get feed j ≡ Some ring
  pub before : grant.position < ring.next

abbrev pub IsAmong : ℕ → List ℕ → Type 0
IsAmong j [] = ⊥
IsAmong j (k ∷ ks) = (j ≡ k) ⊎ IsAmong j ks
