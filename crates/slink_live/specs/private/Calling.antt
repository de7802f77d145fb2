-- What one event does to one slot.
use Rattle.std.specs.Prelude.{◌≡◌, ℕ, ◌+◌, ◌⊎◌, Bool, List, [], ◌∷◌, ◌++◌, drop, take, length, Option, Some, None}
use Rattle.std.specs.Prelude.{not, set}
use Rattle.slink_wire.specs.declared.packet.TheConstants.{PACKET}
use Rattle.slink_feed.specs.declared.session.Phase.TheVariants.{Closed}
use Rattle.slink_feed.specs.declared.session.Sent.{Sent}
use Rattle.slink_feed.specs.declared.session.Sent.TheVariants.{Wait}
use Rattle.slink_feed.specs.Serving.{Serves}
use Rattle.slink_feed.specs.Session.{Fits, IsWaiting, sent, sent_bytes}
use Rattle.slink_feed.specs.Window.{Window}
use Rattle.slink_live.specs.declared.link.Update.{Update}
use Rattle.slink_live.specs.declared.link.Update.TheVariants.{Empty, Wants, Closes}
use Rattle.slink_live.specs.Awake.{IsClosable, IsLost, IsUpToDate}
use Rattle.slink_live.specs.Happening.{Happening, Received, Emitted, Handed}
use Rattle.slink_live.specs.Happening as happenings
use Rattle.slink_live.specs.Served.{LinkState, ServerState, link_state}
use Rattle.slink_live.specs.History.{Asks}

-- The link in a slot was read, and its session answered.
abbrev pub HasReceived : List Window → ℕ → Option LinkState → Option LinkState → List Happening → List Happening
    → Type 0
HasReceived feed k None new log last = (new ≡ None) × (last ≡ log)
HasReceived feed k (Some l) new log last = (bytes : List ℕ) × (now : LinkState) × (new ≡ Some now)
    × (last ≡ log ++ Received k bytes ∷ []) × Serves feed l.session bytes l.pending now.session now.pending
    × Fits feed now.session.state × (now.ring ≡ l.ring)

-- The link in a slot was handed all that waits for it, and accepted so many bytes.
abbrev pub HasTaken : ℕ → Option LinkState → Option LinkState → List Happening → List Happening → Type 0
HasTaken k None new log last = (new ≡ None) × (last ≡ log)
HasTaken k (Some l) new log last = (n : ℕ) × (new ≡ Some (link_state l.session l.ring (drop n l.pending)))
    × (last ≡ (log ++ Handed k l.pending ∷ []) ++ Emitted k (take n l.pending) ∷ [])

-- A session was called for a station, and what it gave goes on its way: a packet, or what closes it.
pub record Gives (feed : List Window) (k : ℕ) (old new : LinkState) : Type 0 where
  pub answer : Sent
  pub sends : ¬ (sent feed old.session.state k ≡ (old.session.state, Wait))
  pub given : sent feed old.session.state k ≡ (new.session.state, answer)
  pub held : new.session.held ≡ old.session.held
  pub ring : new.ring ≡ k + 1
  pub pending : new.pending ≡ old.pending ++ sent_bytes answer
  pub grows : (new.session.state.phase ≡ Closed) ⊎ (length (sent_bytes answer) ≡ PACKET)

-- Nothing more is due to a link, and the next record of none of its stations has left its ring.
pub record IsRested (feed : List Window) (l : LinkState) : Type 0 where
  pub rests : IsWaiting feed l.session.state ⊎ (l.session.state.phase ≡ Closed)
  pub stays : ¬ (IsLost feed l.session.state)

abbrev pub IfRested : List Window → Option LinkState → Type 0
IfRested feed None = Unit {0}
IfRested feed (Some l) = IsRested feed l

-- Packets were requested of the session of the link in a slot.
abbrev pub HasFilled : List Window → Option LinkState → Option LinkState → Type 0
HasFilled feed None new = new ≡ None
HasFilled feed (Some l) new = (now : LinkState) × (new ≡ Some now)
    × Asks feed l.session l.ring l.pending now.session now.ring now.pending × Fits feed now.session.state

-- What comes of it: no link stands there; it stands, and this is wanted of it; or it is to be closed.
abbrev pub IsOutcome : List Window → Bool → Option LinkState → Update → Type 0
IsOutcome feed has_ended None Empty = Unit {0}
IsOutcome feed has_ended (Some l) (Wants interest) = IsUpToDate feed has_ended l interest
IsOutcome feed has_ended (Some l) Closes = IsClosable feed has_ended l
IsOutcome feed has_ended o update = ⊥

-- What was to be done with the link in a slot was done: what is wanted of it was reported to the device, or it was
-- closed.
abbrev pub IsDone : Update → ℕ → ServerState → ServerState → List Happening → List Happening → Type 0
IsDone Empty k old new log last = (new ≡ old) × (last ≡ log)
IsDone (Wants interest) k old new log last = (new ≡ old) × (last ≡ log ++ happenings.Wants k interest ∷ [])
IsDone Closes k old new log last = (new ≡ record old { links = set old.links k None })
    × (last ≡ (log ++ happenings.Gone k ∷ []) ++ happenings.WantsLinks (not old.has_ended) ∷ [])
