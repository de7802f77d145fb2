-- What the link of one session takes in its steps.
use Rattle.std.specs.Prelude.{◌≡◌, ◌≢◌, ℕ, List, [], ◌∷◌, ◌++◌, take, Some, None, slice_get}
use Rattle.mseed_stream.specs.Device.{BytesRead}
use Rattle.slink_feed.specs.declared.grant.Grant.{Grant}
use Rattle.slink_feed.specs.declared.session.Phase.TheVariants.{Closed}
use Rattle.slink_feed.specs.declared.turn.LinkFault.{LinkFault}
use Rattle.slink_feed.specs.declared.turn.Turn.{Turn}
use Rattle.slink_feed.specs.Attending.{Attends, IsServeFault}
use Rattle.slink_feed.specs.Rounds.{Attending}
use Rattle.slink_feed.specs.Sending.{AreCalled, Called, IsSlice, packets_of}
use Rattle.slink_feed.specs.Session.{State, grant_at, sent_bytes}
use Rattle.slink_feed.specs.Window.{Shows, Window}

-- Turns one after another, each with the feed as it then stands.
pub data TakesTurns : Attending → List (List Window) → Attending → Type 0 where
  no_turn : (a : Attending) → TakesTurns a [] a
  turn_taken : (a now b : Attending) (feed : List Window) (feeds : List (List Window)) (before after : BytesRead)
      (turn : Turn)
      → Attends feed a now before after turn → TakesTurns now feeds b → TakesTurns a (feed ∷ feeds) b

-- In the last of them the link failed.
pub data FailsInTurn : Attending → List (List Window) → Attending → Type 0 where
  fails_now : (a b : Attending) (feed : List Window) (before after : BytesRead) (fault : LinkFault)
      → IsServeFault feed a b before after fault → FailsInTurn a (feed ∷ []) b
  fails_later : (a now b : Attending) (feed : List Window) (feeds : List (List Window)) (before after : BytesRead)
      (turn : Turn)
      → Attends feed a now before after turn → FailsInTurn now feeds b → FailsInTurn a (feed ∷ feeds) b

-- At each step the ring of the station shows the last of the records that were pushed so far, which are a prefix of
-- these.
abbrev pub ShowPushed : ℕ → ℕ → List (List ℕ) → List (List Window) → Type 0
ShowPushed k first pushed [] = Unit {0}
ShowPushed k first pushed (feed ∷ feeds) =
    ((w : Window) × (n : ℕ) × (slice_get feed k ≡ Some w) × Shows w first (take n pushed))
    × ShowPushed k first pushed feeds

-- the bytes of what was sent, one after another
abbrev pub bytes_sent : List Called → List ℕ
bytes_sent [] = []
bytes_sent (a ∷ more) = sent_bytes a.answer ++ bytes_sent more

-- In these steps a session sent these bytes, of packets, and `END` where all that was requested was sent: the packets
-- of
-- each station that has a grant are those of a slice of its pushed records from the grant on, and there is none of any
-- other station.
pub record SendsSlices (feeds : List (List Window)) (s : State) (bytes : List ℕ) : Type 0 where
  pub called : List Called
  pub are_called : AreCalled s called
  pub bytes_are : bytes ≡ bytes_sent called
  pub slice : (k first : ℕ) (pushed : List (List ℕ)) (g : Grant) → grant_at s.grants k ≡ Some g
      → ShowPushed k first pushed feeds → IsSlice first pushed g.position (packets_of k called)
  pub none : (k : ℕ) → grant_at s.grants k ≡ None → packets_of k called ≡ []

-- Two steps came to the same: the session stands so, and the link accepted the same bytes. What a session holds that is
-- closed makes no difference.
pub record AreAlike (a b : Attending) : Type 0 where
  pub state : a.session.state ≡ b.session.state
  pub held : a.session.state.phase ≢ Closed → a.session.held ≡ b.session.held
  pub bytes : a.written.bytes ≡ b.written.bytes
  pub failures : a.written.failures ≡ b.written.failures

-- Two steps left the session in the same state, and the link accepted the same bytes.
pub record EmittedAlike (a b : Attending) : Type 0 where
  pub state : a.session.state ≡ b.session.state
  pub bytes : a.written.bytes ≡ b.written.bytes
  pub failures : a.written.failures ≡ b.written.failures
