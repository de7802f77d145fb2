-- What a session sends of which a packet of one station after another is requested, round and round.
use Rattle.std.specs.Prelude.{◌≡◌, ℕ, ◌+◌, ◌≤◌, ◌==◌, ◌⊎◌, List, [], ◌∷◌, ◌++◌, length, replicate, if◌then◌else◌}
use Rattle.mseed_stream.specs.Device.{BytesWritten}
use Rattle.slink_feed.specs.declared.session.Phase.TheVariants.{Closed}
use Rattle.slink_feed.specs.declared.session.Sent.{Sent}
use Rattle.slink_feed.specs.declared.session.Sent.TheVariants.{Wait}
use Rattle.slink_feed.specs.Serving.{SessionState}
use Rattle.slink_feed.specs.Session.{State, sent, sent_bytes}
use Rattle.slink_feed.specs.Turns.{Emitted, EmittedPrefix}
use Rattle.slink_feed.specs.Window.{Window}

-- the station after another; after the last station the first one
abbrev pub place_after : List Window → ℕ → ℕ
place_after feed k = if k + 1 == length feed then 0 else k + 1

-- Called for a packet of this station, then of the one after it, and so on, a session gives these. It comes to the
-- other station and state.
abbrev pub Gives : List Window → ℕ → State → List Sent → ℕ → State → Type 0
Gives feed k s [] last new = (last ≡ k) × (new ≡ s)
Gives feed k s (a ∷ more) last new =
    ((sent feed s k).1 ≡ a) × Gives feed (place_after feed k) (sent feed s k).0 more last new

-- the bytes of all that is given
abbrev pub all_sent : List Sent → List ℕ
all_sent [] = []
all_sent (a ∷ more) = sent_bytes a ++ all_sent more

-- In the last `n` asks there was nothing to give.
abbrev pub HasWaited : ℕ → List Sent → Type 0
HasWaited n given = (before : List Sent) × (given ≡ before ++ replicate n Wait)

-- a session with what its link accepted so far
pub record Attending : Type 0 where
  pub session : SessionState
  pub written : BytesWritten

-- A session was called from the first station on, until it is closed or a whole round of the stations gives nothing.
-- All that it gave was written.
pub record SendsAll (feed : List Window) (old new : Attending) : Type 0 where
  pub given : List Sent
  pub place : ℕ
  pub gives : Gives feed 0 old.session.state given place new.session.state
  pub ends : (new.session.state.phase ≡ Closed) ⊎ HasWaited (length feed) given
  pub held : new.session.held ≡ old.session.held
  pub written : Emitted old.written new.written (all_sent given)

-- The link failed within the last that it gave, once it had taken `count` bytes. The session stands after that.
pub record FailsToSend (feed : List Window) (old new : Attending) (count : ℕ) : Type 0 where
  pub given : List Sent
  pub last : Sent
  pub place : ℕ
  pub gives : Gives feed 0 old.session.state (given ++ last ∷ []) place new.session.state
  pub held : new.session.held ≡ old.session.held
  pub written : EmittedPrefix old.written new.written (all_sent (given ++ last ∷ [])) count
  pub beyond : length (all_sent given) ≤ count
