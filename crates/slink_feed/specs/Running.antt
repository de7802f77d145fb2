-- A session that runs.
use Rattle.std.specs.Prelude.{◌≡◌, ℕ, List, false}
use Rattle.slink_wire.specs.Lines.{IsHeld}
use Rattle.slink_feed.specs.declared.session.Phase.TheVariants.{Closed}
use Rattle.slink_feed.specs.Serving.{SessionState}

-- The session stands for a stream of bytes, unless it is closed.
abbrev pub HasStream : SessionState → Type 0
HasStream s = (stream : List ℕ) × (¬ (s.state.phase ≡ Closed) → IsHeld s.held stream)

-- A session that isn't closed stands for some stream, none of whose lines is too long.
abbrev pub StandsFor : SessionState → List ℕ → Type 0
StandsFor s stream = IsHeld s.held stream × (s.held.is_too_long ≡ false)

abbrev pub Stands : SessionState → Type 0
Stands s = ¬ (s.state.phase ≡ Closed) → (stream : List ℕ) × StandsFor s stream
