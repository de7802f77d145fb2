-- A session over the stream of bytes that its link brought so far.
use Rattle.std.specs.Prelude.{◌≡◌, ℕ, List, [], ◌++◌, None, replicate}
use Rattle.slink_wire.specs.declared.command.Command.{Command}
use Rattle.slink_wire.specs.declared.lines.LineOutcome.{LineOutcome}
use Rattle.slink_wire.specs.declared.lines.LineOutcome.TheVariants.{More, Line, TooLong}
use Rattle.slink_wire.specs.declared.reply.Reply.{Reply}
use Rattle.slink_wire.specs.declared.reply.Reply.TheVariants as Replies
use Rattle.slink_wire.specs.Command.{IsCommand}
use Rattle.slink_wire.specs.Lines.{Held, IsHeld}
use Rattle.slink_wire.specs.Reply.{reply_bytes}
use Rattle.slink_wire.specs.Taking.{Yields}
use Rattle.slink_feed.specs.declared.session.Phase.TheVariants.{Closed, Fresh}
use Rattle.slink_feed.specs.Session.{State, answered, at, ended}
use Rattle.slink_feed.specs.Window.{Window}

-- where a session stands, and what is held of its stream
pub record SessionState : Type 0 where
  pub state : State
  pub held : Held

-- It is the session of a new connection: it has read nothing, and granted nothing.
pub record IsNew (s : SessionState) : Type 0 where
  pub state : s.state ≡ at Fresh (replicate 16 None)
  pub held : IsHeld s.held []

-- what it comes to that no line ended, that one did, or that one is too long
abbrev pub IsAnswer : List Window → State → LineOutcome → State → Reply → Type 0
IsAnswer feed s More new reply = (new ≡ s) × (reply ≡ Replies.Nothing)
IsAnswer feed s (Line line) new reply = (c : Command) × IsCommand line.items c × (answered feed s c ≡ (new, reply))
IsAnswer feed s TooLong new reply = ended s ≡ (new, reply)

-- The answer to what the one stream has beyond the other.
abbrev pub Answers : List Window → State → List ℕ → List ℕ → State → Reply → Type 0
Answers feed s before after new reply = (what : LineOutcome) × Yields what before after × IsAnswer feed s what new reply

-- Of `count` bytes the first `used` were taken: all of them, unless a line ended or is too long.
abbrev pub TakesWhole : List ℕ → List ℕ → ℕ → ℕ → Type 0
TakesWhole before after used count = (what : LineOutcome) × Yields what before after × (what ≡ More → used ≡ count)

-- A session takes bytes, of which the last may end a line, and replies. A closed one replies nothing.
pub record Takes (feed : List Window) (old : SessionState) (bytes : List ℕ) (new : SessionState)
    (reply : Reply) : Type 0 where  -- It stands for the stream that its link brought, whichever that is.
  pub held : (stream : List ℕ) → ¬ (old.state.phase ≡ Closed) → IsHeld old.held stream
      → IsHeld new.held (stream ++ bytes)
  pub answers : (stream : List ℕ) → ¬ (old.state.phase ≡ Closed) → IsHeld old.held stream
      → Answers feed old.state stream (stream ++ bytes) new.state reply
  pub closed : old.state.phase ≡ Closed → (reply ≡ Replies.Nothing) × (new ≡ old)

-- A session takes all of these bytes, piece by piece, and its replies go on their way.
pub data Serves (feed : List Window) : SessionState → List ℕ → List ℕ → SessionState → List ℕ → Type 0 where
  none_served : (s : SessionState) (way : List ℕ) → Serves feed s [] way s way
  piece_served : (s now last : SessionState) (bytes piece rest way all : List ℕ) (reply : Reply) → bytes ≡ piece ++ rest
      → Takes feed s piece now reply
      → Serves feed now rest (way ++ reply_bytes reply) last all → Serves feed s bytes way last all
