-- What is answered to a client that requests the number which it wants next.
use Rattle.std.specs.Prelude.{◌≡◌, ℕ, ◌+◌, ◌⊎◌, [], ◌++◌, length, Some, slice_get, slice_index_or}
use Rattle.slink_wire.specs.declared.reply.Reply.{Reply}
use Rattle.slink_wire.specs.Reply.{reply_bytes}
use Rattle.slink_feed.specs.declared.dialogue.Stage.TheVariants.{Number}
use Rattle.slink_feed.specs.declared.grant.Grant.{Grant}
use Rattle.slink_feed.specs.Dialogue.{next_at}
use Rattle.slink_feed.specs.Listening.{IsLinked}
use Rattle.slink_feed.specs.Session.{called, grant_at, granted}
use Rattle.slink_model.specs.Slice.{resumed}
use Rattle.slink_feed.specs.Window.{Window}
use Rattle.slink_model.specs.World.{LinkState, WorldState, number_at}

-- The client awaits the answer to its DATA or FETCH of a station, and none is on its way.
abbrev pub Awaits : WorldState → LinkState → ℕ → Type 0
Awaits w l k = (w.client.talk.stage ≡ Number k) × (w.client.kept ++ l.to_client ≡ [])

-- The line hasn't come yet.
abbrev pub IsUnanswered : LinkState → LinkState → Type 0
IsUnanswered l m = (m.session.state ≡ l.session.state) × (m.to_client ≡ [])

-- The line has come, and was answered by the number that the client wants next. Where something is held of the station,
-- the
-- answer is the grant of the record after the last one held, where there is that grant, and else the refusal.
pub record IsAnswered (w : WorldState) (k : ℕ) (l m : LinkState) : Type 0 where
  pub reply : Reply
  pub written : m.to_client ≡ reply_bytes reply
  pub number : called w.windows k w.client.talk.mode (next_at w.client.talk.wants k) l.session.state ≡ (
    m.session.state,
    reply,
  )
  pub beyond : (start : ℕ) (ring : Window) → number_at w.start k ≡ Some start → slice_get w.windows k ≡ Some ring
      → granted w.client.talk.mode k (resumed ring (start + length (slice_index_or w.held k []))) l.session.state
      ≡ (m.session.state, reply)

-- So are all stations answered by bytes that come to the server, and a station has a grant by no other way.
pub record AreAnswered (w : WorldState) (l m : LinkState) : Type 0 where
  pub answered : (k : ℕ) → Awaits w l k → IsUnanswered l m ⊎ IsAnswered w k l m
  pub only : (k : ℕ) (g : Grant) → IsLinked w.client.talk.stage → grant_at m.session.state.grants k ≡ Some g
      → (grant_at l.session.state.grants k ≡ Some g) ⊎ (Awaits w l k × IsAnswered w k l m)
