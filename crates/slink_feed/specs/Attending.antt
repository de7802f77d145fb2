-- A step of a session with its link: what is due is sent, or else one read is answered.
use Rattle.std.specs.Prelude.{◌≡◌, ◌≢◌, ℕ, ◌+◌, ◌≤◌, ◌<◌, List, [], ◌++◌, length}
use Rattle.mseed_stream.specs.Device.{BytesRead, BytesWritten}
use Rattle.slink_wire.specs.declared.reply.Reply.{Reply}
use Rattle.slink_wire.specs.Reply.{reply_bytes}
use Rattle.slink_feed.specs.declared.session.Phase.TheVariants.{Closed}
use Rattle.slink_feed.specs.declared.turn.LinkFault.{LinkFault}
use Rattle.slink_feed.specs.declared.turn.LinkFault.TheVariants as faults
use Rattle.slink_feed.specs.declared.turn.Turn.{Turn}
use Rattle.slink_feed.specs.declared.turn.Turn.TheVariants as turns
use Rattle.slink_feed.specs.Rounds.{Attending, FailsToSend, SendsAll}
use Rattle.slink_feed.specs.Serving.{Serves, SessionState, Takes}
use Rattle.slink_feed.specs.Turns.{EmittedPrefix, failed_once, read_once}
use Rattle.slink_feed.specs.Window.{Window}

-- A session accepted all of these bytes, line by line, and each reply was written.
pub record RepliesToAll (feed : List Window) (old new : Attending) (bytes : List ℕ) : Type 0 where
  pub serves : Serves feed old.session bytes old.written.bytes new.session new.written.bytes
  pub failures : new.written.failures ≡ old.written.failures

-- The link failed within the reply to the piece after a prefix of these bytes.
pub record FailsToReply (feed : List Window) (old new : Attending) (bytes : List ℕ) : Type 0 where
  pub prefix : List ℕ
  pub piece : List ℕ
  pub rest : List ℕ
  pub bytes_are : bytes ≡ prefix ++ piece ++ rest
  pub before : Attending
  pub replies : RepliesToAll feed old before prefix
  pub reply : Reply
  pub takes : Takes feed before.session piece new.session reply
  pub count : ℕ
  pub written : EmittedPrefix before.written new.written (reply_bytes reply) count

-- What is due was sent, and the session isn't closed by that.
pub record GoesOn (feed : List Window) (old new : Attending) : Type 0 where
  pub sends : SendsAll feed old new
  pub open_still : new.session.state.phase ≢ Closed

-- A step: the session is closed, so that nothing is read; or the link is at its end; or the bytes that it gave, at most
-- 512, are answered.
pub data Attends (feed : List Window) (old new : Attending) (before after : BytesRead) : Turn → Type 0 where
  is_closed : SendsAll feed old new → new.session.state.phase ≡ Closed → after ≡ before
      → Attends feed old new before after turns.Closed
  is_at_end : GoesOn feed old new → after ≡ read_once before [] → Attends feed old new before after turns.Closed
  replies : (now : Attending) (bytes : List ℕ) → GoesOn feed old now → after ≡ read_once before bytes
      → 0 < length bytes → length bytes ≤ 512
      → RepliesToAll feed now new bytes → Attends feed old new before after turns.Goes

-- A step in which the link failed: at a write of what was due, at the read, or at a write of a reply. The bytes that it
-- accepted in the step are counted.
pub data IsServeFault (feed : List Window) (old new : Attending) (before after : BytesRead) : LinkFault → Type 0 where
  at_send : (count : ℕ) → FailsToSend feed old new count → after ≡ before
      → IsServeFault feed old new before after (faults.Write count)
  at_read : GoesOn feed old new → after ≡ failed_once before → IsServeFault feed old new before after faults.Read
  at_reply : (count : ℕ) (now : Attending) (bytes : List ℕ) → GoesOn feed old now → after ≡ read_once before bytes
      → length bytes ≤ 512
      → FailsToReply feed now new bytes → length new.written.bytes ≡ length old.written.bytes + count
      → IsServeFault feed old new before after (faults.Write count)

-- a session with what its link accepted so far
abbrev pub attending : SessionState → BytesWritten → Attending
attending session written = record { session = session; written = written }
