-- What the parts of a session's step do.
use Rattle.std.specs.Prelude.{◌≡◌, ℕ, ◌+◌, ◌≤◌, List, length, slice_get}
use Rattle.std.specs.Option.{ForSome}
use Rattle.mseed_stream.specs.Device.{BytesWritten}
use Rattle.slink_feed.specs.declared.session.Sent.{Sent}
use Rattle.slink_feed.specs.declared.session.Sent.TheVariants as sents
use Rattle.slink_feed.specs.Attending.{FailsToReply}
use Rattle.slink_feed.specs.Rounds.{Attending, SendsAll}
use Rattle.slink_feed.specs.Session.{sent, sent_bytes}
use Rattle.slink_feed.specs.Turns.{Emitted, EmittedPrefix}
use Rattle.slink_feed.specs.Window.{Window}

-- After so many bytes these were written.
pub record IsWritten (old new : BytesWritten) (bytes : List ℕ) (before after : ℕ) : Type 0 where
  pub written : Emitted old new bytes
  pub count : after ≡ before + length bytes

-- After so many bytes a prefix of these was.
pub record IsUnwritten (old new : BytesWritten) (bytes : List ℕ) (before after : ℕ) : Type 0 where
  pub more : ℕ
  pub written : EmittedPrefix old new bytes more
  pub count : after ≡ before + more

-- how often there was nothing to give, one after another
abbrev pub waits_after : Sent → ℕ → ℕ
waits_after sents.Wait waits = waits + 1
waits_after answer waits = 0

-- After so many bytes, what a session gave of a station was written; so often, one after another, there was nothing.
pub record HasGiven (feed : List Window) (k : ℕ) (old new : Attending) (before after waits waited : ℕ) : Type 0 where
  pub answer : Sent
  pub is : sent feed old.session.state k ≡ (new.session.state, answer)
  pub held : new.session.held ≡ old.session.held
  pub written : IsWritten old.written new.written (sent_bytes answer) before after
  pub short : length (sent_bytes answer) ≤ 520
  pub waited_is : waited ≡ waits_after answer waits
  pub few : (bytes : List ℕ) → answer ≡ sents.Packet bytes
      → ForSome (slice_get feed k) (λ w. length w.records ≤ 1000000)

-- The link failed within that.
pub record FailsToGive (feed : List Window) (k : ℕ) (old new : Attending) (before after : ℕ) : Type 0 where
  pub answer : Sent
  pub is : sent feed old.session.state k ≡ (new.session.state, answer)
  pub held : new.session.held ≡ old.session.held
  pub cut : IsUnwritten old.written new.written (sent_bytes answer) before after

-- All that is due was sent, which was so many bytes.
pub record HasSent (feed : List Window) (old new : Attending) (count : ℕ) : Type 0 where
  pub sends : SendsAll feed old new
  pub counted : length new.written.bytes ≡ length old.written.bytes + count
  pub few : count ≤ 1099511627776

-- The link failed within a reply; with so many before, the bytes that it accepted are counted.
pub record HasFailed (feed : List Window) (old new : Attending) (bytes : List ℕ) (before after : ℕ) : Type 0 where
  pub fails : FailsToReply feed old new bytes
  pub counted : length new.written.bytes + before ≡ length old.written.bytes + after
