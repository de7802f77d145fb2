-- How serving one connection after another ends.
use Rattle.std.specs.Prelude.{⊤, ◌≡◌, ℕ, ◌+◌, ◌<◌, ◌^◌, nat_lt, Bool, List, ◌++◌, All, Result, Ok}
use Rattle.std.specs.Prelude.{Err, codes}
use Rattle.mseed_stream.specs.Device.{BytesRead, BytesWritten, nothing_read, nothing_written}
use Rattle.mseed_stream.specs.Exchanges.{Exchange}
use Rattle.slink_feed.specs.Attending.{Attends, IsServeFault, attending}
use Rattle.slink_feed.specs.Rounds.{Attending}
use Rattle.slink_feed.specs.Serving.{IsNew, SessionState}
use Rattle.slink_feed.specs.Window.{Window}
use Rattle.slink_feed.specs.declared.turn.LinkFault.{LinkFault}
use Rattle.slink_feed.specs.declared.turn.Turn.TheVariants.{Goes, Closed}
use Rattle.mseed_stream.specs.LineWritten.{WritesLine}

-- a call of the link failed
abbrev pub has_failed : BytesRead → BytesWritten → Bool
has_failed read written = nat_lt 0 (read.failures + written.failures)

-- This number of steps was taken with a link, and the session goes on after each.
pub data HasTakenTurns (feed : List Window) (first : Attending) (before : BytesRead) : ℕ → Attending → BytesRead
    → Type 0 where
  none : HasTakenTurns feed first before 0 first before
  more : (n : ℕ) (now new : Attending) (mid after : BytesRead) → HasTakenTurns feed first before n now mid
      → Attends feed now new mid after Goes → HasTakenTurns feed first before (n + 1) new after

-- Turns were taken up to one after which nothing more is to be sent, or in which the link failed; or 2^40 of them.
pub data HasTakenAll (feed : List Window) (first : Attending) (before : BytesRead) : Result ⊤ LinkFault → Attending
    → BytesRead
    → Type 0 where
  to_the_end : (u : ⊤) (n : ℕ) (now last : Attending) (mid after : BytesRead) → n < 2 ^ 40
      → HasTakenTurns feed first before n now mid
      → Attends feed now last mid after Closed → HasTakenAll feed first before (Ok u) last after
  for_long : (u : ⊤) (last : Attending) (after : BytesRead) → HasTakenTurns feed first before (2 ^ 40) last after
      → HasTakenAll feed first before (Ok u) last after
  to_a_fault : (fault : LinkFault) (n : ℕ) (now last : Attending) (mid after : BytesRead) → n < 2 ^ 40
      → HasTakenTurns feed first before n now mid
      → IsServeFault feed now last mid after fault → HasTakenAll feed first before (Err fault) last after

-- A link was served by a session of its own.
pub record IsServed (feed : List Window) (result : Result ⊤ LinkFault) (read_old read_new : BytesRead)
    (written_old written_new : BytesWritten) : Type 0 where
  pub first : SessionState
  pub fresh : IsNew first
  pub last : SessionState
  pub turns : HasTakenAll feed (attending first written_old) read_old result (attending last written_new) read_new

-- A link was served from its first byte on.
abbrev pub WasServed : List Window → Exchange → Type 0
WasServed feed link = (result : Result ⊤ LinkFault) × IsServed feed result nothing_read link.read nothing_written
    link.written

-- Some links were given back after those before, and each of them was served.
pub record HasServedEach (feed : List Window) (before after : List Exchange) : Type 0 where
  pub links : List Exchange
  pub given_back : after ≡ before ++ links
  pub served : All (WasServed feed) links

-- the exit status, and what standard error accepted
pub data HasServed (status : ℕ) (reported_old reported_new : BytesWritten) : Type 0 where
  all_went_well : status ≡ 0 → reported_new ≡ reported_old → HasServed status reported_old reported_new
  something_failed : status ≡ 2 → WritesLine (codes "mseed: link failed\n") reported_old reported_new
      → HasServed status reported_old reported_new
