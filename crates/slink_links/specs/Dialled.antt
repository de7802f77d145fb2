-- What is known of a server that was dialled.
use Rattle.std.specs.Prelude.{ℕ, List, [], Option, None}
use Rattle.mseed_stream.specs.Exchanges.{Exchange}
use Rattle.slink_links.specs.Fetched.{Calls, calls_of}
use Rattle.slink_links.specs.declared.dial.DialLog.{DialLog}
use Rattle.slink_links.specs.declared.trouble.Trouble.{Trouble}

-- How often it was dialled, what went over the links that were given back, and which pauses were made between; how many
-- of the calls failed; and what went wrong in the last try.
pub record Dialled : Type 0 where
  pub calls : Calls
  pub failures : ℕ
  pub trouble : Option Trouble

abbrev pub dialled : ℕ → ℕ → List Exchange → Option Trouble → List ℕ → Dialled
dialled calls failures given_back trouble paused =
    record { calls = calls_of calls given_back paused; failures = failures; trouble = trouble }

-- no call
abbrev pub nothing_dialled : Dialled
nothing_dialled = dialled 0 0 [] None []

-- by a log, and the pauses
abbrev pub dialled_by : DialLog → List ℕ → Dialled
dialled_by log paused = dialled log.calls.calls log.calls.failures log.given_back.all log.trouble paused
