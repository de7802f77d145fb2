-- What is known of links that were taken one after another.
use Rattle.std.specs.Prelude.{ℕ, List, []}
use Rattle.mseed_stream.specs.Exchanges.{Exchange}
use Rattle.slink_links.specs.declared.accept.AcceptLog.{AcceptLog}

-- How many calls for a link there were, and how many of them failed; how many links were given back that had failed;
-- and what went over each of those that were given back.
pub record Taken : Type 0 where
  pub calls : ℕ
  pub failures : ℕ
  pub lost : ℕ
  pub given_back : List Exchange

abbrev pub taken : ℕ → ℕ → ℕ → List Exchange → Taken
taken calls failures lost given_back =
    record { calls = calls; failures = failures; lost = lost; given_back = given_back }

-- no call
abbrev pub nothing_taken : Taken
nothing_taken = taken 0 0 0 []

-- by a log
abbrev pub taken_by : AcceptLog → Taken
taken_by log = taken log.calls.calls log.calls.failures log.lost.failures log.given_back.all
