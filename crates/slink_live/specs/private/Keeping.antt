-- What each step of a server keeps.
use Rattle.std.specs.Prelude.{◌≡◌, ◌≢◌, ℕ, true, List, None, get_or, length, Result, IfErr, OnErr}
use Rattle.slink_feed.specs.Window.{Window}
use Rattle.slink_feed.specs.declared.input.InputFault.{InputFault}
use Rattle.slink_feed.specs.Intake.{places_of}
use Rattle.slink_live.specs.Awake.{Goes, IsAwake, IsAwakeIn, IsClosedRightly, IsReported}
use Rattle.slink_live.specs.Happening.{Happening, input_of}
use Rattle.slink_live.specs.Input.{IsInputFault}
use Rattle.slink_live.specs.Served.{GoesOn, IsServing, IsSound, ServerState, StaysUnread}
use Rattle.slink_live.specs.declared.places.Places.{Places}
use Rattle.slink_live.specs.private.Granting.{LeavesOut}

-- A step, from what had happened to what has.
pub record Carries (old new : ServerState) (before after : List Happening) : Type 0 where
  -- From whatever rings on it had served by what had happened, it has by what has.
  pub serving : (start : List Window) → IsServing start old before → IsServing start new after
  -- Of an input that is read no more nothing further comes.
  pub unread : StaysUnread old new before after
  -- There are as many slots.
  pub slots : length new.links ≡ length old.links
  -- What had happened stays.
  pub grows : GoesOn before after

-- A step after which it can serve on.
pub record KeepsServing (old new : ServerState) (before after : List Happening) : Type 0 where
  pub sound : IsSound new
  pub carries : Carries old new before after

-- A step that may concern the input, and answers what is wrong with it, where something is.
pub record AnswersFault (old new : ServerState) (before after : List Happening) (result : Result (Unit {0}) InputFault)
    : Type 0 where
  pub keeps : KeepsServing old new before after
  -- What is answered is wrong with what the input gave.
  pub fault : IfErr result (λ e. (start : List Window) → IsServing start old before
      → IsInputFault (places_of start) (input_of after) e)
  -- Then it is read no more.
  pub ended : OnErr result (new.has_ended ≡ true)

-- A step that updates the link in a slot.
pub record Updates (j : ℕ) (old new : ServerState) (before after : List Happening) : Type 0 where
  -- No link sleeps that didn't in another slot.
  pub links : (k : ℕ) → (k ≢ j → IsAwakeIn old before k) → IsAwakeIn new after k
  -- What has to be reported to the device has been.
  pub is_reported : IsReported old before → IsReported new after
  -- A link is closed by right.
  pub closed : (start : List Window) → IsServing start old before → IsReported old before
      → Goes (IsClosedRightly start) before after
  -- The other slots are as they were.
  pub others : (k : ℕ) → k ≢ j → get_or new.links k None ≡ get_or old.links k None

-- A step after which no link sleeps, where this was so before.
pub record Awakens (Before : Type 0) (old new : ServerState) (before after : List Happening) : Type 0 where
  pub awake : Before → IsAwake new after
  -- A link is closed by right.
  pub closed : (start : List Window) → IsServing start old before → Before → Goes (IsClosedRightly start) before after

-- A step after which no link sleeps, where none slept before.
abbrev pub KeepsAwake : ServerState → ServerState → List Happening → List Happening → Type 0
KeepsAwake old new before after = Awakens (IsAwake old before) old new before after

-- What has to be reported to the device was, and only such links may sleep as are sent records of some of these
-- stations.
pub record AreAwakeBut (places : Places) (s : ServerState) (log : List Happening) : Type 0 where
  pub is_reported : IsReported s log
  pub each : (k : ℕ) → LeavesOut places (get_or s.links k None) → IsAwakeIn s log k

-- The input is read no more: what is answered is wrong with it, and no link sleeps.
pub record EndsInput (old new : ServerState) (before after : List Happening) (result : Result (Unit {0}) InputFault)
    : Type 0 where
  pub answers : AnswersFault old new before after result
  pub keeps_awake : KeepsAwake old new before after
