-- What a server does with each event that the device reports, and when it stops.
use Rattle.std.specs.Prelude.{◌≡◌, ◌≢◌, ℕ, true, false, not, ◌&&◌, ◌+◌, ◌*◌, ◌<◌, ◌≤◌, ◌^◌, List, [], ◌∷◌, ◌++◌, length}
use Rattle.std.specs.Prelude.{take, get_or, Option, Some, None, Result, Ok, Err}
use Rattle.std.specs.List.{AllByRecursion}
use Rattle.mseed_stream.specs.declared.fault.StreamFault.TheVariants as faults
use Rattle.slink_feed.specs.Intake.{places_of}
use Rattle.slink_feed.specs.Window.{Window}
use Rattle.slink_feed.specs.declared.input.InputFault.{InputFault}
use Rattle.slink_feed.specs.declared.input.InputFault.TheVariants.{Stream}
use Rattle.slink_live.specs.declared.ready.Event.{Event}
use Rattle.slink_live.specs.declared.ready.Event.TheVariants as events
use Rattle.slink_live.specs.Awake.{IsAwake, IsFirstFree, has_free}
use Rattle.slink_live.specs.Happening.{Happening, Input, Opened, Received, Emitted, Gone, Next, Missed, Wants}
use Rattle.slink_live.specs.Happening.{WantsLinks, Left, Handed}
use Rattle.slink_live.specs.Input.{IsFaultIn, IsInput, IsOfBytes, MayBegin}
use Rattle.slink_live.specs.Served.{IsFinished, IsServing, LinkState, ServerState}

-- what is answered: nothing is wrong with the input, or this is
abbrev pub Answer : Type 0
Answer = Result (Unit {0}) InputFault

-- A link was closed, or the device was told what is wanted of links.
abbrev pub IsReport : Happening → Type 0
IsReport (Gone k) = Unit {0}
IsReport (Wants k interest) = Unit {0}
IsReport (WantsLinks wanted) = Unit {0}
IsReport h = ⊥

-- Links were closed and things were reported to the device, and nothing else happened.
pub record Closes (log last : List Happening) : Type 0 where
  pub gone : List Happening
  pub each : AllByRecursion IsReport gone
  pub last_is : last ≡ log ++ gone

-- This happened, and then links were closed and things were reported to the device.
abbrev pub Calls : List Happening → Happening → List Happening → Type 0
Calls log h last = Closes (log ++ h ∷ []) last

-- It was reported that the input is read no more.
abbrev pub Leaves : List Happening → List Happening → Type 0
Leaves log last = Calls log Left last

-- Of a read from a slot: the link there is read, where one stands.
abbrev pub ReadsFrom : Option LinkState → ℕ → List Happening → List Happening → Type 0
ReadsFrom None k log last = Closes log last
ReadsFrom (Some l) k log last = (bytes : List ℕ) × Calls log (Received k bytes) last

-- Of a write: the link is handed all that its session sent and it didn't accept yet.
abbrev pub WritesTo : Option LinkState → ℕ → List Happening → List Happening → Type 0
WritesTo None k log last = Closes log last
WritesTo (Some l) k log last = (n : ℕ) × Calls (log ++ Handed k l.pending ∷ []) (Emitted k (take n l.pending)) last

-- Of a link that is gone: it is closed, where one stands.
abbrev pub Removes : Option LinkState → ℕ → List Happening → List Happening → Type 0
Removes None k log last = Closes log last
Removes (Some l) k log last = Calls log (Gone k) last

-- Of bytes of the input, while it is read: they are read, at most 4,096 of them, and go on with it up to a rest with
-- which a record may begin; or they are wrong. Or it was read too often. Where something is wrong, it is read no more.
pub data ReadsInput (s : ServerState) (log last : List Happening) : Answer → Type 0 where
  reads : (bytes rest : List ℕ) (records : List (List ℕ)) → s.has_ended ≡ false → s.reads < 2 ^ 40
      → length bytes ≤ 4096 → IsInput (places_of s.intake.feed) (s.intake.kept ++ bytes) records rest → MayBegin rest
      → Calls log (Input bytes) last → ReadsInput s log last (Ok tt)
  finds_wrong : (bytes rest : List ℕ) (records : List (List ℕ)) (fault : InputFault) → s.has_ended ≡ false
      → s.reads < 2 ^ 40 → length bytes ≤ 4096
      → IsInput (places_of s.intake.feed) (s.intake.kept ++ bytes) records rest
      → IsFaultIn (places_of s.intake.feed) (s.intake.records + length records) rest fault → IsOfBytes fault
      → Leaves (log ++ Input bytes ∷ []) last → ReadsInput s log last (Err fault)
  too_often : s.has_ended ≡ false → s.reads ≡ 2 ^ 40 → Leaves log last
      → ReadsInput s log last (Err (Stream (faults.Turns (512 * s.intake.records))))
  stays : s.has_ended ≡ true → last ≡ log → ReadsInput s log last (Ok tt)

-- Of the end of the input: it is read no more. It ended where a record ends, or within one.
pub data Ends (s : ServerState) (log last : List Happening) : Answer → Type 0 where
  is_whole : s.has_ended ≡ false → s.intake.kept ≡ [] → Leaves log last → Ends s log last (Ok tt)
  is_cut_off : s.has_ended ≡ false → 0 < length s.intake.kept → Leaves log last
      → Ends s log last (Err (Stream (faults.Truncated (512 * s.intake.records) (length s.intake.kept))))
  had_ended : s.has_ended ≡ true → last ≡ log → Ends s log last (Ok tt)

-- Of an input that failed: it is read no more.
pub data Fails (s : ServerState) (log last : List Happening) : Answer → Type 0 where
  is_failed : s.has_ended ≡ false → Leaves log last
      → Fails s log last (Err (Stream (faults.Read (512 * s.intake.records))))
  had_failed : s.has_ended ≡ true → last ≡ log → Fails s log last (Ok tt)

-- Of a link that dials: it is taken into the first slot that is free, if the input is read, unless it is gone already.
pub data Opens (s : ServerState) (log last : List Happening) : Type 0 where
  takes : (k : ℕ) → s.has_ended ≡ false → IsFirstFree s.links k → Calls log (Opened k) last → Opens s log last
  misses : (k : ℕ) → s.has_ended ≡ false → IsFirstFree s.links k → Calls log (Missed k) last → Opens s log last
  is_full : (not s.has_ended && has_free s.links) ≡ false → Closes log last → Opens s log last

-- which call of the device an event comes to, and what is answered
abbrev pub IsCalled : Event → ServerState → List Happening → List Happening → Answer → Type 0
IsCalled events.Input s log last answer = ReadsInput s log last answer
IsCalled events.InputEnded s log last answer = Ends s log last answer
IsCalled events.InputFailed s log last answer = Fails s log last answer
IsCalled events.Dialled s log last answer = Opens s log last × (answer ≡ Ok tt)
IsCalled (events.Readable k) s log last answer = ReadsFrom (get_or s.links k None) k log last × (answer ≡ Ok tt)
IsCalled (events.Writable k) s log last answer = WritesTo (get_or s.links k None) k log last × (answer ≡ Ok tt)
IsCalled (events.Gone k) s log last answer = Removes (get_or s.links k None) k log last × (answer ≡ Ok tt)
IsCalled events.Nothing s log last answer = (last ≡ log) × (answer ≡ Ok tt)

-- How a server of `slots` slots stands when the device is asked what can be done next: it has served what happened, and
-- no link sleeps.
pub record Stands (start : List Window) (slots : ℕ) (s : ServerState) (log : List Happening) : Type 0 where
  pub serving : IsServing start s log
  pub awake : IsAwake s log
  pub slots_are : length s.links ≡ slots

-- From what had happened on, the device was asked so often what can be done next. Each time something was left to do,
-- and what the device said came to its call. Nothing was wrong with the input.
pub data Turns (start : List Window) (slots : ℕ) (first : List Happening) : ℕ → List Happening → Type 0 where
  no_turn : Turns start slots first 0 first
  one_turn : (n : ℕ) (log last : List Happening) (s : ServerState) (e : Event) → Turns start slots first n log
      → Stands start slots s log → ¬ (IsFinished s) → e ≢ events.Nothing
      → IsCalled e s (log ++ Next e ∷ []) last (Ok tt) → Turns start slots first (n + 1) last

-- So it was up to the turn after which nothing is left to do; or the one in which nothing comes any more, or something
-- is wrong with the input, which is answered; or the input was given up after 2^40 turns.
pub data HasSteps (start : List Window) (slots : ℕ) (first last : List Happening) : Answer → Type 0 where
  is_done : (n : ℕ) (s : ServerState) → n < 2 ^ 40 → Turns start slots first n last → Stands start slots s last
      → IsFinished s → HasSteps start slots first last (Ok tt)
  nothing_comes : (n : ℕ) (log : List Happening) (s : ServerState) → n < 2 ^ 40 → Turns start slots first n log
      → Stands start slots s log → ¬ (IsFinished s) → last ≡ log ++ Next events.Nothing ∷ []
      → HasSteps start slots first last (Ok tt)
  is_wrong : (n : ℕ) (log : List Happening) (s : ServerState) (e : Event) (fault : InputFault) → n < 2 ^ 40
      → Turns start slots first n log → Stands start slots s log → ¬ (IsFinished s)
      → IsCalled e s (log ++ Next e ∷ []) last (Err fault) → HasSteps start slots first last (Err fault)
  gives_up : (n : ℕ) (log : List Happening) (s : ServerState) → n ≡ 2 ^ 40 → Turns start slots first n log
      → Stands start slots s log → Leaves log last
      → HasSteps start slots first last (Err (Stream (faults.Turns (512 * s.intake.records))))
