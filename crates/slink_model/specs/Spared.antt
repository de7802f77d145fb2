-- What is never reported of a client over the links of a schedule.
use Rattle.std.specs.Prelude.{◌≡◌, ℕ, ◌<◌, List, length, Option, Some, slice_get}
use Rattle.slink_wire.specs.Place.{AreNumbers, Fields, IsField}
use Rattle.slink_feed.specs.declared.dialogue.Ending.{Ending}
use Rattle.slink_feed.specs.declared.dialogue.Ending.TheVariants.{End, Refused}
use Rattle.slink_feed.specs.declared.dialogue.Stage.{Stage}
use Rattle.slink_feed.specs.declared.dialogue.Stage.TheVariants.{Ended}

-- A link ends where all that was requested was sent, or where a station is refused: not by the packet of another record
-- than the one that is wanted, nor by that of a record of none of the stations, nor by bytes that are no reply, packet
-- or end.
abbrev pub IsFair : Ending → Type 0
IsFair End = Unit {0}
IsFair (Refused k) = Unit {0}
IsFair ending = ⊥

abbrev pub IsSpared : Stage → Type 0
IsSpared (Ended ending) = IsFair ending
IsSpared stage = Unit {0}

-- Each has a station code and a network code.
abbrev pub HaveCodes : List (Fields × Option ℕ) → Type 0
HaveCodes places = (k : ℕ) (p : Fields × Option ℕ) → slice_get places k ≡ Some p
    → IsField 5 p.0.station × IsField 2 p.0.network

-- There is a station, each has a station code and a network code, and a number that is wanted first is below 2^24.
pub record AreAskable (places : List (Fields × Option ℕ)) : Type 0 where
  pub some : 0 < length places
  pub codes : HaveCodes places
  pub numbers : AreNumbers places
