-- The requests that a client sends over a link, and what it makes of the replies and packets that the link brings.
use Rattle.std.specs.Prelude.{◌≡◌, ℕ, Bool, false, ◌+◌, ◌-◌, ◌%◌, ◌^◌, ◌<◌, ◌==◌, ◌&&◌, ◌||◌, nat_lt, List, ◌++◌}
use Rattle.std.specs.Prelude.{[], length, map, min, replicate, bytes_eq, codes, Option, Some, None, nat_eq, unwrap_or}
use Rattle.std.specs.Prelude.{position, slice_get, slice_range, slice_set, if◌then◌else◌}
use Rattle.std.specs.List.{starts_with}
use Rattle.std.specs.Option.{option_and_then}
use Rattle.slink_wire.specs.declared.request.Request.{Request}
use Rattle.slink_wire.specs.declared.request.Request.TheVariants as requests
use Rattle.slink_wire.specs.Place.{Fields}
use Rattle.slink_wire.specs.Request.{request_bytes}
use Rattle.slink_feed.specs.declared.grant.Mode.{Mode}
use Rattle.slink_feed.specs.declared.grant.Mode.TheVariants as modes
use Rattle.slink_feed.specs.declared.dialogue.Answer.{Answer}
use Rattle.slink_feed.specs.declared.dialogue.Answer.TheVariants.{Granted, Refusal, Neither}
use Rattle.slink_feed.specs.declared.dialogue.Ending.{Ending}
use Rattle.slink_feed.specs.declared.dialogue.Ending.TheVariants as endings
use Rattle.slink_feed.specs.declared.dialogue.Event.{Event}
use Rattle.slink_feed.specs.declared.dialogue.Event.TheVariants as events
use Rattle.slink_feed.specs.declared.dialogue.Stage.{Stage}
use Rattle.slink_feed.specs.declared.dialogue.Stage.TheVariants.{Station, Number, Packets, Ended}
use Rattle.slink_feed.specs.declared.dialogue.Wanted.{Wanted}
use Rattle.slink_feed.specs.Intake.{is_of_station}

-- the stations that are requested, in their order, and the number that each wants next
abbrev pub Wants : Type 0
Wants = List (Option Wanted)

-- each of sixteen stations that there is
abbrev pub wanted_of : Fields × Option ℕ → Option Wanted
wanted_of p = Some (record { place = p.0; next = p.1 })

abbrev pub wants_of : List (Fields × Option ℕ) → Wants
wants_of places = map wanted_of places ++ replicate (16 - length places) None

-- the station at an index, and the number that it wants next
abbrev pub want_at : Wants → ℕ → Option Wanted
want_at wants k = unwrap_or (slice_get wants k) None

abbrev pub next_at : Wants → ℕ → Option ℕ
next_at wants k = option_and_then (λ w. w.next) (want_at wants k)

abbrev pub AreShort : Wants → Type 0
AreShort wants = (k n : ℕ) → next_at wants k ≡ Some n → n < 2 ^ 24

-- a station of sixteen is requested
abbrev pub IsStage : Stage → Type 0
IsStage (Station k) = k < 16
IsStage (Number k) = k < 16
IsStage stage = Unit {0}

-- what a client has come to; whether it goes past holes; how many packets came since the last reply, and its line
pub record Talk : Type 0 where
  pub mode : Mode
  pub wants : List (Option Wanted)
  pub stage : Stage
  pub holes : Bool
  pub packets : ℕ
  pub reply : List ℕ

-- what a link brings, in one whole
pub data Whole : Type 0 where
  Reply : List ℕ → Whole
  Packet : ℕ → List ℕ → Whole
  End : Whole
  Garbage : Whole

-- how many packets came since the last reply, once this came: at most 2^64 - 1 are counted
abbrev pub packets_after : Whole → ℕ → ℕ
packets_after (Reply line) n = 0
packets_after (Packet number bytes) n = min (n + 1) (2 ^ 64 - 1)
packets_after whole n = n

-- the line of the last reply, once this came; garbage in its place has none
abbrev pub reply_after : Whole → List ℕ → List ℕ
reply_after (Reply line) last = line
reply_after Garbage last = []
reply_after whole last = last

abbrev pub heard : Whole → Talk → Talk
heard whole t = record t { packets = packets_after whole t.packets; reply = reply_after whole t.reply }

-- the event that reports an ending
abbrev pub event_of : Ending → Event
event_of endings.End = events.End
event_of (endings.Refused k) = events.Refused k
event_of (endings.Gap k want got) = events.Gap k want got
event_of (endings.Unanswered k) = events.Garbage
event_of endings.Garbage = events.Garbage
event_of (endings.Foreign station network) = events.Foreign

abbrev pub ended : Ending → Talk → Talk × Event
ended ending t = (record t { stage = Ended ending }, event_of ending)

-- a line is sent
abbrev pub sends_line : Talk → Stage → Request → Talk × Event
sends_line t stage request = (record t { stage = stage }, events.Say (record { items = request_bytes request }))

-- the STATION of a station; after the last station, the END
abbrev pub to_place : Option Wanted → ℕ → Talk → Talk × Event
to_place (Some w) k t = sends_line t (Station k) (requests.Station w.place)
to_place None k t = sends_line t Packets requests.End

abbrev pub requests_place : ℕ → Talk → Talk × Event
requests_place k t = to_place (want_at t.wants k) k t

-- the DATA or FETCH of a station, with the number that it wants next, where it has one
abbrev pub numbered : Mode → Option ℕ → Request
numbered modes.Data number = requests.Data number
numbered modes.Fetch number = requests.Fetch number

abbrev pub requests_number : ℕ → Talk → Talk × Event
requests_number k t = sends_line t (Number k) (numbered t.mode (next_at t.wants k))

-- a reply: `OK`, or what begins with `ERROR`
abbrev pub answer_of : List ℕ → Answer
answer_of line = if bytes_eq line (codes "OK") then Granted else if starts_with nat_eq line (codes "ERROR") then
    Refusal else Neither

abbrev pub to_answer : Answer → ℕ → Talk × Event → Talk → Talk × Event
to_answer Granted k next t = next
to_answer Refusal k next t = ended (endings.Refused k) t
to_answer Neither k next t = ended (endings.Unanswered k) t

-- whether a record's header has the codes of a station
abbrev pub is_of_wanted : List ℕ → Option Wanted → Bool
is_of_wanted bytes None = false
is_of_wanted bytes (Some w) = is_of_station w.place bytes

-- the first station that a record is of
abbrev pub place_of : Wants → List ℕ → Option ℕ
place_of wants bytes = position (is_of_wanted bytes) wants

-- A record is reported, and the next number is wanted of its station.
abbrev pub next_set : Option Wanted → Wants → ℕ → ℕ → Wants
next_set None wants k n = wants
next_set (Some w) wants k n = slice_set wants k (Some (record { place = w.place; next = Some n }))

abbrev pub with_next : Wants → ℕ → ℕ → Wants
with_next wants k n = next_set (want_at wants k) wants k n

abbrev pub reported : ℕ → ℕ → List ℕ → Talk → Talk × Event
reported k number bytes t = (
  record t { wants = with_next t.wants k ((number + 1) % 2 ^ 24) },
  events.Record k number
      bytes,
)

-- how far a number is ahead of one below 2^24, modulo 2^24
abbrev pub ahead_of : ℕ → ℕ → ℕ
ahead_of want number = (number + 2 ^ 24 - want) % 2 ^ 24

-- whether it is ahead, by less than half of all numbers
abbrev pub is_ahead : ℕ → ℕ → Bool
is_ahead want number = nat_lt 0 (ahead_of want number) && nat_lt (ahead_of want number) (2 ^ 23)

-- whether a number is taken where one is wanted: that one, and past holes one that is ahead of it
abbrev pub is_taken : Bool → ℕ → ℕ → Bool
is_taken holes want number = number == want || (holes && is_ahead want number)

-- unless another number is wanted
abbrev pub if_wanted : Option ℕ → ℕ → ℕ → List ℕ → Talk → Talk × Event
if_wanted None k number bytes t = reported k number bytes t
if_wanted (Some want) k number bytes t =
    if is_taken t.holes want number then reported k number bytes t else ended (endings.Gap k want number) t

-- the end by a record of none of the stations, with the codes of its header
abbrev pub foreign_by : List ℕ → Ending
foreign_by bytes = endings.Foreign (slice_range bytes 8 13) (slice_range bytes 18 20)

-- a packet: its station is sought first
abbrev pub at_packet : Option ℕ → ℕ → List ℕ → Talk → Talk × Event
at_packet None number bytes t = ended (foreign_by bytes) t
at_packet (Some k) number bytes t = if_wanted (next_at t.wants k) k number bytes t

-- The client's table: what it does with what has come, by what it waits for.
abbrev pub read_at : Stage → Talk → Whole → Talk × Event
read_at (Station k) t (Reply line) = to_answer (answer_of line) k (requests_number k t) t
read_at (Station k) t Garbage = ended (endings.Unanswered k) t
read_at (Number k) t (Reply line) = to_answer (answer_of line) k (requests_place (k + 1) t) t
read_at (Number k) t Garbage = ended (endings.Unanswered k) t
read_at Packets t (Packet number bytes) = at_packet (place_of t.wants bytes) number bytes t
read_at Packets t End = ended endings.End t
read_at Packets t Garbage = ended endings.Garbage t
read_at stage t whole = (t, events.None)

abbrev pub read : Talk → Whole → Talk × Event
read t whole = read_at t.stage (heard whole t) whole
