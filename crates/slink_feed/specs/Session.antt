-- What a session answers, and what it sends.
use Rattle.std.specs.Prelude.{◌≡◌, ℕ, Bool, true, false, ◌+◌, ◌%◌, ◌^◌, ◌≤◌, ◌<◌, ◌==◌, ◌&&◌, List, [], length, codes}
use Rattle.std.specs.Prelude.{Option, Some, None, unwrap_or, slice_get, slice_set, if◌then◌else◌}
use Rattle.std.specs.List.{list_all, zip}
use Rattle.std.specs.Option.{option_and_then}
use Rattle.slink_wire.specs.declared.command.Command.{Command}
use Rattle.slink_wire.specs.declared.command.Command.TheVariants.{Hello, Station, SelectAll, Data, Fetch, End, Bye}
use Rattle.slink_wire.specs.declared.command.Command.TheVariants.{Other}
use Rattle.slink_wire.specs.declared.reply.Reply.{Reply}
use Rattle.slink_wire.specs.declared.reply.Reply.TheVariants as Replies
use Rattle.slink_wire.specs.Packet.{packet_bytes}
use Rattle.slink_feed.specs.declared.grant.Grant.{Grant}
use Rattle.slink_feed.specs.declared.grant.Mode.{Mode}
use Rattle.slink_feed.specs.declared.grant.Mode.TheVariants as Modes
use Rattle.slink_feed.specs.declared.session.Phase.{Phase}
use Rattle.slink_feed.specs.declared.session.Phase.TheVariants.{Fresh, Chosen, Granted, Streaming, Closed}
use Rattle.slink_feed.specs.declared.session.Sent.{Sent}
use Rattle.slink_feed.specs.declared.session.Sent.TheVariants as Sents
use Rattle.slink_feed.specs.declared.session.Unsent.{Unsent}
use Rattle.slink_feed.specs.declared.session.Unsent.TheVariants as Unsents
use Rattle.slink_feed.specs.Grant.{grant_of, is_fetch}
use Rattle.slink_feed.specs.Rings.{station_at}
use Rattle.slink_feed.specs.Window.{Window, record_at}

-- the grants, one for each station of the feed that has one
abbrev pub Grants : Type 0
Grants = List (Option Grant)

-- where a session stands
pub record State : Type 0 where
  pub phase : Phase
  pub grants : List (Option Grant)

abbrev pub at : Phase → Grants → State
at phase grants = record { phase = phase; grants = grants }

-- the grant of a station
abbrev pub grant_at : Grants → ℕ → Option Grant
grant_at grants k = unwrap_or (slice_get grants k) None

-- The index is of a ring, and the position isn't past its next record.
abbrev pub IsReached : List Window → ℕ → ℕ → Type 0
IsReached feed k position = (w : Window) × (slice_get feed k ≡ Some w) × (position ≤ w.next)

-- Each grant is of a ring of the feed, which its position isn't past.
abbrev pub AreReached : List Window → Grants → Type 0
AreReached feed grants = (k : ℕ) (g : Grant) → grant_at grants k ≡ Some g → IsReached feed k g.position

-- The chosen station is one of the feed.
abbrev pub IsChosenOf : List Window → Phase → Type 0
IsChosenOf feed (Chosen k) = k < length feed
IsChosenOf feed (Granted k) = k < length feed
IsChosenOf feed phase = Unit {0}

-- The session can be served from this feed.
abbrev pub Fits : List Window → State → Type 0
Fits feed s = IsChosenOf feed s.phase × AreReached feed s.grants

-- STATION: a station that matches is chosen, and has no grant any more
abbrev pub chosen : Option ℕ → State → State × Reply
chosen None s = (s, Replies.Error)
chosen (Some k) s = (at (Chosen k) (slice_set s.grants k None), Replies.Ok)

-- DATA and FETCH: the chosen station has the grant, if there is one
abbrev pub granted : Mode → ℕ → Option ℕ → State → State × Reply
granted mode k None s = (s, Replies.Error)
granted mode k (Some position) s =
    (at (Granted k) (slice_set s.grants k (Some (record { mode = mode; position = position }))), Replies.Ok)

abbrev pub called : List Window → ℕ → Mode → Option ℕ → State → State × Reply
called feed k mode number s = granted mode k (option_and_then (grant_of mode number) (slice_get feed k)) s

-- The answers, state by command. Where no new state stands, state and grants stay.
abbrev pub answer_fresh : List Window → State → Command → State × Reply
answer_fresh feed s Hello = (s, Replies.Hello)
answer_fresh feed s (Station sta net) = chosen (station_at feed sta net) s
answer_fresh feed s SelectAll = (s, Replies.Error)
answer_fresh feed s (Data number) = (s, Replies.Error)
answer_fresh feed s (Fetch number) = (s, Replies.Error)
answer_fresh feed s End = (s, Replies.Error)
answer_fresh feed s Bye = (at Closed s.grants, Replies.Nothing)
answer_fresh feed s Other = (s, Replies.Error)

abbrev pub answer_chosen : List Window → ℕ → State → Command → State × Reply
answer_chosen feed k s Hello = (s, Replies.Hello)
answer_chosen feed k s (Station sta net) = chosen (station_at feed sta net) s
answer_chosen feed k s SelectAll = (s, Replies.Ok)
answer_chosen feed k s (Data number) = called feed k Modes.Data number s
answer_chosen feed k s (Fetch number) = called feed k Modes.Fetch number s
answer_chosen feed k s End = (s, Replies.Error)
answer_chosen feed k s Bye = (at Closed s.grants, Replies.Nothing)
answer_chosen feed k s Other = (s, Replies.Error)

abbrev pub answer_granted : List Window → ℕ → State → Command → State × Reply
answer_granted feed k s Hello = (s, Replies.Hello)
answer_granted feed k s (Station sta net) = chosen (station_at feed sta net) s
answer_granted feed k s SelectAll = (s, Replies.Ok)
answer_granted feed k s (Data number) = called feed k Modes.Data number s
answer_granted feed k s (Fetch number) = called feed k Modes.Fetch number s
answer_granted feed k s End = (at Streaming s.grants, Replies.Nothing)
answer_granted feed k s Bye = (at Closed s.grants, Replies.Nothing)
answer_granted feed k s Other = (s, Replies.Error)

abbrev pub answer_streaming : State → Command → State × Reply
answer_streaming s Bye = (at Closed s.grants, Replies.Nothing)
answer_streaming s _ = (s, Replies.Nothing)

abbrev pub answered_in : Phase → List Window → State → Command → State × Reply
answered_in Fresh feed s c = answer_fresh feed s c
answered_in (Chosen k) feed s c = answer_chosen feed k s c
answered_in (Granted k) feed s c = answer_granted feed k s c
answered_in Streaming feed s c = answer_streaming s c
answered_in Closed feed s c = (s, Replies.Nothing)

-- the state after a command, and the reply
abbrev pub answered : List Window → State → Command → State × Reply
answered feed s c = answered_in s.phase feed s c

-- A line that is too long closes the session.
abbrev pub reply_at_next : Phase → Reply
reply_at_next Streaming = Replies.Nothing
reply_at_next Closed = Replies.Nothing
reply_at_next _ = Replies.Error

abbrev pub ended : State → State × Reply
ended s = (at Closed s.grants, reply_at_next s.phase)

-- A station without a grant is done, and so is one that fetches, once it has the last record.
abbrev pub has_sent : Window → Option Grant → Bool
has_sent w None = true
has_sent w (Some g) = is_fetch g.mode && (g.position == w.next)

abbrev pub has_sent_all : List Window → Grants → Bool
has_sent_all feed grants = list_all (λ p. has_sent p.0 p.1) (zip feed grants)

-- at the next record's number
abbrev pub at_next : Bool → State → State × Sent
at_next true s = (at Closed s.grants, Sents.Done)
at_next false s = (s, Sents.Wait)

-- a record of the window, or none where it left it
abbrev pub packet_at : State → ℕ → Grant → Option (List ℕ) → State × Sent
packet_at s k g None = (at Closed s.grants, Sents.Overrun)
packet_at s k g (Some bytes) = (
  at s.phase (slice_set s.grants k (Some (record { mode = g.mode; position = g.position + 1 }))),
  Sents.Packet (packet_bytes (g.position % 2 ^ 24) bytes),
)

abbrev pub sent_from : List Window → State → ℕ → Grant → Window → State × Sent
sent_from feed s k g w =
    if g.position == w.next then at_next (has_sent_all feed s.grants) s else packet_at s k g (record_at w g.position)

abbrev pub sent_of : List Window → State → ℕ → Option Grant → Option Window → State × Sent
sent_of feed s k (Some g) (Some w) = sent_from feed s k g w
sent_of feed s k grant ring = (s, Sents.Wait)

abbrev pub sent_in : Phase → List Window → State → ℕ → State × Sent
sent_in Streaming feed s k = sent_of feed s k (grant_at s.grants k) (slice_get feed k)
sent_in Closed feed s k = (s, Sents.Closed)
sent_in phase feed s k = (s, Sents.Wait)

-- what is sent of a station when it is requested, and the state afterwards
abbrev pub sent : List Window → State → ℕ → State × Sent
sent feed s k = sent_in s.phase feed s k

-- the bytes of what is sent
abbrev pub sent_bytes : Sent → List ℕ
sent_bytes (Sents.Packet bytes) = bytes
sent_bytes Sents.Done = codes "END"
sent_bytes answer = []

-- what is sent where no record is
abbrev pub sent_without : Unsent → Sent
sent_without Unsents.Wait = Sents.Wait
sent_without Unsents.Done = Sents.Done
sent_without Unsents.Overrun = Sents.Overrun
sent_without Unsents.Closed = Sents.Closed

-- The station has no grant, or one at its ring's next record.
abbrev pub IsAtNext : List Window → Grants → ℕ → Type 0
IsAtNext feed grants k = (g : Grant) (w : Window) → grant_at grants k ≡ Some g → slice_get feed k ≡ Some w
    → g.position ≡ w.next

-- Nothing is sent of any station now.
abbrev pub IsWaiting : List Window → State → Type 0
IsWaiting feed s = (k : ℕ) → k < length feed → sent feed s k ≡ (s, Sents.Wait)

-- before records are sent
abbrev pub IsBefore : Phase → Type 0
IsBefore Streaming = ⊥
IsBefore Closed = ⊥
IsBefore phase = Unit {0}
