-- A client over the stream of bytes that its link brought so far.
use Rattle.std.specs.Prelude.{◌≡◌, ℕ, Bool, List, [], ◌∷◌, ◌++◌, Option}
use Rattle.slink_wire.specs.Place.{Fields}
use Rattle.slink_feed.specs.declared.grant.Mode.{Mode}
use Rattle.slink_feed.specs.declared.dialogue.Event.{Event}
use Rattle.slink_feed.specs.declared.dialogue.Event.TheVariants as events
use Rattle.slink_feed.specs.declared.dialogue.Stage.{Stage}
use Rattle.slink_feed.specs.declared.dialogue.Stage.TheVariants.{Unlinked, Station, Number, Ended}
use Rattle.slink_feed.specs.Cutting.{IsBegun, IsWhole}
use Rattle.slink_feed.specs.Dialogue.{Talk, Whole, read, wants_of}

-- what a client has come to, and the bytes of a whole that is begun
pub record Listening : Type 0 where
  pub talk : Talk
  pub kept : List ℕ

-- a client of these stations before its first link, which goes past holes or doesn't
abbrev pub new_client : List (Fields × Option ℕ) → Mode → Bool → Listening
new_client places mode holes = record {
  talk = record {
    mode = mode;
    wants = wants_of places;
    stage = Unlinked;
    holes = holes;
    packets = 0;
    reply = [];
  };
  kept = [];
}

-- A reply is awaited.
abbrev pub AwaitsReply : Stage → Type 0
AwaitsReply (Station k) = Unit {0}
AwaitsReply (Number k) = Unit {0}
AwaitsReply stage = ⊥

-- There is a link, of which more is taken.
abbrev pub IsLinked : Stage → Type 0
IsLinked Unlinked = ⊥
IsLinked (Ended ending) = ⊥
IsLinked stage = Unit {0}

-- What comes of bytes that are there since the last whole: they are one, which is read, and nothing is kept; or they
-- are kept, and more are awaited.
pub data Brings (talk : Talk) (bytes : List ℕ) (new : Listening) (event : Event) : Type 0 where
  whole : (w : Whole) → IsWhole talk.stage bytes w → read talk w ≡ (new.talk, event) → new.kept ≡ []
      → Brings talk bytes new event
  begun : IsBegun talk.stage bytes → new ≡ record { talk = talk; kept = bytes } → event ≡ events.None
      → Brings talk bytes new event

-- an event, where there is one
abbrev pub event_if_any : Event → List Event
event_if_any events.None = []
event_if_any event = event ∷ []

-- a whole, with its bytes
pub record Brought : Type 0 where
  pub bytes : List ℕ
  pub whole : Whole

-- each is a whole of what is awaited once those before it were read
abbrev pub AreBrought : Talk → List Brought → Type 0
AreBrought talk [] = Unit {0}
AreBrought talk (b ∷ bs) = IsWhole talk.stage b.bytes b.whole × AreBrought (read talk b.whole).0 bs

-- what the client has come to once all were read
abbrev pub talk_after : Talk → List Brought → Talk
talk_after talk [] = talk
talk_after talk (b ∷ bs) = talk_after (read talk b.whole).0 bs

-- the events that report them
abbrev pub events_of : Talk → List Brought → List Event
events_of talk [] = []
events_of talk (b ∷ bs) = event_if_any (read talk b.whole).1 ++ events_of (read talk b.whole).0 bs

abbrev pub bytes_of : List Brought → List ℕ
bytes_of [] = []
bytes_of (b ∷ bs) = b.bytes ++ bytes_of bs

-- A stream of bytes reads as wholes, which these events report, and as bytes of one that is begun.
pub record Reads (start : Talk) (stream : List ℕ) (events : List Event) (now : Listening) : Type 0 where
  pub brought : List Brought
  pub are_brought : AreBrought start brought
  pub bytes : stream ≡ bytes_of brought ++ now.kept
  pub events_are : events ≡ events_of start brought
  pub talk : now.talk ≡ talk_after start brought
  pub is_begun : IsBegun now.talk.stage now.kept
