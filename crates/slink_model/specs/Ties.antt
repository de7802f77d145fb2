-- What is held of a station, and what of it is on its way to the client.
use Rattle.std.specs.Prelude.{◌≡◌, ℕ, ◌+◌, ◌-◌, ◌%◌, ◌^◌, ◌<◌, ◌≤◌, ◌⊎◌, ◌==◌, List, [], ◌∷◌, ◌++◌, length, codes}
use Rattle.std.specs.Prelude.{Bool, false, Option, Some, None, slice_get, slice_index_or, if◌then◌else◌}
use Rattle.slink_wire.specs.declared.reply.Reply.{Reply}
use Rattle.slink_wire.specs.declared.reply.Reply.TheVariants as replies
use Rattle.slink_wire.specs.Packet.{packet_bytes}
use Rattle.slink_wire.specs.Place.{Bears, Fields}
use Rattle.slink_wire.specs.Reply.{reply_bytes}
use Rattle.slink_feed.specs.declared.dialogue.Ending.{Ending}
use Rattle.slink_feed.specs.declared.dialogue.Event.{Event}
use Rattle.slink_feed.specs.declared.dialogue.Event.TheVariants as events
use Rattle.slink_feed.specs.declared.dialogue.Stage.TheVariants.{Ended}
use Rattle.slink_feed.specs.declared.grant.Grant.{Grant}
use Rattle.slink_feed.specs.declared.dialogue.Wanted.{Wanted}
use Rattle.slink_feed.specs.declared.session.Phase.{Phase}
use Rattle.slink_feed.specs.declared.session.Phase.TheVariants.{Streaming, Closed}
use Rattle.slink_feed.specs.Dialogue.{Wants, place_of, next_at, want_at, with_next}
use Rattle.slink_feed.specs.Listening.{IsLinked, Listening}
use Rattle.slink_feed.specs.Session.{State, grant_at, IsBefore}
use Rattle.slink_feed.specs.Window.{Shows, Window, oldest_of}
use Rattle.slink_feed.specs.Running.{HasStream}
use Rattle.slink_model.specs.World.{LinkState, Lists, Numbers, WorldState, number_at}

-- What is held of a station is one slice of all its records, in their order and each once: `start` is the number of the
-- first one held, and the number of the record after the last one is wanted next.
abbrev pub Holds : ℕ → List (List ℕ) → Option ℕ → List (List ℕ) → Option ℕ → Type 0
Holds first pushed next held None = held ≡ []
Holds first pushed next held (Some start) =
    (older : List (List ℕ)) × (later : List (List ℕ)) × (pushed ≡ older ++ (held ++ later))
    × (start ≡ first + length older) × (next ≡ Some ((start + length held) % 2 ^ 24))

-- what a server sends: a reply, the packet of a record of a station, with the record's whole number, or the end
pub data Item : Type 0 where
  Accepted : Item
  Refused : Item
  Greeted : Item
  Carried : ℕ → ℕ → List ℕ → Item
  Finished : Item

abbrev pub item_bytes : Item → List ℕ
item_bytes Accepted = reply_bytes replies.Ok
item_bytes Refused = reply_bytes replies.Error
item_bytes Greeted = reply_bytes replies.Hello
item_bytes (Carried k n r) = packet_bytes (n % 2 ^ 24) r
item_bytes Finished = codes "END"

abbrev pub way_bytes : List Item → List ℕ
way_bytes [] = []
way_bytes (i ∷ is) = item_bytes i ++ way_bytes is

abbrev pub items_of : Reply → List Item
items_of replies.Nothing = []
items_of replies.Ok = Accepted ∷ []
items_of replies.Error = Refused ∷ []
items_of replies.Hello = Greeted ∷ []

-- the records of one station, with their numbers
abbrev pub carried_of : ℕ → Item → List (ℕ × List ℕ)
carried_of k (Carried j n r) = if j == k then (n, r) ∷ [] else []
carried_of k item = []

abbrev pub of_place : ℕ → List Item → List (ℕ × List ℕ)
of_place k [] = []
of_place k (i ∷ is) = carried_of k i ++ of_place k is

-- records of a station that have the numbers from n on
abbrev pub AreNext : ℕ → List (List ℕ) → ℕ → List (ℕ × List ℕ) → Type 0
AreNext first pushed n [] = Unit {0}
AreNext first pushed n (i ∷ is) =
    (i.0 ≡ n) × (slice_get pushed (n - first) ≡ Some i.1) × AreNext first pushed (n + 1) is

-- The record that comes next is the one after the last one held, or at least it isn't 2^24 or more before it.
abbrev pub IsNear : (ℕ → Type 0) → ℕ → Option ℕ → ℕ → Type 0
IsNear few n None count = Unit {0}
IsNear few n (Some start) count = (n ≡ start + count) ⊎ ((start + count < n + 2 ^ 24) × few (start + count))

-- While nothing is held of a station, its first packet on the way is the first that the link was sent.
abbrev pub IsFirst : Option ℕ → Option ℕ → ℕ → List (ℕ × List ℕ) → Type 0
IsFirst (Some start) first_sent n rest = Unit {0}
IsFirst None None n rest = rest ≡ []
IsFirst None (Some f) n rest = n ≡ f

-- what is on its way of a station: nothing without a grant
abbrev pub IsOnWay : (ℕ → Type 0) → ℕ → List (List ℕ) → List (List ℕ) → Option ℕ → Option ℕ → Option Grant
    → List (ℕ × List ℕ) → Type 0
IsOnWay few first pushed held start first_sent None rest = rest ≡ []
IsOnWay few first pushed held start first_sent (Some g) rest =
    (n : ℕ) × (first ≤ n) × AreNext first pushed n rest × (g.position ≡ n + length rest)
    × IsNear few n start (length held) × IsFirst start first_sent n rest

-- each record of a station carries it
abbrev pub AreSound : Fields → List (List ℕ) → Type 0
AreSound place pushed = (i : ℕ) (r : List ℕ) → slice_get pushed i ≡ Some r → (length r ≡ 512) × Bears r place

-- a record that a client's event reports: the index of its station, its number modulo 2^24, its bytes
pub record Reported : Type 0 where
  pub index : ℕ
  pub number : ℕ
  pub bytes : List ℕ

abbrev pub reported_of : Event → Option Reported
reported_of (events.Record k number bytes) = Some (record { index = k; number = number; bytes = bytes })
reported_of event = None

-- what comes of bytes that a client takes, which wants this
pub data Outcome (wants : Wants) (items : List Item) (bytes way : List ℕ) (new : Listening) (e : Event) : Type 0 where
  waits : new.talk.wants ≡ wants → new.kept ≡ bytes → reported_of e ≡ None → Outcome wants items bytes way new e
  says : (rest : List Item) → items ≡ Accepted ∷ rest → way ≡ way_bytes rest → new.talk.wants ≡ wants → new.kept ≡ []
      → reported_of e ≡ None → Outcome wants items bytes way new e
  takes : (k j n : ℕ) (r : List ℕ) (rest : List Item) → items ≡ Carried k n r ∷ rest → way ≡ way_bytes rest
      → place_of wants r ≡ Some j → ((w : ℕ) → next_at wants j ≡ Some w → n % 2 ^ 24 ≡ w)
      → new.talk.wants ≡ with_next wants j ((n % 2 ^ 24 + 1) % 2 ^ 24) → new.kept ≡ []
      → reported_of e ≡ Some (record { index = j; number = n % 2 ^ 24; bytes = r })
      → Outcome wants items bytes way new e
  ends : (ending : Ending) → new.talk.stage ≡ Ended ending → new.talk.wants ≡ wants → new.kept ≡ []
      → reported_of e ≡ None → Outcome wants items bytes way new e

-- What a station is granted once a command was answered: what it was, nothing, or a number from the window or the next.
pub data IsGranted (feed : List Window) (k : ℕ) (old new : Option Grant) : Type 0 where
  same : new ≡ old → IsGranted feed k old new
  dropped : new ≡ None → IsGranted feed k old new
  given : (g : Grant) (w : Window) → new ≡ Some g → slice_get feed k ≡ Some w → oldest_of w ≤ g.position
      → g.position ≤ w.next → IsGranted feed k old new

-- what an answer leaves: before records are sent, each station is granted so; afterwards the grants stay, and there is
-- no reply
abbrev pub Leaves : Phase → List Window → State → State × Reply → Type 0
Leaves Streaming feed s x = (x.0.grants ≡ s.grants) × (x.1 ≡ replies.Nothing) × ¬ (IsBefore x.0.phase)
Leaves Closed feed s x = (x.0.grants ≡ s.grants) × (x.1 ≡ replies.Nothing) × ¬ (IsBefore x.0.phase)
Leaves phase feed s x = (k : ℕ) → IsGranted feed k (grant_at s.grants k) (grant_at x.0.grants k)

-- the stations, each with the number that was wanted first
abbrev pub Places : Type 0
Places = List (Fields × Option ℕ)

-- Of records that are carried, each has 512 bytes and is of its station.
abbrev pub IsOfPlace : Places → Item → Type 0
IsOfPlace places (Carried k n r) = (p : Fields × Option ℕ) × (slice_get places k ≡ Some p) × (length r ≡ 512)
    × Bears r p.0
IsOfPlace places item = Unit {0}

abbrev pub AreOfPlace : Places → List Item → Type 0
AreOfPlace places [] = Unit {0}
AreOfPlace places (i ∷ is) = IsOfPlace places i × AreOfPlace places is

-- Each ring shows what was pushed to it.
abbrev pub AreShown : Places → ℕ → List Window → Lists → Type 0
AreShown places first windows pushed = (k : ℕ) → k < length places
    → (w : Window) × (slice_get windows k ≡ Some w) × Shows w first (slice_index_or pushed k [])
    × (w.capacity ≤ 1000000)

abbrev pub AreOfPlaces : Places → Lists → Type 0
AreOfPlaces places pushed = (k : ℕ) (p : Fields × Option ℕ) → slice_get places k ≡ Some p
    → AreSound p.0 (slice_index_or pushed k [])

abbrev pub AreWanted : Places → Wants → Type 0
AreWanted places wants = (k : ℕ) (w : Wanted) → want_at wants k ≡ Some w
    → (p : Fields × Option ℕ) × (slice_get places k ≡ Some p) × (w.place ≡ p.0)

-- Where nothing is held of a station, the number that was wanted first is wanted still.
abbrev pub WantFirst : Places → Wants → Numbers → Type 0
WantFirst places wants start = (k : ℕ) (p : Fields × Option ℕ) → slice_get places k ≡ Some p → number_at start k ≡ None
    → next_at wants k ≡ p.1

-- Of each station a slice is held.
abbrev pub AllHold : Places → ℕ → Lists → Wants → Lists → Numbers → Type 0
AllHold places first pushed wants held start = (k : ℕ) → k < length places
    → Holds first (slice_index_or pushed k []) (next_at wants k) (slice_index_or held k []) (number_at start k)

-- a link, by what is on its way to the client
pub record LinkTies (places : Places) (first : ℕ) (few : ℕ → ℕ → Type 0) (pushed : Lists) (client : Listening)
    (held : Lists) (start : Numbers) (state : State) (first_sent : Numbers) (way : List ℕ) : Type 0 where
  pub items : List Item
  pub matched : AreOfPlace places items
  pub flow : IsLinked client.talk.stage → client.kept ++ way ≡ way_bytes items
  pub before : IsBefore state.phase → (k : ℕ) → (of_place k items ≡ []) × (number_at first_sent k ≡ None)
  pub places_are : (k : ℕ) → k < length places
      → IsOnWay (few k) first (slice_index_or pushed k []) (slice_index_or held k []) (number_at start k)
      (number_at first_sent k) (grant_at state.grants k) (of_place k items)
  pub room : length first_sent ≡ 16

abbrev pub IsLinkTied : Places → ℕ → Lists → Listening → Lists → Numbers → Option LinkState → Type 0
IsLinkTied places first pushed client held start None = Unit {0}
IsLinkTied places first pushed client held start (Some l) =
    HasStream l.session
    × LinkTies places first (λ k x. Unit {0}) pushed client held start l.session.state l.first_sent l.to_client

-- what is held beside a link, and what is wanted
pub record Besides (places : Places) (first : ℕ) (pushed : Lists) (wants : Wants) (holes : Bool) (held : Lists)
    (start : Numbers) : Type 0 where
  pub wanted : AreWanted places wants
  pub plain : holes ≡ false
  pub holds : AllHold places first pushed wants held start
  pub want_first : WantFirst places wants start
  pub long : (length held ≡ length places) × (length start ≡ length places)

-- how a world stands to all records that were pushed, at any moment of any schedule
pub record WorldTies (places : Places) (first : ℕ) (w : WorldState) : Type 0 where
  pub beside : Besides places first w.pushed w.client.talk.wants w.client.talk.holes w.held w.start
  pub link : IsLinkTied places first w.pushed w.client w.held w.start w.link
