-- What is owed to a link while the server waits, and when a link is closed and taken.
use Rattle.std.specs.Prelude.{◌≡◌, ◌≢◌, ◌↔◌, ◌⊎◌, ◌+◌, ◌<◌, ◌≤◌, ℕ, Bool, true, false, not, ◌&&◌, List, [], ◌∷◌, ◌++◌}
use Rattle.std.specs.Prelude.{Option, Some, None, get_or, length, slice_get}
use Rattle.slink_wire.specs.declared.packet.TheConstants.{PACKET}
use Rattle.slink_feed.specs.declared.grant.Grant.{Grant}
use Rattle.slink_feed.specs.declared.session.Phase.TheVariants.{Streaming, Closed}
use Rattle.slink_feed.specs.Session.{Grants, IsWaiting, State, grant_at}
use Rattle.slink_feed.specs.Window.{Window, oldest_of}
use Rattle.slink_live.specs.declared.link.TheConstants.{REPLY}
use Rattle.slink_live.specs.declared.pending.TheConstants.{MOST_PENDING}
use Rattle.slink_live.specs.declared.ready.Interest.{Interest}
use Rattle.slink_live.specs.declared.ready.Event.TheVariants as events
use Rattle.slink_live.specs.Happening.{Happening, Gone, Next, is_left, last_interest, wants_links}
use Rattle.slink_live.specs.Served.{IsServing, LinkState, ServerState}

-- The next record of a station is no longer in its ring.
pub record HasLeft (feed : List Window) (grants : Grants) (k : ℕ) : Type 0 where
  pub ring : Window
  pub grant : Grant
  pub there : slice_get feed k ≡ Some ring
  pub granted : grant_at grants k ≡ Some grant
  pub left : grant.position < oldest_of ring

-- It streams, and the next record of a station of its is no longer in the ring.
pub record IsLost (feed : List Window) (s : State) : Type 0 where
  pub streams : s.phase ≡ Streaming
  pub k : ℕ
  pub place : HasLeft feed s.grants k

-- The rings of the stations that were granted are the same.
abbrev pub AreSame : Grants → List Window → List Window → Type 0
AreSame grants old new = (k : ℕ) (g : Grant) → grant_at grants k ≡ Some g → slice_get new k ≡ slice_get old k

-- Its session is over, and nothing is pending.
pub record MustClose (l : LinkState) : Type 0 where
  pub closed : l.session.state.phase ≡ Closed
  pub none : l.pending ≡ []

-- It streams, nothing is due, and nothing is pending.
pub record HasAll (feed : List Window) (l : LinkState) : Type 0 where
  pub streams : l.session.state.phase ≡ Streaming
  pub waits : IsWaiting feed l.session.state
  pub none : l.pending ≡ []

-- Why a link is closed, but for that the device reports that it is gone. One that still shakes hands is not.
pub data IsClosable (feed : List Window) (has_ended : Bool) (l : LinkState) : Type 0 where
  must_close : MustClose l → IsClosable feed has_ended l
  is_lost : IsLost feed l.session.state → IsClosable feed has_ended l
  has_all : has_ended ≡ true → HasAll feed l → IsClosable feed has_ended l

-- There is room for the replies to a byte of a link.
abbrev pub HasRoom : LinkState → Type 0
HasRoom l = length l.pending + REPLY ≤ MOST_PENDING

-- Nothing more is due to a link, or there is no room for a packet.
abbrev pub IsFilled : List Window → LinkState → Type 0
IsFilled feed l = length l.pending + PACKET ≤ MOST_PENDING
    → IsWaiting feed l.session.state ⊎ (l.session.state.phase ≡ Closed)

-- It has bytes pending, and it was reported to the device that it wants to write; or nothing more is due to it.
pub data Sleeps (feed : List Window) (l : LinkState) (interest : Interest) : Type 0 where
  writes : l.pending ≢ [] → interest.writes ≡ true → Sleeps feed l interest
  waits : l.pending ≡ [] → interest.writes ≡ false → IsWaiting feed l.session.state → Sleeps feed l interest

-- A link stands by right, and what is wanted of it was reported to the device.
pub record IsUpToDate (feed : List Window) (has_ended : Bool) (l : LinkState) (interest : Interest) : Type 0 where
  pub stands : ¬ (IsClosable feed has_ended l)
  pub sleeps : Sleeps feed l interest
  pub filled : IsFilled feed l
  pub most : length l.pending ≤ MOST_PENDING
  pub reads : (interest.reads ≡ true) ↔ HasRoom l
  pub streams : (interest.is_streaming ≡ true) ↔ (l.session.state.phase ≡ Streaming)

-- So it is with the link in a slot, where one stands.
abbrev pub IsAwakeIn : ServerState → List Happening → ℕ → Type 0
IsAwakeIn s log k = (l : LinkState) → get_or s.links k None ≡ Some l
    → IsUpToDate s.intake.feed s.has_ended l (last_interest k log)

-- whether a slot is free
abbrev pub has_free : List (Option LinkState) → Bool
has_free [] = false
has_free (None ∷ links) = true
has_free (Some l ∷ links) = has_free links

-- It was reported to the device that links are wanted exactly where the input is read and a slot is free, and that the
-- input is read no more exactly where that is so.
pub record IsReported (s : ServerState) (log : List Happening) : Type 0 where
  pub links : wants_links log ≡ (not s.has_ended && has_free s.links)
  pub left : is_left log ≡ s.has_ended

-- No link sleeps.
pub record IsAwake (s : ServerState) (log : List Happening) : Type 0 where
  pub each : (k : ℕ) → IsAwakeIn s log k
  pub is_reported : IsReported s log

-- The slot is the first that is free.
pub record IsFirstFree (links : List (Option LinkState)) (k : ℕ) : Type 0 where
  pub within : k < length links
  pub free : get_or links k None ≡ None
  pub first : (j : ℕ) → j < k → get_or links j None ≢ None

-- Something happened one after another, and each time this held of what had happened and of it.
pub data Goes (P : List Happening → Happening → Type 0) (first : List Happening) : List Happening → Type 0 where
  nothing : Goes P first first
  further : (before now : List Happening) (h : Happening) → Goes P first before → P before h
      → now ≡ before ++ h ∷ [] → Goes P first now

-- The link in a slot was closable, as the server stood by then.
pub record WasClosable (start : List Window) (before : List Happening) (k : ℕ) : Type 0 where
  pub server : ServerState
  pub link : LinkState
  pub serving : IsServing start server before
  pub stood : get_or server.links k None ≡ Some link
  pub left : is_left before ≡ server.has_ended
  pub closable : IsClosable server.intake.feed server.has_ended link

-- A link is closed where the device reported that it is gone, or it was closable.
abbrev pub IsClosedRightly : List Window → List Happening → Happening → Type 0
IsClosedRightly start before (Gone k) =
    ((earlier : List Happening) × (before ≡ earlier ++ Next (events.Gone k) ∷ [])) ⊎ WasClosable start before k
IsClosedRightly start before _ = Unit {0}
