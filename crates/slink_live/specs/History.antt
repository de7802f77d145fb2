-- What a link is sent: what one session sends, to the link's own lines alone, over the rings of the records so far.
use Rattle.std.specs.Prelude.{◌≡◌, ℕ, ◌+◌, ◌<◌, ◌≤◌, ◌⊎◌, false, List, [], ◌∷◌, ◌++◌, length, Option, Some}
use Rattle.std.specs.Prelude.{None}
use Rattle.mseed_stream.specs.Device.{IsPrefixOf}
use Rattle.slink_feed.specs.declared.session.Sent.{Sent}
use Rattle.slink_feed.specs.declared.session.Sent.TheVariants as Sents
use Rattle.slink_feed.specs.Serving.{IsNew, Serves, SessionState}
use Rattle.slink_feed.specs.Session.{State, sent, sent_bytes}
use Rattle.slink_feed.specs.Window.{Window}
use Rattle.slink_live.specs.Happening.{Happening, Opened, Received, Emitted, Gone, input_of, is_at}
use Rattle.slink_live.specs.Input.{IsFed}

-- a session, the station that is called next, what was sent so far, and what its link accepted of that
pub record History : Type 0 where
  pub session : SessionState
  pub ring : ℕ
  pub produced : List ℕ
  pub emitted : List ℕ

abbrev pub history : SessionState → ℕ → List ℕ → List ℕ → History
history session ring produced emitted =
    record { session = session; ring = ring; produced = produced; emitted = emitted }

-- In a round of the stations from one on, the station comes before another.
abbrev pub IsEarlier : ℕ → ℕ → ℕ → Type 0
IsEarlier ring j k = ((ring ≤ j) × (j < k)) ⊎ ((k < ring) × (ring ≤ j)) ⊎ ((k < ring) × (j < k))

-- It is the first of which something is sent, in a round of the stations from one on.
pub record IsTurn (feed : List Window) (s : State) (ring k : ℕ) : Type 0 where
  pub within : k < length feed
  pub sends : ¬ (sent feed s k ≡ (s, Sents.Wait))
  pub first : (j : ℕ) → j < length feed → IsEarlier ring j k → sent feed s j ≡ (s, Sents.Wait)

-- A session is called for packets, in turns: each time for the first station of which something is sent, in a round
-- from the one after the station that was called last. What it gives goes on its way.
pub data Asks (feed : List Window) (s : SessionState) (ring : ℕ) (way : List ℕ) : SessionState → ℕ → List ℕ
    → Type 0 where
  none_called : Asks feed s ring way s ring way
  one_called : (now last : SessionState) (turn k : ℕ) (answer : Sent) (on all : List ℕ)
      → Asks feed s ring way now turn on
      → IsTurn feed now.state turn k → sent feed now.state k ≡ (last.state, answer) → last.held ≡ now.held
      → all ≡ on ++ sent_bytes answer → Asks feed s ring way last (k + 1) all

-- What happened comes to this in a slot: no link stands there, or this is the history of the one that does. A link
-- comes where none stands. What it says is answered by its session, as slink_feed has it, from the rings as the input
-- made them so far; packets may be requested of its session at any time, in turns; and of all that, the link takes a
-- prefix.
pub data IsServed (start : List Window) (k : ℕ) : List Happening → Option History → Type 0 where
  no_event : IsServed start k [] None
  elsewhere : (before now : List Happening) (h : Happening) (o : Option History) → IsServed start k before o
      → is_at k h ≡ false → now ≡ before ++ h ∷ [] → IsServed start k now o
  opens : (before now : List Happening) (s : SessionState) → IsServed start k before None → IsNew s
      → now ≡ before ++ Opened k ∷ [] → IsServed start k now (Some (history s 0 [] []))
  receives : (before now : List Happening) (feed : List Window) (s new : SessionState) (ring : ℕ)
      (bytes produced all emitted : List ℕ) → IsServed start k before (Some (history s ring produced emitted))
      → IsFed start (input_of before) feed → Serves feed s bytes produced new all
      → now ≡ before ++ Received k bytes ∷ [] → IsServed start k now (Some (history new ring all emitted))
  asks : (log : List Happening) (feed : List Window) (s new : SessionState) (ring turn : ℕ)
      (produced all emitted : List ℕ) → IsServed start k log (Some (history s ring produced emitted))
      → IsFed start (input_of log) feed → Asks feed s ring produced new turn all
      → IsServed start k log (Some (history new turn all emitted))
  takes : (before now : List Happening) (s : SessionState) (ring : ℕ) (bytes produced emitted : List ℕ)
      → IsServed start k before (Some (history s ring produced emitted)) → IsPrefixOf (emitted ++ bytes) produced
      → now ≡ before ++ Emitted k bytes ∷ [] → IsServed start k now (Some (history s ring produced (emitted ++ bytes)))
  goes : (before now : List Happening) (o : Option History) → IsServed start k before o
      → now ≡ before ++ Gone k ∷ [] → IsServed start k now None
