-- How a server stands to what happened.
use Rattle.std.specs.Prelude.{◌≡◌, ℕ, Bool, true, false, ◌+◌, ◌*◌, ◌^◌, ◌<◌, ◌≤◌, List, ◌++◌, length, get_or, Option}
use Rattle.std.specs.Prelude.{Some, None, slice_get}
use Rattle.slink_feed.specs.Serving.{SessionState}
use Rattle.slink_feed.specs.Session.{Fits}
use Rattle.slink_feed.specs.Window.{Window}
use Rattle.slink_live.specs.declared.intake.TheConstants.{INPUT}
use Rattle.slink_live.specs.Happening.{Happening, input_of, reads_of}
use Rattle.slink_live.specs.Input.{IsFedTo, MayBegin}
use Rattle.slink_live.specs.History.{IsServed, History}

-- what a server keeps of a link: its session, the station that is called next, and what was sent that the link didn't
-- accept yet
pub record LinkState : Type 0 where
  pub session : SessionState
  pub ring : ℕ
  pub pending : List ℕ

abbrev pub link_state : SessionState → ℕ → List ℕ → LinkState
link_state session ring pending = record { session = session; ring = ring; pending = pending }

-- what it keeps of the input: the rings, the bytes after the last record, and how many records there were
pub record IntakeState : Type 0 where
  pub feed : List Window
  pub kept : List ℕ
  pub records : ℕ

-- what a clause sees of a server: the links in their slots, whether the input is read no more, and how often it was
pub record ServerState : Type 0 where
  pub intake : IntakeState
  pub links : List (Option LinkState)
  pub has_ended : Bool
  pub reads : ℕ

-- Records can be numbered on: each ring's next number is at most this.
abbrev pub IsBelow : ℕ → List Window → Type 0
IsBelow n feed = (k : ℕ) (w : Window) → slice_get feed k ≡ Some w → w.next ≤ n

-- The session of each link can be served from these rings.
abbrev pub AllFit : List Window → List (Option LinkState) → Type 0
AllFit feed links = (k : ℕ) (l : LinkState) → get_or links k None ≡ Some l → Fits feed l.session.state

-- what a server keeps to
pub record IsSound (s : ServerState) : Type 0 where
  pub short : s.has_ended ≡ false → length s.intake.kept < 512
  pub begins : s.has_ended ≡ false → MayBegin s.intake.kept
  pub fit : AllFit s.intake.feed s.links
  pub below : IsBelow (2 ^ 62 + INPUT * s.reads) s.intake.feed
  pub few : s.intake.records ≤ INPUT * s.reads
  pub few_reads : s.reads ≤ 2 ^ 40

-- A slot has a link where the history has one: with its session and the station that is called next, and what that sent
-- and the link didn't accept yet.
abbrev pub Matches : Option LinkState → Option History → Type 0
Matches None None = Unit {0}
Matches (Some l) (Some t) = (t.session ≡ l.session) × (t.ring ≡ l.ring) × (t.produced ≡ t.emitted ++ l.pending)
Matches o past = ⊥

-- what happened in a slot comes to a history that its link matches
pub record IsHistory (start : List Window) (k : ℕ) (o : Option LinkState) (log : List Happening) : Type 0 where
  pub past : Option History
  pub served : IsServed start k log past
  pub matches : Matches o past

-- The server has served its input and its links, from these rings on, by what happened.
pub record IsServing (start : List Window) (s : ServerState) (log : List Happening) : Type 0 where
  pub rest : List ℕ
  pub fed : IsFedTo start (input_of log) s.intake.feed rest
  pub counted : s.intake.records ≡ length fed.records
  pub goes_on : s.has_ended ≡ false → rest ≡ s.intake.kept
  pub read : s.reads ≡ reads_of log
  pub slots : (k : ℕ) → IsHistory start k (get_or s.links k None) log

-- No link stands in any slot.
abbrev pub AreEmpty : List (Option LinkState) → Type 0
AreEmpty links = (k : ℕ) → get_or links k None ≡ None

-- Nothing is left to do: the input is read no more, and no link stands.
pub record IsFinished (s : ServerState) : Type 0 where
  pub ended : s.has_ended ≡ true
  pub empty : AreEmpty s.links

-- What happened goes on from what had happened.
abbrev pub GoesOn : List Happening → List Happening → Type 0
GoesOn old new = (more : List Happening) × (new ≡ old ++ more)

-- An input that is read no more stays so: nothing further comes of it.
abbrev pub StaysUnread : ServerState → ServerState → List Happening → List Happening → Type 0
StaysUnread s t old new = s.has_ended ≡ true → (t.has_ended ≡ true) × (input_of new ≡ input_of old)
