-- The records of some channels, and of a window of time, of an archive that lies in memory.
use Rattle.std.specs.Prelude.{◌≡◌, ◌≢◌, ◌==◌, ◌≤ℤ◌, ◌<◌, ◌⊎◌, if◌then◌else◌, ℕ, ℤ, List, [], ◌∷◌, length, drop, Option}
use Rattle.std.specs.Prelude.{Some, None, IsTrue}
use Rattle.std.specs.List.{count_by}
use Rattle.mseed_time.specs.Btime.{IsInstant}
use Rattle.mseed_record.specs.View.{View}
use Rattle.mseed_stream.specs.Walk.{AreViews}
use Rattle.mseed_record.specs.Pattern.{are_patterns}
use Rattle.mseed_select.specs.Select.{selected_bytes}
use Rattle.mseed_record.specs.Selection.{Selection, asks_for, lacks_time}
use Rattle.mseed_c.specs.Codes.{code_of_stop, needed_by}
use Rattle.mseed_c.specs.Decoded.{IsStopAt}
use Rattle.mseed_c.specs.Room.{overwritten}
use Rattle.mseed_c.specs.declared.codes.Stop.{Stop}
use Rattle.mseed_c.specs.declared.selecting.Selected.{Selected}
use Rattle.mseed_c.specs.declared.selecting.Window.{Window}

-- one end of a window, where it has it
abbrev pub bound_of : ℕ → ℤ → Option ℤ
bound_of has micros = if has == 0 then None else Some micros

-- the patterns of a text; an empty one has none
abbrev pub channels_of : List ℕ → Option (List ℕ)
channels_of [] = None
channels_of (c ∷ cs) = Some (c ∷ cs)

-- what is asked for
abbrev pub asked_by : List ℕ → Window → Selection
asked_by channels w = record {
  channels = channels_of channels;
  from = bound_of w.has_from w.from;
  until = bound_of w.has_until w.until;
}

-- the window has an end that is no instant
abbrev pub HasNoInstant : Window → Type 0
HasNoInstant w =
    ((w.has_from ≢ 0) × ¬ (IsInstant w.from)) ⊎ ((w.has_until ≢ 0) × ¬ (IsInstant w.until))

-- the window has both ends, and its end isn't after its beginning
abbrev pub IsEmptyWindow : Window → Type 0
IsEmptyWindow w = (w.has_from ≢ 0) × (w.has_until ≢ 0) × (w.until ≤ℤ w.from)

-- These are the records of the bytes up to where the next one would begin. Those of them that are asked for stand in
-- the room, as many bytes of them as it has, and they are counted.
pub record AreSelected (s : Selection) (bytes old new : List ℕ) (r : Selected) (views : List View) : Type 0 where
  pub are_views : AreViews bytes r.offset views
  pub room : new ≡ overwritten (selected_bytes s views) old
  pub length_is : r.length ≡ length (selected_bytes s views)
  pub records : r.records ≡ length views
  pub asked_for : r.asked_for ≡ count_by (asks_for s) views
  pub without_time : r.without_time ≡ count_by (lacks_time s) views

-- by the code: all bytes were read, or there's a reason why no more were, with its number
pub data IsSelectEnd (bytes : List ℕ) (r : Selected) : ℕ → Type 0 where
  at_end : r.offset ≡ length bytes → r.needed ≡ 0 → IsSelectEnd bytes r 0
  stopped : (stop : Stop) → r.offset < length bytes → IsStopAt (drop r.offset bytes) stop → r.needed ≡ needed_by stop
      → IsSelectEnd bytes r (code_of_stop stop)

pub record IsSelectedTo (s : Selection) (bytes old new : List ℕ) (r : Selected) (code : ℕ) : Type 0 where
  pub views : List View
  pub selected : AreSelected s bytes old new r views
  pub ends : IsSelectEnd bytes r code

-- By the code: why nothing can be asked for so, the first reason that applies, and then all stays; or what was
-- selected.
pub data IsSelectOutcome (channels : List ℕ) (w : Window) (bytes old new : List ℕ) (before r : Selected)
    : ℕ → Type 0 where
  bad_time : HasNoInstant w → new ≡ old → r ≡ before → IsSelectOutcome channels w bytes old new before r 80
  bad_patterns : ¬ (HasNoInstant w) → channels ≢ [] → ¬ (IsTrue (are_patterns channels)) → new ≡ old → r ≡ before
      → IsSelectOutcome channels w bytes old new before r 81
  bad_window : ¬ (HasNoInstant w) → (channels ≡ []) ⊎ IsTrue (are_patterns channels) → IsEmptyWindow w → new ≡ old
      → r ≡ before → IsSelectOutcome channels w bytes old new before r 82
  taken : (code : ℕ) → ¬ (HasNoInstant w) → (channels ≡ []) ⊎ IsTrue (are_patterns channels) → ¬ (IsEmptyWindow w)
      → IsSelectedTo (asked_by channels w) bytes old new r code
      → IsSelectOutcome channels w bytes old new before r code
