-- What is written when records are selected.
use Rattle.std.specs.Prelude.{◌≡◌, ℕ, ◌+◌, List, ◌++◌, length, Result, Ok, Err}
use Rattle.std.specs.List.{concat, filter, count_by}
use Rattle.mseed_record.specs.View.{View}
use Rattle.mseed_stream.specs.Device.{BytesRead, BytesWritten}
pub use Rattle.mseed_stream.specs.Gathered.{EmittedFirst, EmittedPart}
use Rattle.mseed_stream.specs.Walk.{AreViews, AreAllViews, bytes_in}
use Rattle.mseed_select.specs.declared.fault.SelectFault.{SelectFault}
use Rattle.mseed_select.specs.declared.fault.SelectFault.TheVariants.{Write, Memory}
use Rattle.mseed_select.specs.declared.selected.Selected.{Selected}
use Rattle.mseed_record.specs.Selection.{Selection, asks_for, lacks_time}

-- the bytes of the records that are asked for, in their order
abbrev pub selected_bytes : Selection → List View → List ℕ
selected_bytes s views = concat (bytes_in (filter (asks_for s) views))

-- what a selection counts of some records
pub record AreCounted (s : Selection) (views : List View) (found : Selected) : Type 0 where
  pub records : found.records ≡ length views
  pub written : found.written ≡ count_by (asks_for s) views
  pub without_time : found.without_time ≡ count_by (lacks_time s) views

-- all the records that are asked for were written, and nothing else
pub record IsWhole (s : Selection) (found : Selected) (h : BytesRead) (old new : BytesWritten) (views : List View)
    : Type 0 where
  pub all : AreAllViews h views found.end
  pub bytes : new.bytes ≡ old.bytes ++ selected_bytes s views
  pub fine : new.failures ≡ old.failures
  pub counted : AreCounted s views found

-- what was written is so of those of some first records
pub record IsCutShort (Emitted : List ℕ → Type 0) (s : Selection) (h : BytesRead) (offset : ℕ) (views : List View)
    : Type 0 where
  pub shown : AreViews h.bytes offset views
  pub prefix : Emitted (selected_bytes s views)

abbrev pub EndsShort : (List ℕ → Type 0) → Selection → BytesRead → Type 0
EndsShort Emitted s h = (offset : ℕ) × ((views : List View) × IsCutShort Emitted s h offset views)

-- By the outcome. An output that failed isn't called again.
abbrev pub IsSelected : Selection → Result Selected SelectFault → BytesRead → BytesWritten → BytesWritten → Type 0
IsSelected s (Ok found) h old new = (views : List View) × IsWhole s found h old new views
IsSelected s (Err Write) h old new = (new.failures ≡ old.failures + 1) × EndsShort (EmittedPart old new) s h
IsSelected s (Err Memory) h old new = (new.failures ≡ old.failures) × EndsShort (EmittedFirst old new) s h
