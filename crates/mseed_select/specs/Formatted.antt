-- What is written of the records that are asked for, in a format.
use Rattle.std.specs.Prelude.{◌≡◌, ◌⊎◌, ℕ, ◌+◌, List, [], ◌∷◌, ◌++◌, Result, Ok, Err}
use Rattle.mseed_record.specs.View.{View}
use Rattle.mseed_stream.specs.Device.{BytesRead, BytesWritten}
use Rattle.mseed_stream.specs.Gathered.{EmittedFirst, EmittedPart}
use Rattle.mseed_stream.specs.Walk.{AreViews, AreAllViews}
use Rattle.mseed_select.specs.declared.fault.SelectFault.{SelectFault}
use Rattle.mseed_select.specs.declared.fault.SelectFault.TheVariants.{Write, Memory}
use Rattle.mseed_select.specs.declared.selected.Selected.{Selected}
use Rattle.mseed_select.specs.Halves.{Placed, asked_of, placed_from}
use Rattle.mseed_select.specs.Select.{AreCounted}
use Rattle.mseed_record.specs.Selection.{Selection}

-- What a format writes: of a record, by where it begins, and at the end, by what was found.
pub record Texts : Type 0 where
  pub of_record : ℕ → View → List ℕ
  pub at_end : Selected → List ℕ

-- what is written of some records
abbrev pub texts_of : Texts → List Placed → List ℕ
texts_of t [] = []
texts_of t (p ∷ ps) = t.of_record p.offset p.view ++ texts_of t ps

-- what is written of those that are asked for, each with its offset among all
abbrev pub asked_text : Texts → Selection → List View → List ℕ
asked_text t s views = texts_of t (asked_of s (placed_from 0 views))

-- and the whole, with the end
abbrev pub whole_text : Texts → Selection → List View → Selected → List ℕ
whole_text t s views found = asked_text t s views ++ t.at_end found

-- these are all the records of the input, and what was found of them
pub record IsFound (s : Selection) (found : Selected) (h : BytesRead) (views : List View) : Type 0 where
  pub all : AreAllViews h views found.end
  pub counted : AreCounted s views found

-- the whole was written
pub record IsWritten (t : Texts) (s : Selection) (found : Selected) (h : BytesRead) (old new : BytesWritten)
    (views : List View) : Type 0 where
  pub is_found : IsFound s found h views
  pub text : new.bytes ≡ old.bytes ++ whole_text t s views found
  pub fine : new.failures ≡ old.failures

-- what was written is so of a text: that of some first records, or the whole
pub record IsWrittenInPart (Emitted : List ℕ → Type 0) (t : Texts) (s : Selection) (h : BytesRead) (offset : ℕ)
    (views : List View) : Type 0 where
  pub shown : AreViews h.bytes offset views
  pub prefix : Emitted (asked_text t s views)
      ⊎ ((found : Selected) × (IsFound s found h views × Emitted (whole_text t s views found)))

abbrev pub EndsInPart : (List ℕ → Type 0) → Texts → Selection → BytesRead → Type 0
EndsInPart Emitted t s h = (offset : ℕ) × ((views : List View) × IsWrittenInPart Emitted t s h offset views)

-- By the outcome. An output that failed isn't called again.
abbrev pub IsFormatted : Texts → Selection → Result Selected SelectFault → BytesRead → BytesWritten → BytesWritten
    → Type 0
IsFormatted t s (Ok found) h old new = (views : List View) × IsWritten t s found h old new views
IsFormatted t s (Err Write) h old new = (new.failures ≡ old.failures + 1) × EndsInPart (EmittedPart old new) t s h
IsFormatted t s (Err Memory) h old new = (new.failures ≡ old.failures) × EndsInPart (EmittedFirst old new) t s h
