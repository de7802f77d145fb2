-- The records that are asked for, written byte for byte.
use Rattle.std.proofs.Common.{arith, ◌≡◌, ℕ, ◌+◌, List, [], ◌∷◌, length, refl, ◌∙◌, append-nil}
use Rattle.std.proofs.Common.{◌⊎◌, inl, inr, Result, Ok, Err}
use Rattle.mseed_record.specs.View.{View}
use Rattle.mseed_stream.specs.Device.{BytesRead, BytesWritten}
use Rattle.mseed_stream.specs.Gathered.{EmittedFirst, EmittedPart}
use Rattle.mseed_select.specs.Formatted.{EndsInPart, IsFormatted, IsFound, asked_text, texts_of, whole_text}
use Rattle.mseed_select.specs.Halves.{asked_of, placed_from}
use Rattle.mseed_select.specs.Select.{EndsShort, IsSelected, selected_bytes}
use Rattle.mseed_record.specs.Selection.{Selection}
use Rattle.mseed_select.specs.declared.fault.SelectFault.{SelectFault}
use Rattle.mseed_select.specs.declared.fault.SelectFault.TheVariants.{Write, Memory}
use Rattle.mseed_select.specs.declared.selected.Selected.{Selected}
use Rattle.mseed_select.specs.private.Copying.{bytes_alone}

-- the text of the records that are asked for is their bytes
bytes_are : (s : Selection) (offset : ℕ) (views : List View)
    → texts_of bytes_alone (asked_of s (placed_from offset views)) ≡ selected_bytes s views
bytes_are s offset [] = refl
bytes_are s offset (v ∷ views) = grind (arith, bytes_are s (offset + length v.bytes) views)

whole_is : (s : Selection) (views : List View) (found : Selected)
    → whole_text bytes_alone s views found ≡ selected_bytes s views
whole_is s views found = append-nil _ ∙ bytes_are s 0 views

-- a prefix of the first records' text, or of the whole, is one of their bytes
short : (Emitted : List ℕ → Type 0) (s : Selection) (h : BytesRead) → EndsInPart Emitted bytes_alone s h
    → EndsShort Emitted s h
short Emitted s h (offset, (views, ends)) = (offset, (views, record { shown = ends.shown; prefix = go ends.prefix }))
  where
    go : Emitted (asked_text bytes_alone s views)
        ⊎ ((found : Selected) × (IsFound s found h views × Emitted (whole_text bytes_alone s views found)))
        → Emitted (selected_bytes s views)
    go (inl w) = rw (bytes_are s 0 views) at w
    go (inr w) = rw (whole_is s views w.0) at w.1.1

-- what `select` promises
pub selected : (s : Selection) (r : Result Selected SelectFault) (h : BytesRead) (old new : BytesWritten)
    → IsFormatted bytes_alone s r h old new → IsSelected s r h old new
selected s (Ok found) h old new (views, w) = (
  views,
  record {
    all = w.is_found.all;
    bytes = rw (whole_is s views found) at w.text;
    fine = w.fine;
    counted = w.is_found.counted;
  },
)
selected s (Err Write) h old new w = (w.0, short (EmittedPart old new) s h w.1)
selected s (Err Memory) h old new w = (w.0, short (EmittedFirst old new) s h w.1)
