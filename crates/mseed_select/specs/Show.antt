-- What is written when an input is listed, or those of its records that are asked for.
use Rattle.std.specs.Prelude.{◌≡◌, ◌++◌, Option, Result, Ok, Err}
use Rattle.mseed_stream.specs.Device.{BytesRead, BytesWritten}
use Rattle.mseed_stream.specs.declared.fault.StreamFault.{StreamFault}
use Rattle.mseed_text.specs.Fault.{end_line}
use Rattle.mseed_select.specs.Formatted.{IsFormatted, Texts}
use Rattle.mseed_record.specs.Selection.{Selection, everything}
use Rattle.mseed_select.specs.declared.fault.SelectFault.{SelectFault}
use Rattle.mseed_select.specs.declared.selected.Selected.{Selected}
use Rattle.mseed_select.specs.Listing.{count_line, record_line}

-- a listing as a format: a line for each record, and at the end how many are listed, and the fault
abbrev pub listing_texts : Texts
listing_texts = record { of_record = record_line; at_end = λ found. count_line found.written ++ end_line found.end }

-- Those of the input's records that are asked for are listed, with the fault by which it ended; or a prefix of that
-- text was written.
abbrev pub IsSelectedShown : Selection → Result Selected SelectFault → BytesRead → BytesWritten → BytesWritten → Type 0
IsSelectedShown s result h old new = IsFormatted listing_texts s result h old new

-- The same of all records; the answer is the fault alone.
abbrev pub IsShown : Result (Option StreamFault) SelectFault → BytesRead → BytesWritten → BytesWritten → Type 0
IsShown (Ok end) h old new =
    (found : Selected) × ((end ≡ found.end) × IsSelectedShown everything (Ok found) h old new)
IsShown (Err fault) h old new = IsSelectedShown everything (Err fault) h old new
