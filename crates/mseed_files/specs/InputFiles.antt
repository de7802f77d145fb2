-- What is reported of a file.
use Rattle.std.specs.Prelude.{◌≡◌, ◌⊎◌, ℕ, ◌-◌, ◌==◌, List, [], map, decimal, ◌++◌, slice_get, option_map}
use Rattle.std.specs.Borrow.{Bor}
use Rattle.std.specs.Prelude.{if◌then◌else◌, Option, Some, None, IfSome, codes}
use Rattle.mseed_text.specs.Shown.{shown_byte}
use Rattle.mseed_files.specs.ChainState.{ChainState, IsChain}
use Rattle.mseed_files.specs.ReaderState.{IsPlace, ReaderState}
use Rattle.mseed_files.specs.Reason.{reason_text}
use Rattle.mseed_files.specs.declared.place.Place.{Place}
use Rattle.mseed_files.specs.declared.reason.Reason.{Reason}
use Rattle.mseed_stream.specs.Device.{BytesWritten}
use Rattle.mseed_stream.specs.LineWritten.{WritesLine}
use Rattle.mseed_files.specs.TrackedSource.{IsRecordBefore}
use Rattle.mseed_files.specs.declared.blame.Blame.{Blame}
use Rattle.mseed_files.specs.declared.blame.Blame.TheVariants.{Nothing, Read, Fault}

-- the line of memory that was refused
abbrev pub no_memory : List ℕ
no_memory = codes "mseed: no memory\n"

-- the line of a file that can't be read, by why it can't, and the word that names it
abbrev pub reason_words : Reason → List ℕ
reason_words reason = codes ": " ++ reason_text reason ++ codes "\n"

abbrev pub cannot_read : Reason → List ℕ → List ℕ
cannot_read reason word = codes "mseed: cannot read " ++ map shown_byte word ++ reason_words reason

-- the line of a fault in a file, by the word that names it and how many bytes stand before the fault there
abbrev pub place_words : ℕ → List ℕ
place_words offset = codes " at " ++ decimal offset ++ codes "\n"

abbrev pub fault_in : ℕ → List ℕ → List ℕ
fault_in offset word = codes "mseed: fault in " ++ map shown_byte word ++ place_words offset

-- the line was written, or there was no memory for it
abbrev pub ReportsName : List ℕ → BytesWritten → BytesWritten → Type 0
ReportsName line old new = WritesLine line old new ⊎ WritesLine no_memory old new

-- words that name files
abbrev pub Names : Type 0
Names = List (Bor (List ℕ))

abbrev pub word_at : Names → ℕ → Option (List ℕ)
word_at names file = option_map (λ name. name.now) (slice_get names file)

-- so it was reported of the file of this number, if there is one; else nothing was
abbrev pub ReportsWord : Option (List ℕ) → (List ℕ → List ℕ) → BytesWritten → BytesWritten → Type 0
ReportsWord None line old new = new ≡ old
ReportsWord (Some word) line old new = ReportsName (line word) old new

abbrev pub ReportsFile : Option ℕ → Names → (List ℕ → List ℕ) → BytesWritten → BytesWritten → Type 0
ReportsFile None names line old new = new ≡ old
ReportsFile (Some file) names line old new = ReportsWord (word_at names file) line old new

-- Where a fault is reported that lies at an offset, where the record before it begins at another: there, if the last
-- byte of that record is in another file than its first, and else where the fault lies.
pub record IsAfterRecord (s : ReaderState) (offset last : ℕ) (place : Place) : Type 0 where
  pub own : Place
  pub before : Place
  pub end : Place
  pub own_is : IsPlace s offset own
  pub before_is : IsPlace s last before
  pub end_is : IsPlace s (offset - 1) end
  pub place_is : place ≡ (if end.file == before.file then own else before)

-- where it lies, if there is no record before it
abbrev pub IsFaultPlace : ReaderState → ℕ → Option ℕ → Place → Type 0
IsFaultPlace s offset None place = IsPlace s offset place
IsFaultPlace s offset (Some last) place = IsAfterRecord s offset last place

abbrev pub IsReportedPlace : ReaderState → ℕ → Option ℕ → Option Place → Type 0
IsReportedPlace s offset last None = s.begins ≡ []
IsReportedPlace s offset last (Some place) = IsFaultPlace s offset last place

abbrev pub ReportsPlace : Option Place → Names → BytesWritten → BytesWritten → Type 0
ReportsPlace None names old new = new ≡ old
ReportsPlace (Some place) names old new = ReportsWord (word_at names place.file) (fault_in place.offset) old new

-- where it lies, and where the record before it begins, if one is known
abbrev pub ReportsFault : ℕ → Names → ChainState → BytesWritten → BytesWritten → Type 0
ReportsFault offset names s old new =
    (last : Option ℕ) × IfSome last (λ begin. IsRecordBefore s.read.bytes begin offset)
    × ((place : Option Place) × IsReportedPlace s.files offset last place × ReportsPlace place names old new)

-- What is wrong with an input is reported of its files: of the one that failed, where a read has, with the system's
-- reason, or of the one in which the fault lies. But where a record before the fault reaches over the end of the file
-- in which it begins, it is reported of that file and record.
abbrev pub ReportsBlame : Blame → Names → ChainState → BytesWritten → BytesWritten → Type 0
ReportsBlame Nothing names s old new = new ≡ old
ReportsBlame Read names s old new =
    IsChain s × ((reason : Reason) × ReportsFile s.files.failed names (cannot_read reason) old new)
ReportsBlame (Fault offset) names s old new = ReportsFault offset names s old new

-- the line of a read that failed, of an input that has no name
abbrev pub failed_read : Reason → List ℕ
failed_read reason = codes "mseed: " ++ reason_text reason ++ codes "\n"

-- so it was reported, if some file failed; else nothing was
abbrev pub ReportsFailure : Option ℕ → List ℕ → BytesWritten → BytesWritten → Type 0
ReportsFailure None line old new = new ≡ old
ReportsFailure (Some file) line old new = WritesLine line old new

-- Of an input that has no name the system's reason is reported where a read failed, and nothing else.
abbrev pub ReportsReason : Blame → ChainState → BytesWritten → BytesWritten → Type 0
ReportsReason Nothing s old new = new ≡ old
ReportsReason Read s old new =
    IsChain s × ((reason : Reason) × ReportsFailure s.files.failed (failed_read reason) old new)
ReportsReason (Fault offset) s old new = new ≡ old
