-- What packing anew comes to where only some of an archive's records are asked for.
use Rattle.std.specs.Prelude.{◌≡◌, ◌≢◌, ℕ, zero, suc, Bool, List, [], ◌∷◌, ◌++◌, Result, Err}
use Rattle.std.specs.Prelude.{true, codes, decimal}
use Rattle.std.specs.List.{AllByRecursion, count_by}
use Rattle.mseed_record.specs.View.{View, IsView}
use Rattle.mseed_stream.specs.Archive.{IsArchive}
use Rattle.mseed_stream.specs.Device.{BytesRead, BytesWritten}
use Rattle.mseed_stream.specs.Walk.{bytes_in}
use Rattle.mseed_stream.specs.declared.fault.StreamFault.{StreamFault}
use Rattle.mseed_stream.specs.declared.fault.StreamFault.TheVariants.{Memory as NoMemory}
use Rattle.mseed_select.specs.Select.{selected_bytes}
use Rattle.mseed_record.specs.Selection.{Selection, lacks_time}
use Rattle.mseed_audit.specs.Channels.{Placed}
use Rattle.mseed_audit.specs.Scope.{asked_of}
use Rattle.mseed_pack.specs.declared.options.Options.{Options}
use Rattle.mseed_repack.specs.Repack.{Channel, Exists, IsArchiveOf, IsRepackingAmong, IsUnread, IsWhole}
use Rattle.mseed_repack.specs.ByStretches.{IsPartStretched, IsRestretchingAmong, ReportsEach, WroteKept, left_out_of}
use Rattle.mseed_repack.specs.declared.fault.RepackFault.{RepackFault}
use Rattle.mseed_repack.specs.declared.fault.RepackFault.TheVariants.{Stream, Write, Memory}
use Rattle.mseed_repack.specs.declared.refusing.LeftOut.{LeftOut}
use Rattle.mseed_repack.specs.declared.refusing.LeftOut.TheVariants.{Nothing, Broken as LeftBroken}
use Rattle.mseed_repack.specs.declared.refusing.LeftOut.TheVariants.{Misfit as LeftMisfit}
use Rattle.mseed_repack.specs.declared.packability.Packability.{Packability}

-- a text that was read to its end
abbrev pub read_of : List ℕ → BytesRead
read_of text = record { bytes = text; calls = 0; failures = 0; is_at_end = true }

-- the line that says how many records lack a time
abbrev pub without_time_line : ℕ → List ℕ
without_time_line count = codes "mseed: " ++ decimal count ++ codes " records without a time\n"

-- told where there are any
abbrev pub without_time_lines : ℕ → List (List ℕ)
without_time_lines zero = []
without_time_lines (suc n) = without_time_line (suc n) ∷ []

abbrev pub ReportsWithoutTime : ℕ → BytesWritten → BytesWritten → Type 0
ReportsWithoutTime count old new = ReportsEach (without_time_lines count) old new

-- the records that some bytes begin with, one after another, up to where no further one begins
pub record AreRecordsOf (bytes : List ℕ) (views : List View) : Type 0 where
  pub rest : List ℕ
  pub archive : IsArchive bytes (bytes_in views) rest
  pub each : AllByRecursion IsView views

-- it is reported how many of the records that some bytes begin with lack a time
abbrev pub ReportsOfBytes : Selection → List ℕ → BytesWritten → BytesWritten → Type 0
ReportsOfBytes s bytes old new =
    (views : List View) × (AreRecordsOf bytes views × ReportsWithoutTime (count_by (lacks_time s) views) old new)

-- The input failed, or its bytes are no whole archive: nothing is written, and it is reported how many records lack a
-- time of those that were read before the fault.
pub record IsRefusedInput (s : Selection) (fault : StreamFault) (h : BytesRead)
    (old new reported_old reported_new : BytesWritten) : Type 0 where
  pub is_input : fault ≢ NoMemory
  pub unread : IsUnread fault h
  pub unwritten : new ≡ old
  pub reported : ReportsOfBytes s h.bytes reported_old reported_new

-- The input is a whole archive, and this is so of those of its records that are asked for, each at its place among all;
-- of the number of its records that lack a time; and of an input of those records alone that are asked for.
pub record IsOfSelected (P : List Placed → ℕ → BytesRead → Type 0) (s : Selection) (h : BytesRead) : Type 0 where
  pub views : List View
  pub whole : IsWhole h views
  pub is_so : P (asked_of s views) (count_by (lacks_time s) views) (read_of (selected_bytes s views))

-- it is reported where something is left out
abbrev pub ReportsIfLeft : LeftOut → ℕ → BytesWritten → BytesWritten → Type 0
ReportsIfLeft Nothing count old new = new ≡ old
ReportsIfLeft LeftBroken count old new = ReportsWithoutTime count old new
ReportsIfLeft LeftMisfit count old new = ReportsWithoutTime count old new

-- By stretches, where the output failed: what was written is a part of what the channels come to that fit. Before that
-- the others were reported, behind the number of records that lack a time; where each channel fits, neither was.
pub record WereReportedInPart (o : Options) (leave : Bool) (count : ℕ) (views : List View)
    (channels : List Channel) (old new reported_old reported_new : BytesWritten) : Type 0 where
  pub packabilities : List Packability
  pub between : BytesWritten
  pub reported : ReportsIfLeft (left_out_of packabilities) count reported_old between
  pub kept : WroteKept (IsPartStretched o views) 1 o leave views channels packabilities old new between reported_new

-- What packing the records anew that are asked for comes to: what packing an archive of them alone comes to, but that a
-- finding's number and offset are those in the whole input. That is refused for a fault anywhere in it, and for nothing
-- else that stands in records that aren't asked for. How many records lack a time is reported, unless the output failed
-- or memory was refused.
abbrev pub IsSelectedRepacking : {U : Type 0} → Selection → Options → Result U RepackFault → BytesRead → BytesWritten
    → BytesWritten → BytesWritten → BytesWritten → Type 0
IsSelectedRepacking s o (Err (Stream fault)) h old new reported_old reported_new =
    IsRefusedInput s fault h old new reported_old reported_new
IsSelectedRepacking {U} s o (Err Write) h old new reported_old reported_new =
    IsOfSelected (λ ps count read. IsRepackingAmong {U = U} (λ views. ps) o (Err Write) read old new
    × (reported_new ≡ reported_old)) s h
IsSelectedRepacking s o (Err Memory) h old new reported_old reported_new =
    (new ≡ old) × (reported_new ≡ reported_old)
IsSelectedRepacking s o result h old new reported_old reported_new =
    IsOfSelected (λ ps count read. IsRepackingAmong (λ views. ps) o result read old new
    × ReportsWithoutTime count reported_old reported_new) s h

-- By stretches: how many records lack a time is reported before the channels that are left out, and where none is left
-- out, as of a packing of whole channels.
abbrev pub IsSelectedRestretching : Selection → Options → Bool → Result LeftOut RepackFault → BytesRead → BytesWritten
    → BytesWritten → BytesWritten → BytesWritten → Type 0
IsSelectedRestretching s o leave (Err (Stream fault)) h old new reported_old reported_new =
    IsRefusedInput s fault h old new reported_old reported_new
IsSelectedRestretching s o leave (Err Write) h old new reported_old reported_new =
    IsOfSelected (λ ps count read. Exists (λ views channels. IsArchiveOf read views channels
    × WereReportedInPart o leave count views channels old new reported_old reported_new)) s h
IsSelectedRestretching s o leave (Err Memory) h old new reported_old reported_new =
    (new ≡ old) × (reported_new ≡ reported_old)
IsSelectedRestretching s o leave result h old new reported_old reported_new =
    IsOfSelected (λ ps count read. (between : BytesWritten) × (ReportsWithoutTime count reported_old between
    × IsRestretchingAmong (λ views. ps) o leave result read old new between reported_new)) s h
