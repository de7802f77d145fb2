-- What the steps of packing an archive by stretches know.
use Rattle.std.specs.Prelude.{⊤, ◌≡◌, ◌≢◌, ℕ, Bool, false, List, Result, Ok, Err, IfOk}
use Rattle.std.specs.List.{AllByRecursion, count_by, filter}
use Rattle.mseed_record.specs.View.{View}
use Rattle.mseed_audit.specs.Channels.{Placed, channel_in}
use Rattle.mseed_audit.specs.Follows.{IsSound}
use Rattle.mseed_pack.specs.declared.options.Options.{Options}
use Rattle.mseed_repack.specs.Repack.{Channel, Exists, IsArchiveOf, IsFirst, IsRepackingAmong}
use Rattle.mseed_repack.specs.Repack.{IsUnread, IsWhole, records_in}
use Rattle.mseed_repack.specs.ByStretches.{AreFound, AreSound, IsFirstOwn, IsRestretchingAmong}
use Rattle.mseed_repack.specs.Selected.{IsSelectedRepacking, IsSelectedRestretching, ReportsIfLeft, ReportsOfBytes}
use Rattle.mseed_repack.specs.Selected.{ReportsWithoutTime, WereReportedInPart}
use Rattle.mseed_record.specs.Selection.{Selection, asks_for, lacks_time}
use Rattle.mseed_stream.specs.Device.{BytesRead, BytesWritten}
use Rattle.mseed_stream.specs.declared.fault.StreamFault.{StreamFault}
use Rattle.mseed_stream.specs.declared.fault.StreamFault.TheVariants.{Memory as NoMemory}
use Rattle.mseed_repack.specs.private.Places.{AreAllOf}
use Rattle.mseed_repack.specs.private.Planning.{IsPackabilityAs}
use Rattle.mseed_repack.specs.declared.refusing.LeftOut.{LeftOut}
use Rattle.mseed_repack.specs.declared.refusing.LeftOut.TheVariants.{Nothing, Broken as LeftBroken}
use Rattle.mseed_repack.specs.declared.refusing.LeftOut.TheVariants.{Misfit as LeftMisfit}
use Rattle.mseed_repack.specs.declared.fault.RepackFault.{RepackFault}
use Rattle.mseed_repack.specs.declared.fault.RepackFault.TheVariants.{Stream, Broken, Misfit, Write, Memory}
use Rattle.mseed_repack.specs.declared.packability.Packability.{Packability}
use Rattle.mseed_repack.specs.declared.packability.Packability.TheVariants.{Fit, Broken as IsBroken, Misfit as IsMisfit}
use Rattle.mseed_repack.specs.declared.stretching.Cutting.{Cutting}
use Rattle.mseed_repack.specs.declared.stretching.Cutting.TheVariants.{Whole, Stretches}

-- by some way to cut the channels, and some options, this is found of them
abbrev pub AreFoundAs : List View → List Channel → List Packability → Type 0
AreFoundAs views channels packabilities =
    (cutting : Cutting) × ((o : Options) × AreFound (IsPackabilityAs cutting o) views channels packabilities)

-- the fault is the first channel that is broken, or else the first that doesn't fit, where channels are cut so; these
-- are
-- the records in their places
abbrev pub IsFirstRefused : Cutting → Options → List Placed → List View → List Channel → RepackFault → Type 0
IsFirstRefused cutting o ps views channels (Broken key first) =
    IsFirst (λ k. AllByRecursion IsSound (records_in views k)) (λ k. ¬ (AllByRecursion IsSound (records_in views k)))
    key channels × IsFirstOwn (channel_in key ps) first
IsFirstRefused cutting o ps views channels (Misfit key number fault) =
    AreSound views channels
    × IsFirst (λ k. IsPackabilityAs cutting o (records_in views k) Fit)
    (λ k. IsPackabilityAs cutting o (records_in views k) (IsMisfit number fault)) key channels
IsFirstRefused cutting o ps views channels fault = ⊥

-- a channel isn't broken
abbrev pub IsUnbroken : Packability → Type 0
IsUnbroken Fit = ⊤
IsUnbroken IsBroken = ⊥
IsUnbroken (IsMisfit number fault) = ⊤

-- at a fault of the input it is reported how many records lack a time before it; refused memory is none of the input's
abbrev pub ReportsAtFault : Selection → StreamFault → List ℕ → BytesWritten → BytesWritten → Type 0
ReportsAtFault s NoMemory bytes old new = new ≡ old
ReportsAtFault s fault bytes old new = ReportsOfBytes s bytes old new

-- the input is refused for a fault of its own, or for memory
abbrev pub IsInputRefused : Selection → RepackFault → BytesRead → BytesWritten → BytesWritten → Type 0
IsInputRefused s (Stream fault) h old new = (fault ≢ NoMemory) × IsUnread fault h × ReportsOfBytes s h.bytes old new
IsInputRefused s (Broken key first) h old new = ⊥
IsInputRefused s (Misfit key number fault) h old new = ⊥
IsInputRefused s Write h old new = ⊥
IsInputRefused s Memory h old new = new ≡ old

-- What was read is a whole archive, of these bytes. Of its records these are asked for, and so many lack a time.
pub record AreAsked (s : Selection) (bytes : List ℕ) (h : BytesRead) (kept : List View) (count : ℕ) : Type 0 where
  pub views : List View
  pub all : AreAllOf bytes views
  pub whole : IsWhole h views
  pub kept_are : kept ≡ filter (asks_for s) views
  pub count_is : count ≡ count_by (lacks_time s) views

-- what packing by stretches comes to where the number of records that lack a time is reported if a channel is left out,
-- before it, and else isn't
abbrev pub IsRestretchingIfLeft : (List View → List Placed) → Options → Bool → ℕ → Result LeftOut RepackFault
    → BytesRead
    → BytesWritten → BytesWritten → BytesWritten → BytesWritten → Type 0
IsRestretchingIfLeft place o leave count (Ok left) h old new reported_old reported_new =
    (between : BytesWritten) × (ReportsIfLeft left count reported_old between
    × IsRestretchingAmong place o leave (Ok left) h old new between reported_new)
IsRestretchingIfLeft place o leave count (Err Write) h old new reported_old reported_new =
    Exists (λ views channels. IsArchiveOf h views channels
    × WereReportedInPart o leave count views channels old new reported_old reported_new)
IsRestretchingIfLeft place o leave count result h old new reported_old reported_new =
    IsRestretchingAmong place o leave result h old new reported_old reported_new

-- what packing comes to where channels are cut so: where they aren't, none is left out
abbrev pub IsPackedIfLeft : Cutting → (List View → List Placed) → Options → Bool → ℕ → Result LeftOut RepackFault
    → BytesRead → BytesWritten → BytesWritten → BytesWritten → BytesWritten → Type 0
IsPackedIfLeft Whole place o leave count result h old new reported_old reported_new =
    leave ≡ false → IfOk result (λ left. left ≡ Nothing) × IsRepackingAmong place o result h old new
    × (reported_new ≡ reported_old)
IsPackedIfLeft Stretches place o leave count result h old new reported_old reported_new =
    IsRestretchingIfLeft place o leave count result h old new reported_old reported_new

-- and of those records that are asked for
abbrev pub IsSelectedAs : Cutting → Selection → Options → Bool → Result LeftOut RepackFault → BytesRead → BytesWritten
    → BytesWritten → BytesWritten → BytesWritten → Type 0
IsSelectedAs Whole s o leave result h old new reported_old reported_new =
    leave ≡ false → IsSelectedRepacking s o result h old new reported_old reported_new
IsSelectedAs Stretches s o leave result h old new reported_old reported_new =
    IsSelectedRestretching s o leave result h old new reported_old reported_new

-- then the number is reported by what packing came to..
abbrev pub ReportsAfter : {U : Type 0} → Result U RepackFault → ℕ → BytesWritten → BytesWritten → Type 0
ReportsAfter (Err Write) count old new = new ≡ old
ReportsAfter (Err Memory) count old new = new ≡ old
ReportsAfter result count old new = ReportsWithoutTime count old new

-- ..unless it was reported before
abbrev pub ReportsUnlessLeft : Result LeftOut RepackFault → ℕ → BytesWritten → BytesWritten → Type 0
ReportsUnlessLeft (Ok LeftBroken) count old new = new ≡ old
ReportsUnlessLeft (Ok LeftMisfit) count old new = new ≡ old
ReportsUnlessLeft result count old new = ReportsAfter result count old new
