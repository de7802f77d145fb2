-- An archive whose channels are packed anew by their stretches.
use Rattle.std.specs.Prelude.{⊤, ◌≡◌, ◌≢◌, Bool, false, ℕ, List, [], ◌∷◌, ◌++◌, All, Result, Ok, Err}
use Rattle.std.specs.Prelude.{None, Some, codes, decimal}
use Rattle.std.specs.List.{AllByRecursion}
use Rattle.mseed_record.specs.View.{View}
use Rattle.mseed_stream.specs.Device.{BytesRead, BytesWritten}
use Rattle.mseed_stream.specs.LineWritten.{WritesLine}
use Rattle.mseed_stream.specs.declared.fault.StreamFault.TheVariants.{Memory as NoMemory}
use Rattle.mseed_audit.specs.Channels.{Placed, channel_in, views_in}
use Rattle.mseed_audit.specs.Follows.{IsSound}
use Rattle.mseed_audit.specs.Judging.{IsFound}
use Rattle.mseed_audit.specs.Scope.{placed_of}
use Rattle.mseed_audit.specs.Text.{why_text}
use Rattle.mseed_audit.specs.declared.finding.Finding.{Finding}
use Rattle.mseed_text.specs.Name.{name_text}
use Rattle.mseed_steim.specs.declared.encoding.Encoding.{Encoding}
use Rattle.mseed_pack.specs.declared.options.Options.{Options}
use Rattle.mseed_repack.specs.Misfits.{misfit_text}
use Rattle.mseed_repack.specs.Repack.{AreTexts, Channel, Exists, IsArchiveOf, IsFirst, IsTextUpTo, IsUnread, Wrote}
use Rattle.mseed_repack.specs.Repack.{records_in}
use Rattle.mseed_repack.specs.Restretch.{ChannelFits, ChannelMisfits, IsChannelPart, IsChannelText}
use Rattle.mseed_repack.specs.declared.fault.RepackFault.{RepackFault}
use Rattle.mseed_repack.specs.declared.fault.RepackFault.TheVariants.{Stream, Broken as BrokenChannel}
use Rattle.mseed_repack.specs.declared.fault.RepackFault.TheVariants.{Misfit as MisfitStretch, Write, Memory}
use Rattle.mseed_repack.specs.declared.refusing.LeftOut.{LeftOut}
use Rattle.mseed_repack.specs.declared.refusing.LeftOut.TheVariants.{Nothing, Broken as LeftBroken}
use Rattle.mseed_repack.specs.declared.refusing.LeftOut.TheVariants.{Misfit as LeftMisfit}
use Rattle.mseed_repack.specs.declared.packability.Packability.{Packability}
use Rattle.mseed_repack.specs.declared.packability.Packability.TheVariants.{Fit, Broken, Misfit}

-- what is found of a channel: each stretch can be packed; or some record isn't sound; or which stretch can't
abbrev pub IsPackability : Options → List View → Packability → Type 0
IsPackability o vs Fit = ChannelFits o vs
IsPackability o vs Broken = ¬ (AllByRecursion IsSound vs)
IsPackability o vs (Misfit number fault) = ChannelMisfits o number fault vs

-- the records of each channel of an archive are to what is found of it in this relation
abbrev pub AreFound : (List View → Packability → Type 0) → List View → List Channel → List Packability → Type 0
AreFound Is views [] [] = ⊤
AreFound Is views [] (s ∷ ss) = ⊥
AreFound Is views (c ∷ cs) [] = ⊥
AreFound Is views (c ∷ cs) (s ∷ ss) = Is (records_in views c.0) s × AreFound Is views cs ss

-- what is found of each channel of an archive
abbrev pub ArePackabilities : Options → List View → List Channel → List Packability → Type 0
ArePackabilities o views channels packabilities = AreFound (IsPackability o) views channels packabilities

-- the channels that fit
abbrev pub kept_of : List Channel → List Packability → List Channel
kept_of [] ss = []
kept_of (c ∷ cs) [] = []
kept_of (c ∷ cs) (Fit ∷ ss) = c ∷ kept_of cs ss
kept_of (c ∷ cs) (Broken ∷ ss) = kept_of cs ss
kept_of (c ∷ cs) (Misfit number fault ∷ ss) = kept_of cs ss

-- the records of these channels' stretches, channel after channel
abbrev pub AreStretched : Options → List View → List Channel → List ℕ → Type 0
AreStretched o views channels text =
    AreTexts (λ (c : Channel) own. IsChannelText o (records_in views c.0) own) channels text

-- the records of the first channels, and of the next channel's a part
abbrev pub IsPartStretched : Options → List View → List Channel → List ℕ → Type 0
IsPartStretched o views channels text =
    IsTextUpTo (λ (c : Channel) own. IsChannelText o (records_in views c.0) own)
    (λ (c : Channel) own. IsChannelPart o (records_in views c.0) own) channels text

-- each record of each channel is sound
abbrev pub AreSound : List View → List Channel → Type 0
AreSound views channels = All (λ c. AllByRecursion IsSound (records_in views c.0)) channels

-- the channel is written
abbrev pub IsFit : Packability → Type 0
IsFit s = s ≡ Fit

-- what is left out, the worst of it
abbrev pub worse_of : Packability → LeftOut → LeftOut
worse_of Fit left = left
worse_of Broken Nothing = LeftBroken
worse_of Broken LeftBroken = LeftBroken
worse_of Broken LeftMisfit = LeftMisfit
worse_of (Misfit number fault) left = LeftMisfit

abbrev pub left_out_of : List Packability → LeftOut
left_out_of [] = Nothing
left_out_of (s ∷ ss) = worse_of s (left_out_of ss)

-- of these records of a channel the first that has a finding of its own has this one
pub record IsFirstOwn (ps : List Placed) (f : Finding) : Type 0 where
  pub leading : List Placed
  pub at : Placed
  pub back : List Placed
  pub parts : ps ≡ leading ++ at ∷ back
  pub sound : AllByRecursion IsSound (views_in leading)
  pub number : f.number ≡ at.number
  pub offset : f.offset ≡ at.offset
  pub found : IsFound None at.view (Some f.why)

-- the line about a channel
abbrev pub broken_line : List ℕ → List ℕ
broken_line key = codes "mseed: " ++ name_text key ++ codes " is broken\n"

-- the line more about a record with a finding, as an audit's text has it
abbrev pub finding_line : Finding → List ℕ
finding_line f =
    codes "mseed: record " ++ decimal f.number ++ codes " offset " ++ decimal f.offset ++ codes " " ++ why_text f.why
    ++ codes "\n"

-- both of a channel that is broken, by such a finding
abbrev pub broken_text : List ℕ → Finding → List ℕ
broken_text key f = broken_line key ++ finding_line f

-- what is reported of a channel that is left out, where such an encoding is requested
abbrev pub IsReportOf : Encoding → List ℕ → Packability → List (List ℕ) → Type 0
IsReportOf e key Fit lines = lines ≡ []
IsReportOf e key Broken lines = lines ≡ broken_line key ∷ []
IsReportOf e key (Misfit number fault) lines = lines ≡ misfit_text e key (Some number) fault ∷ []

-- and of each that is, in the order of the channels
abbrev pub AreReportsOf : Encoding → List Channel → List Packability → List (List ℕ) → Type 0
AreReportsOf e [] ss lines = lines ≡ []
AreReportsOf e (c ∷ cs) [] lines = lines ≡ []
AreReportsOf e (c ∷ cs) (s ∷ ss) lines =
    (own : List (List ℕ)) × ((rest : List (List ℕ)) × ((lines ≡ own ++ rest) × IsReportOf e c.0 s own
    × AreReportsOf e cs ss rest))

-- lines are reported one after another, each as far as the device takes it
pub data ReportsEach : List (List ℕ) → BytesWritten → BytesWritten → Type 0 where
  silent : (s : BytesWritten) → ReportsEach [] s s
  also : (lines : List (List ℕ)) (line : List ℕ) (old between new : BytesWritten) → ReportsEach lines old between
      → WritesLine line between new → ReportsEach (lines ++ line ∷ []) old new

-- the channels that are left out are reported
pub record AreReported (e : Encoding) (channels : List Channel) (packabilities : List Packability)
    (old new : BytesWritten) : Type 0 where
  pub lines : List (List ℕ)
  pub are : AreReportsOf e channels packabilities lines
  pub each : ReportsEach lines old new

-- Of the channels that fit a text was written of which this is so; and the others were reported, unless there was to be
-- none.
pub record WroteKept (P : List Channel → List ℕ → Type 0) (failures : ℕ) (o : Options) (leave : Bool)
    (views : List View) (channels : List Channel) (packabilities : List Packability)
    (old new reported_old reported_new : BytesWritten) : Type 0 where
  pub are : ArePackabilities o views channels packabilities
  pub whole : leave ≡ false → AllByRecursion IsFit packabilities
  pub reported : AreReported o.encoding channels packabilities reported_old reported_new
  pub wrote : Wrote (P (kept_of channels packabilities)) failures old new

-- What was written by stretches: of each channel that fits its stretches' records.
pub record WereStretched (o : Options) (leave : Bool) (views : List View)
    (channels : List Channel) (left : LeftOut) (old new reported_old reported_new : BytesWritten) : Type 0 where
  pub packabilities : List Packability
  pub kept : WroteKept (AreStretched o views) 0 o leave views channels packabilities old new reported_old reported_new
  pub left_is : left ≡ left_out_of packabilities

-- the same, where the output failed
pub record WereStretchedInPart (o : Options) (leave : Bool) (views : List View)
    (channels : List Channel) (old new reported_old reported_new : BytesWritten) : Type 0 where
  pub packabilities : List Packability
  pub kept : WroteKept (IsPartStretched o views) 1 o leave views channels packabilities old new reported_old
      reported_new

-- What packing anew by stretches comes to, where each record of the archive stands at such a place in what was read.
-- Where the input is a whole archive, the channels are written of which each record is sound and each stretch can be
-- packed, and the others are reported, or else the archive is refused for the first of them; a prefix is written where
-- the output failed; and nothing otherwise, where memory was refused too. Of a channel that isn't sound the first
-- finding that is a record's own is answered.
abbrev pub IsRestretchingAmong : (List View → List Placed) → Options → Bool → Result LeftOut RepackFault → BytesRead
    → BytesWritten → BytesWritten → BytesWritten → BytesWritten → Type 0
IsRestretchingAmong place o leave (Ok left) h old new reported_old reported_new =
    Exists (λ views channels. IsArchiveOf h views channels
    × WereStretched o leave views channels left old new reported_old reported_new)
IsRestretchingAmong place o leave (Err (Stream fault)) h old new reported_old reported_new =
    (fault ≢ NoMemory) × IsUnread fault h × (new ≡ old) × (reported_new ≡ reported_old)
IsRestretchingAmong place o leave (Err (BrokenChannel key first)) h old new reported_old reported_new =
    Exists (λ views channels. IsArchiveOf h views channels
    × IsFirst (λ k. AllByRecursion IsSound (records_in views k)) (λ k. ¬ (AllByRecursion IsSound (records_in views k)))
    key channels × IsFirstOwn (channel_in key (place views)) first
    × (leave ≡ false) × (new ≡ old) × (reported_new ≡ reported_old))
IsRestretchingAmong place o leave (Err (MisfitStretch key number fault)) h old new reported_old reported_new =
    Exists (λ views channels. IsArchiveOf h views channels × AreSound views channels
    × IsFirst (λ k. ChannelFits o (records_in views k)) (λ k. ChannelMisfits o number fault (records_in views k)) key
    channels
    × (leave ≡ false) × (new ≡ old) × (reported_new ≡ reported_old))
IsRestretchingAmong place o leave (Err Write) h old new reported_old reported_new =
    Exists (λ views channels. IsArchiveOf h views channels
    × WereStretchedInPart o leave views channels old new reported_old reported_new)
IsRestretchingAmong place o leave (Err Memory) h old new reported_old reported_new =
    (new ≡ old) × (reported_new ≡ reported_old)

-- the same, where the archive is all that was read
abbrev pub IsRestretching : Options → Bool → Result LeftOut RepackFault → BytesRead → BytesWritten → BytesWritten
    → BytesWritten → BytesWritten → Type 0
IsRestretching o leave result h old new reported_old reported_new =
    IsRestretchingAmong placed_of o leave result h old new reported_old reported_new

-- Of an archive the channels that fit were written, as a text of which this is so.
pub record WroteFitting (P : List View → List Channel → List ℕ → Type 0) (o : Options) (h : BytesRead)
    (old new : BytesWritten) : Type 0 where
  pub views : List View
  pub channels : List Channel
  pub archive : IsArchiveOf h views channels
  pub packabilities : List Packability
  pub are : ArePackabilities o views channels packabilities
  pub wrote : Wrote (P views (kept_of channels packabilities)) 0 old new

-- this is so of whatever an archive was packed into by stretches
abbrev pub EachRestretching : (Options → BytesRead → BytesWritten → BytesWritten → Type 0) → Type 0
EachRestretching P =
    (place : List View → List Placed) (o : Options) (leave : Bool) (left : LeftOut) (read : BytesRead)
    (old new reported_old reported_new : BytesWritten)
    → IsRestretchingAmong place o leave (Ok left) read old new reported_old reported_new → P o read old new
