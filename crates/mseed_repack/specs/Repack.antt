-- What is written when an archive is packed anew.
use Rattle.std.specs.Prelude.{ℤ, ◌≡◌, ◌≢◌, ◌⊎◌, ℕ, ◌+◌, ◌<◌, ◌^◌, List, [], ◌∷◌, ◌++◌, length, take, IsTrue, All}
use Rattle.std.specs.Prelude.{Result, Ok, Err, None}
use Rattle.std.specs.List.{concat, AllByRecursion}
use Rattle.mseed_record.specs.View.{View, IsView}
use Rattle.mseed_stream.specs.Archive.{IsArchive}
use Rattle.mseed_stream.specs.Device.{BytesRead, BytesWritten, nothing_read}
use Rattle.mseed_stream.specs.Fault.{IsStreamFault}
use Rattle.mseed_stream.specs.Split.{IsSplitFault}
use Rattle.mseed_stream.specs.Walk.{bytes_in}
use Rattle.mseed_stream.specs.declared.fault.StreamFault.{StreamFault}
use Rattle.mseed_stream.specs.declared.fault.StreamFault.TheVariants.{Memory as NoMemory}
use Rattle.mseed_audit.specs.Channels.{Placed, added_from, channel_in, records_of, views_in}
use Rattle.mseed_audit.specs.Follows.{IsContinuous}
use Rattle.mseed_audit.specs.Scope.{placed_of}
use Rattle.mseed_audit.specs.Series.{Trace, IsSeriesOf}
use Rattle.mseed_audit.specs.Verdict.{AreFindings, AreVerdicts}
use Rattle.mseed_audit.specs.declared.finding.Finding.{Finding}
use Rattle.mseed_audit.specs.declared.verdict.Verdict.{Verdict}
use Rattle.mseed_pack.specs.Fitting.{Fits, IsMisfit}
use Rattle.mseed_pack.specs.Packing.{IsPacking, PacksUpTo}
use Rattle.mseed_pack.specs.declared.fault.PackFault.{PackFault}
use Rattle.mseed_pack.specs.declared.options.Options.{Options}
use Rattle.mseed_repack.specs.declared.fault.RepackFault.{RepackFault}
use Rattle.mseed_repack.specs.declared.fault.RepackFault.TheVariants.{Stream, Broken, Misfit, Write, Memory}

-- a fault of the input, or refused memory, which is none of the input's
abbrev pub stream_fault : StreamFault → RepackFault
stream_fault NoMemory = Memory
stream_fault fault = Stream fault

-- a channel of an archive: its key, and the verdict on it
abbrev pub Channel : Type 0
Channel = List ℕ × Verdict

-- what was read, to its end, is the bytes of these records
pub record IsWhole (h : BytesRead) (views : List View) : Type 0 where
  pub archive : IsArchive h.bytes (bytes_in views) []
  pub each : AllByRecursion IsView views
  pub few : length views < 2 ^ 40
  pub ended : IsTrue h.is_at_end
  pub fine : h.failures ≡ 0

-- the input failed, or its bytes are no whole archive
abbrev pub IsUnread : StreamFault → BytesRead → Type 0
IsUnread fault h =
    IsStreamFault fault nothing_read h ⊎ (IsTrue h.is_at_end × (h.failures ≡ 0) × IsSplitFault fault h.bytes)

-- the records of the channel with this key
abbrev pub records_in : List View → List ℕ → List View
records_in views key = views_in (records_of key (added_from 0 views))

abbrev pub AreContinuous : List View → List Channel → Type 0
AreContinuous views channels = All (λ c. IsContinuous (records_in views c.0)) channels

-- the series of some records can be packed
pub record StretchFits (o : Options) (s : List View) : Type 0 where
  pub trace : Trace
  pub series : IsSeriesOf trace s
  pub fits : Fits trace o

-- the series of some records can't be packed, for this reason
pub record StretchMisfits (o : Options) (fault : PackFault) (s : List View) : Type 0 where
  pub trace : Trace
  pub series : IsSeriesOf trace s
  pub misfit : IsMisfit trace o fault

-- the series of some records is packed into these
pub record IsStretchPacked (o : Options) (s : List View) (records : List (List ℕ)) : Type 0 where
  pub trace : Trace
  pub series : IsSeriesOf trace s
  pub packing : IsPacking trace o records

-- A continuous channel is one stretch: its series can be packed, or can't be for this reason.
abbrev pub CanBePacked : Options → List View → List ℕ → Type 0
CanBePacked o views key = StretchFits o (records_in views key)

abbrev pub CantBePacked : Options → List View → PackFault → List ℕ → Type 0
CantBePacked o views fault key = StretchMisfits o fault (records_in views key)

-- of these channels the one with this key is the first of its kind
pub record IsFirst (Before At : List ℕ → Type 0) (key : List ℕ) (channels : List Channel) : Type 0 where
  pub prefix : List Channel
  pub verdict : Verdict
  pub back : List Channel
  pub parts : channels ≡ prefix ++ (key, verdict) ∷ back
  pub before : All (λ c. Before c.0) prefix
  pub is_it : At key

-- of the findings of these records of a channel this is the first
abbrev pub IsFirstFinding : List Placed → Finding → Type 0
IsFirstFinding ps first = (rest : List Finding) × AreFindings None ps (first ∷ rest)

-- the text is the records that the series of some records is packed into
pub record IsSeriesText (o : Options) (vs : List View) (text : List ℕ) : Type 0 where
  pub records : List (List ℕ)
  pub packed : IsStretchPacked o vs records
  pub text_is : text ≡ concat records

-- the text is the texts of some things, one after another
abbrev pub AreTexts : {X : Type 0} → (X → List ℕ → Type 0) → List X → List ℕ → Type 0
AreTexts Own [] text = text ≡ []
AreTexts Own (x ∷ xs) text =
    (own : List ℕ) × ((rest : List ℕ) × ((text ≡ own ++ rest) × Own x own × AreTexts Own xs rest))

-- the records that the series of these channels are packed into, channel after channel
abbrev pub ArePackedInto : Options → List View → List Channel → List ℕ → Type 0
ArePackedInto o views channels text =
    AreTexts (λ (c : Channel) own. IsSeriesText o (records_in views c.0) own) channels text

-- the text is a part of the records that the records' series is packed into
pub record IsPackedInPart (o : Options) (vs : List View) (text : List ℕ) : Type 0 where
  pub trace : Trace
  pub series : IsSeriesOf trace vs
  pub records : List (List ℕ)
  pub left : List ℤ
  pub packing : PacksUpTo trace o records left
  pub taken : ℕ
  pub text_is : text ≡ take taken (concat records)

-- or those of the first ones, and a part of the next one's
abbrev pub IsTextUpTo : {X : Type 0} → (X → List ℕ → Type 0) → (X → List ℕ → Type 0) → List X → List ℕ → Type 0
IsTextUpTo Own Part [] text = ⊥
IsTextUpTo Own Part (x ∷ xs) text =
    Part x text
    ⊎ ((own : List ℕ) × ((rest : List ℕ) × ((text ≡ own ++ rest) × Own x own × IsTextUpTo Own Part xs rest)))

-- of those records a part
abbrev pub IsPartPacked : Options → List View → List Channel → List ℕ → Type 0
IsPartPacked o views channels text =
    IsTextUpTo (λ (c : Channel) own. IsSeriesText o (records_in views c.0) own)
    (λ (c : Channel) own. IsPackedInPart o (records_in views c.0) own) channels text

-- What was read is a whole archive, and these are its channels, in the order of their keys.
pub record IsArchiveOf (h : BytesRead) (views : List View) (channels : List Channel) : Type 0 where
  pub whole : IsWhole h views
  pub verdicts : AreVerdicts (added_from 0 views) channels

-- each channel is continuous, and can be packed
pub record IsFitFor (o : Options) (h : BytesRead) (views : List View) (channels : List Channel) : Type 0 where
  pub archive : IsArchiveOf h views channels
  pub continuous : AreContinuous views channels
  pub fit : All (λ c. CanBePacked o views c.0) channels

-- this was written
pub record Wrote (P : List ℕ → Type 0) (failures : ℕ) (old new : BytesWritten) : Type 0 where
  pub text : List ℕ
  pub text_is : P text
  pub bytes : new.bytes ≡ old.bytes ++ text
  pub failed : new.failures ≡ old.failures + failures

abbrev pub Exists : (List View → List Channel → Type 0) → Type 0
Exists P = (views : List View) × ((channels : List Channel) × P views channels)

-- What packing anew comes to, where each record of the archive stands at such a place in what was read. All is written
-- where the input is a whole archive, each channel continuous, and each series can be packed; a prefix of that where
-- the output failed; and nothing otherwise, where memory was refused too. A continuous channel is one stretch, whose
-- number is 1. Of a channel that isn't continuous the first finding is answered.
abbrev pub IsRepackingAmong : {U : Type 0} → (List View → List Placed) → Options → Result U RepackFault → BytesRead
    → BytesWritten → BytesWritten → Type 0
IsRepackingAmong place o (Ok u) h old new =
    Exists (λ views channels. IsFitFor o h views channels × Wrote (ArePackedInto o views channels) 0 old new)
IsRepackingAmong place o (Err (Stream fault)) h old new = (fault ≢ NoMemory) × IsUnread fault h × (new ≡ old)
IsRepackingAmong place o (Err (Broken key first)) h old new =
    Exists (λ views channels. IsArchiveOf h views channels
    × IsFirst (λ k. IsContinuous (records_in views k)) (λ k. ¬ (IsContinuous (records_in views k))) key channels
    × IsFirstFinding (channel_in key (place views)) first × (new ≡ old))
IsRepackingAmong place o (Err (Misfit key number fault)) h old new =
    Exists (λ views channels. IsArchiveOf h views channels × AreContinuous views channels
    × IsFirst (CanBePacked o views) (CantBePacked o views fault) key channels × (number ≡ 1) × (new ≡ old))
IsRepackingAmong place o (Err Write) h old new =
    Exists (λ views channels. IsFitFor o h views channels × Wrote (IsPartPacked o views channels) 1 old new)
IsRepackingAmong place o (Err Memory) h old new = new ≡ old

-- the same, where the archive is all that was read
abbrev pub IsRepacking : {U : Type 0} → Options → Result U RepackFault → BytesRead → BytesWritten → BytesWritten
    → Type 0
IsRepacking o result h old new = IsRepackingAmong placed_of o result h old new
