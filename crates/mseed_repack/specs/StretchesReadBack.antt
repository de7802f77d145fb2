-- What the stretches of a channel were packed into, read again.
use Rattle.std.specs.Prelude.{⊤, ◌≡◌, ℕ, ℤ, List, [], ◌∷◌, ◌++◌, Some}
use Rattle.std.specs.List.{concat}
use Rattle.mseed_time.specs.Rate.{Ratio}
use Rattle.mseed_record.specs.View.{View}
use Rattle.mseed_audit.specs.Judging.{known_rate}
use Rattle.mseed_audit.specs.Series.{Trace, AreJoined, IsSeriesOf}
use Rattle.mseed_repack.specs.Stretches.{AllStayNear, AreStretches}
use Rattle.mseed_stream.specs.Device.{BytesRead, BytesWritten}
use Rattle.mseed_pack.specs.ReadBack.{ReadsAs}
use Rattle.mseed_pack.specs.declared.options.Options.{Options}
use Rattle.mseed_repack.specs.ByStretches.{WroteFitting}
use Rattle.mseed_repack.specs.Repack.{AreTexts, Channel, records_in}

-- by its first record's clock, no sample of a stretch stands further than a quarter of its period from where its own
-- record has it
abbrev pub KeepsTime : List View → Type 0
KeepsTime [] = ⊤
KeepsTime (first ∷ rest) = (rate : Ratio) → known_rate first ≡ Some rate → AllStayNear first rate (first ∷ rest)

-- the records that a stretch was packed into read back as its series, from the first one's start, which keeps its time
pub record IsStretchReadBack (s : List View) (trace : Trace) (records : List (List ℕ)) : Type 0 where
  pub series : IsSeriesOf trace s
  pub reads : ReadsAs trace records
  pub keeps : KeepsTime s

-- of stretches one after another: the records, and the samples that are read from all of them
pub data AreReadBack : List (List View) → List (List ℕ) → List ℤ → Type 0 where
  read_none : AreReadBack [] [] []
  read_more : (s : List View) (ss : List (List View)) (trace : Trace) (records rest : List (List ℕ))
      (samples : List ℤ) → IsStretchReadBack s trace records → AreReadBack ss rest samples
      → AreReadBack (s ∷ ss) (records ++ rest) (trace.samples ++ samples)

-- What a channel was packed into reads back, stretch by stretch: and the samples of all its stretches, one after
-- another, are those of the channel's records, each once, in order.
pub record IsChannelReadBack (vs : List View) (records : List (List ℕ)) : Type 0 where
  pub stretches : List (List View)
  pub are : AreStretches vs stretches
  pub samples : List ℤ
  pub read : AreReadBack stretches records samples
  pub joined : AreJoined vs samples

-- the text is the records that a channel was packed into, and these read back
pub record IsTextReadBack (vs : List View) (text : List ℕ) : Type 0 where
  pub records : List (List ℕ)
  pub reads : IsChannelReadBack vs records
  pub text_is : text ≡ concat records

-- the texts of channels, one after another
abbrev pub AreChannelsReadBack : List View → List Channel → List ℕ → Type 0
AreChannelsReadBack views channels text =
    AreTexts (λ (c : Channel) own. IsTextReadBack (records_in views c.0) own) channels text

-- What was written of an archive by stretches reads back: of the channels that fit, each in its place.
abbrev pub IsStretchedBack : Options → BytesRead → BytesWritten → BytesWritten → Type 0
IsStretchedBack o h old new = WroteFitting (λ views kept text. AreChannelsReadBack views kept text) o h old new
