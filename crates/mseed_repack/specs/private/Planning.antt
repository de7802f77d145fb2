-- How the channels of an archive are packed: each by its stretches, of which a channel that is packed whole has one.
use Rattle.std.specs.Prelude.{⊤, ◌≡◌, ◌≢◌, ℕ, ◌-◌, ◌≤◌, ◌^◌, List, [], ◌∷◌, ◌++◌, length, take, drop, unwrap_or}
use Rattle.std.specs.Prelude.{Result, Ok, Err}
use Rattle.std.specs.List.{concat, AllByRecursion}
use Rattle.mseed_record.specs.View.{View}
use Rattle.mseed_stream.specs.Device.{BytesWritten}
use Rattle.mseed_audit.specs.Follows.{IsSound}
use Rattle.mseed_repack.specs.Clocks.{IsStretchAt}
use Rattle.mseed_repack.specs.Stretches.{AreStretches}
use Rattle.mseed_repack.specs.declared.stretch.Stretch.{Stretch}
use Rattle.mseed_pack.specs.Options.{IsSteim}
use Rattle.mseed_steim.specs.declared.encoding.Encoding.{Encoding}
use Rattle.mseed_pack.specs.declared.options.Options.{Options}
use Rattle.mseed_repack.specs.private.Reading.{samples_of, steps_of}
use Rattle.mseed_repack.specs.private.Supplying.{AreUnread}
use Rattle.mseed_repack.specs.Repack.{AreTexts, Channel, IsPackedInPart, IsSeriesText, IsTextUpTo, StretchFits}
use Rattle.mseed_repack.specs.Repack.{StretchMisfits, Wrote, records_in}
use Rattle.mseed_repack.specs.ByStretches.{IsFit, IsPackability}
use Rattle.mseed_repack.specs.Restretch.{ArePackedOn, IsChannelPart, IsChannelText, IsNumberedOn}
use Rattle.mseed_repack.specs.declared.plan.Plan.{Plan}
use Rattle.mseed_repack.specs.declared.plan.Way.{Way}
use Rattle.mseed_repack.specs.declared.plan.Way.TheVariants.{Frames, Listed}
use Rattle.mseed_repack.specs.declared.series.Fitting.{Fitting}
use Rattle.mseed_repack.specs.declared.series.Fitting.TheVariants.{Fits, Misfits}
use Rattle.mseed_repack.specs.declared.packability.Packability.{Packability}
use Rattle.mseed_repack.specs.declared.packability.Packability.TheVariants.{Fit, Broken, Misfit}
use Rattle.mseed_pack.specs.declared.window.TheConstants.{MOST_DIFFERENCES}
use Rattle.mseed_repack.specs.declared.stretching.Cutting.{Cutting}
use Rattle.mseed_repack.specs.declared.stretching.Cutting.TheVariants.{Whole, Stretches}

-- what is kept of a stretch tells how its first record begins
abbrev pub IsBegunBy : Stretch → List View → Type 0
IsBegunBy s [] = ⊥
IsBegunBy s (first ∷ rest) = IsStretchAt s first []

-- the text is the records that a stretch is packed into, so many
pub record IsStretchText (o : Options) (s : List View) (count : ℕ) (text : List ℕ) : Type 0 where
  pub series : IsSeriesText o s text
  pub count_is : count ≡ length series.records

-- what packing a stretch comes to: all of its records, so many; or, where the output failed, a part of them
abbrev pub IsStretchWritten : {E : Type 0} → Options → List View → Result ℕ E → BytesWritten → BytesWritten → Type 0
IsStretchWritten o s (Ok count) old new = Wrote (IsStretchText o s count) 0 old new
IsStretchWritten o s (Err fault) old new = Wrote (IsPackedInPart o s) 1 old new

-- how many records a stretch has at the most: as many as it is planned with, or as many as there can be
abbrev pub most_of : Plan → ℕ
most_of p = unwrap_or p.records (2 ^ 64 - 1)

-- some records as stretches, one after another: each of so many as it is planned with, or of as many as are left
abbrev pub stretches_by : List Plan → List View → List (List View)
stretches_by [] vs = []
stretches_by (p ∷ ps) vs = take (most_of p) vs ∷ stretches_by ps (drop (most_of p) vs)

-- a stretch has a record, each is sound, no more than a loop can count, and there is room for so many leap seconds
pub record IsReadable (places : ℕ) (s : List View) : Type 0 where
  pub some : s ≢ []
  pub sound : AllByRecursion IsSound s
  pub few : length s ≤ 2 ^ 40
  pub steps_fit : steps_of s ≤ places

-- A stretch goes this way: from frames to frames, where its records can, it has so many samples, and there is room for
-- those of one record; or by a list, where there is room for all.
abbrev pub GoesBy : Encoding → ℕ → Way → List View → Type 0
GoesBy encoding room (Frames count) s =
    IsSteim encoding × AreUnread s × (count ≡ samples_of s) × (MOST_DIFFERENCES ≤ room)
GoesBy encoding room Listed s = samples_of s ≤ room

-- what is found of a series: it can be packed, and goes this way; or it can't, for this reason
abbrev pub IsFitting : Options → ℕ → List View → Fitting → Type 0
IsFitting o room s (Fits way) = StretchFits o s × GoesBy o.encoding room way s
IsFitting o room s (Misfits fault) = StretchMisfits o fault s

-- so many samples there has to be room for: by a list, and where only the samples show that they don't fit, for all
abbrev pub room_of : Fitting → List View → ℕ
room_of (Fits (Frames count)) s = MOST_DIFFERENCES
room_of (Fits Listed) s = samples_of s
room_of (Misfits fault) s = samples_of s

-- the text is the records of stretches, whose sequence numbers run on
pub record IsTextOn (o : Options) (ss : List (List View)) (text : List ℕ) : Type 0 where
  pub records : List (List ℕ)
  pub packed : ArePackedOn o ss records
  pub text_is : text ≡ concat records

-- or those of the first stretches, and a part of the next one's
pub record IsPartOn (o : Options) (ss : List (List View)) (text : List ℕ) : Type 0 where
  pub before : List (List View)
  pub stretch : List View
  pub back : List (List View)
  pub parts : ss ≡ before ++ stretch ∷ back
  pub records : List (List ℕ)
  pub packed : ArePackedOn o before records
  pub options : Options
  pub numbered : IsNumberedOn o (length records) options
  pub own : List ℕ
  pub part : IsPackedInPart options stretch own
  pub text_is : text ≡ concat records ++ own

-- the records of a channel are cut so: not at all, or into stretches
abbrev pub IsCutAs : Cutting → List View → List (List View) → Type 0
IsCutAs Whole vs ss = ss ≡ vs ∷ []
IsCutAs Stretches vs ss = AreStretches vs ss

-- a stretch can be read and packed, and goes this way
pub record IsPlanned (o : Options) (room places : ℕ) (way : Way) (s : List View) : Type 0 where
  pub readable : IsReadable places s
  pub fits : StretchFits o s
  pub goes : GoesBy o.encoding room way s

-- so does each stretch of some records, as it is planned
abbrev pub CanBeWritten : Options → ℕ → ℕ → List Plan → List View → Type 0
CanBeWritten o room places [] vs = ⊤
CanBeWritten o room places (p ∷ ps) vs =
    IsPlanned o room places p.way (take (most_of p) vs) × CanBeWritten o room places ps (drop (most_of p) vs)

-- what is found of a channel that is packed whole
abbrev pub IsPackabilityWhole : Options → List View → Packability → Type 0
IsPackabilityWhole o vs Fit = AllByRecursion IsSound vs × StretchFits o vs
IsPackabilityWhole o vs Broken = ¬ (AllByRecursion IsSound vs)
IsPackabilityWhole o vs (Misfit number fault) = AllByRecursion IsSound vs × (number ≡ 1) × StretchMisfits o fault vs

-- what is found of a channel whose records are cut so
abbrev pub IsPackabilityAs : Cutting → Options → List View → Packability → Type 0
IsPackabilityAs Whole = IsPackabilityWhole
IsPackabilityAs Stretches = IsPackability

-- the text is what a channel is packed into whose records are cut so
abbrev pub IsTextAs : Cutting → Options → List View → List ℕ → Type 0
IsTextAs Whole = IsSeriesText
IsTextAs Stretches = IsChannelText

-- or a part of it
abbrev pub IsPartAs : Cutting → Options → List View → List ℕ → Type 0
IsPartAs Whole = IsPackedInPart
IsPartAs Stretches = IsChannelPart

-- the texts of these channels, whose records are cut so, one after another
abbrev pub TextsAs : Cutting → Options → List View → List Channel → List ℕ → Type 0
TextsAs cutting o views cs text =
    AreTexts (λ (c : Channel) own. IsTextAs cutting o (records_in views c.0) own) cs text

-- or those of the first ones, and a part of the next one's
abbrev pub PartsAs : Cutting → Options → List View → List Channel → List ℕ → Type 0
PartsAs cutting o views cs text =
    IsTextUpTo (λ (c : Channel) own. IsTextAs cutting o (records_in views c.0) own)
    (λ (c : Channel) own. IsPartAs cutting o (records_in views c.0) own) cs text

-- this is found of a channel; if it fits, it is cut by its plans, and can be written as these say
pub record IsReady (cutting : Cutting) (o : Options) (room places : ℕ) (vs : List View) (s : Packability)
    (ps : List Plan) : Type 0 where
  pub stands : IsPackabilityAs cutting o vs s
  pub cut : IsFit s → IsCutAs cutting vs (stretches_by ps vs)
  pub can : IsFit s → CanBeWritten o room places ps vs

-- the same of all channels of an archive
pub data AreReady (cutting : Cutting) (o : Options) (room places : ℕ) (views : List View) : List Channel
    → List Packability → List (List Plan) → Type 0 where
  ready_none : AreReady cutting o room places views [] [] []
  ready_next : (c : Channel) (s : Packability) (ps : List Plan) (cs : List Channel) (ss : List Packability)
      (ls : List (List Plan)) → IsReady cutting o room places (records_in views c.0) s ps
      → AreReady cutting o room places views cs ss ls
      → AreReady cutting o room places views (c ∷ cs) (s ∷ ss) (ps ∷ ls)
