-- A channel that is packed anew by its stretches.
use Rattle.std.specs.Prelude.{◌≡◌, ℕ, ◌+◌, ◌%◌, List, [], ◌∷◌, ◌++◌, length, Result, Ok, Err}
use Rattle.std.specs.List.{concat, AllByRecursion}
use Rattle.mseed_record.specs.View.{View}
use Rattle.mseed_stream.specs.Device.{BytesWritten}
use Rattle.mseed_audit.specs.Follows.{IsSound}
use Rattle.mseed_repack.specs.Stretches.{AreStretches, AreStretchesUpTo, IsFirstStretch}
use Rattle.mseed_pack.specs.declared.fault.PackFault.{PackFault}
use Rattle.mseed_pack.specs.declared.options.Options.{Options}
use Rattle.mseed_repack.specs.Repack.{IsPackedInPart, IsStretchPacked, StretchFits, StretchMisfits, Wrote}
use Rattle.mseed_repack.specs.declared.channel_fault.ChannelFault.{ChannelFault}
use Rattle.mseed_repack.specs.declared.channel_fault.ChannelFault.TheVariants.{Broken, Misfit, Write, Memory}

-- the options of what stands after `n` records: sequence numbers run on, and have six digits (SEED manual,
-- chapter 8, fixed section of data header, field 1)
pub record IsNumberedOn (o : Options) (n : ℕ) (next : Options) : Type 0 where
  pub exponent_is : next.exponent ≡ o.exponent
  pub encoding_is : next.encoding ≡ o.encoding
  pub sequence_is : next.first_sequence ≡ (o.first_sequence + n) % 1_000_000

-- stretches are packed one after another, and the sequence numbers of each run on after those before it
pub data ArePackedOn (o : Options) : List (List View) → List (List ℕ) → Type 0 where
  none : ArePackedOn o [] []
  more : (ss : List (List View)) (s : List View) (records others : List (List ℕ)) (next : Options)
      → ArePackedOn o ss records → IsNumberedOn o (length records) next → IsStretchPacked next s others
      → ArePackedOn o (ss ++ s ∷ []) (records ++ others)

-- a channel's records are packed stretch by stretch
pub record IsChannelPacked (o : Options) (vs : List View) (records : List (List ℕ)) : Type 0 where
  pub stretches : List (List View)
  pub are : AreStretches vs stretches
  pub packed : ArePackedOn o stretches records

-- the text is all of its stretches' records
pub record IsChannelText (o : Options) (vs : List View) (text : List ℕ) : Type 0 where
  pub records : List (List ℕ)
  pub packed : IsChannelPacked o vs records
  pub text_is : text ≡ concat records

-- after some stretches of a channel this is the next one
pub record IsNextStretch (vs : List View) (before : List (List View)) (stretch : List View) : Type 0 where
  pub left : List View
  pub cut : AreStretchesUpTo vs before left
  pub rest : List View
  pub first : IsFirstStretch left stretch rest

-- the text is the records of a channel's first stretches, and a part of those of the next one
pub record IsChannelPart (o : Options) (vs : List View) (text : List ℕ) : Type 0 where
  pub before : List (List View)
  pub stretch : List View
  pub next : IsNextStretch vs before stretch
  pub records : List (List ℕ)
  pub packed : ArePackedOn o before records
  pub options : Options
  pub numbered : IsNumberedOn o (length records) options
  pub own : List ℕ
  pub part : IsPackedInPart options stretch own
  pub text_is : text ≡ concat records ++ own

-- each of a channel's records is sound, and each of its stretches can be packed
pub record ChannelFits (o : Options) (vs : List View) : Type 0 where
  pub sound : AllByRecursion IsSound vs
  pub stretches : List (List View)
  pub are : AreStretches vs stretches
  pub fit : AllByRecursion (StretchFits o) stretches

-- each of a channel's records is sound, and the stretch with this number, counted from 1, is the first that can't
pub record ChannelMisfits (o : Options) (number : ℕ) (fault : PackFault) (vs : List View) : Type 0 where
  pub sound : AllByRecursion IsSound vs
  pub before : List (List View)
  pub stretch : List View
  pub next : IsNextStretch vs before stretch
  pub number_is : number ≡ length before + 1
  pub fit : AllByRecursion (StretchFits o) before
  pub misfit : StretchMisfits o fault stretch

-- What packing a channel by its stretches comes to. All is written where each record is sound and each stretch
-- can be packed; a part of that where the output failed; and nothing otherwise, where memory was refused too.
abbrev pub IsChannelRepacking : {U : Type 0} → Options → List View → Result U ChannelFault → BytesWritten
    → BytesWritten → Type 0
IsChannelRepacking o vs (Ok u) old new =
    ChannelFits o vs × Wrote (IsChannelText o vs) 0 old new
IsChannelRepacking o vs (Err Broken) old new = (¬ (AllByRecursion IsSound vs)) × (new ≡ old)
IsChannelRepacking o vs (Err (Misfit number fault)) old new =
    ChannelMisfits o number fault vs × (new ≡ old)
IsChannelRepacking o vs (Err Write) old new =
    ChannelFits o vs × Wrote (IsChannelPart o vs) 1 old new
IsChannelRepacking o vs (Err Memory) old new = new ≡ old
