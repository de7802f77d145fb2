-- What packing an archive anew comes to, by how its channels are planned.
use Rattle.std.proofs.Common.{arith}
use Rattle.std.proofs.Common.{◌≡◌, ◌∙◌, ℕ, List, [], ◌∷◌, length, ap, refl, Bool, false, Ok, Err}
use Rattle.std.specs.List.{AllByRecursion}
use Rattle.std.proofs.lemmas.List.Elements.{All-weaker, All-from_recursion}
use Rattle.mseed_record.specs.View.{View}
use Rattle.mseed_record.specs.declared.codes.Codes.{Codes}
use Rattle.mseed_audit.specs.Channels.{Placed, channel_in}
use Rattle.mseed_audit.specs.Follows.{IsContinuous, IsSound}
use Rattle.mseed_audit.specs.declared.finding.Finding.{Finding}
use Rattle.mseed_stream.specs.Device.{BytesRead, BytesWritten}
use Rattle.mseed_pack.specs.declared.options.Options.{Options}
use Rattle.mseed_repack.specs.Repack.{AreContinuous, CanBePacked, CantBePacked, Channel, IsArchiveOf, IsFirst}
use Rattle.mseed_repack.specs.Repack.{IsFirstFinding, IsFitFor, StretchFits, Wrote, records_in}
use Rattle.mseed_repack.specs.ByStretches.{AreFound, AreReported, IsFit, kept_of, left_out_of}
use Rattle.mseed_repack.specs.Selected.{ReportsIfLeft}
use Rattle.mseed_repack.specs.private.Planning.{AreReady, PartsAs, IsPackabilityAs, TextsAs}
use Rattle.mseed_repack.specs.private.Restretching.{IsFirstRefused, IsPackedIfLeft}
use Rattle.mseed_repack.specs.declared.fault.RepackFault.{RepackFault}
use Rattle.mseed_repack.specs.declared.fault.RepackFault.TheVariants.{Broken as BrokenChannel}
use Rattle.mseed_repack.specs.declared.fault.RepackFault.TheVariants.{Misfit as MisfitChannel, Write}
use Rattle.mseed_repack.specs.declared.plan.Plan.{Plan}
use Rattle.mseed_repack.specs.declared.refusing.LeftOut.TheVariants.{Nothing}
use Rattle.mseed_repack.specs.declared.packability.Packability.{Packability}
use Rattle.mseed_repack.specs.declared.packability.Packability.TheVariants.{Fit}
use Rattle.mseed_repack.specs.declared.stretching.Cutting.{Cutting}
use Rattle.mseed_repack.specs.declared.stretching.Cutting.TheVariants.{Whole, Stretches}
use Rattle.mseed_repack.proofs.Archives.{kept_all}
use Rattle.mseed_repack.proofs.AskedFor.{lines_none, silent_only}
use Rattle.mseed_repack.proofs.OneRepacking.{none_first}
use Rattle.mseed_repack.proofs.Planning.{packability_each, wrote_as}
use Rattle.mseed_repack.proofs.Packabilities.{wrote_kept, each_found, fits_by_packability, as_many}

-- as many channels are found something of as there are, in whatever list that is
pub as_found : {cutting : Cutting} {o : Options} {room places : ℕ} {views : List View} (cs : List Channel)
    (ss ts : List Packability) (ls : List (List Plan)) → ts ≡ ss → AreReady cutting o room places views cs ss ls
    → length ts ≡ length cs
as_found cs ss ts ls same ready = ap (λ (us : List Packability). length us) same ∙ packability_each cs ss ls ready

none_left : (ss : List Packability) → AllByRecursion IsFit ss → left_out_of ss ≡ Nothing
none_left [] fit = refl
none_left (s ∷ ss) fit = grind (arith, none_left ss fit.1)

-- what is known of the channels of an archive, which are cut so, before any is written or left out
pub record AreJudged (cutting : Cutting) (o : Options) (leave : Bool) (h : BytesRead) (views : List View)
    (cs : List Channel) (ss : List Packability) : Type 0 where
  pub archive : IsArchiveOf h views cs
  pub continuous : cutting ≡ Whole → AreContinuous views cs
  pub found : AreFound (IsPackabilityAs cutting o) views cs ss
  pub fit : leave ≡ false → AllByRecursion IsFit ss

module _ (place : List View → List Placed) (o : Options) (leave : Bool) (count : ℕ) (h : BytesRead) (views : List View)
    (cs : List Channel) where
  -- where each channel fits, nothing is reported
  silent : (ss : List Packability) (first between last : BytesWritten) → AllByRecursion IsFit ss
      → ReportsIfLeft (left_out_of ss) count first between → AreReported o.encoding cs ss between last → last ≡ first
  silent ss first between last h h2 h3 = grind (arith, silent_only, lines_none, none_left)

  -- where each fits, what was written of those that are kept was of all
  whole_kept : (P : List Channel → List ℕ → Type 0) {failures : ℕ} {old new : BytesWritten} (ss : List Packability)
      → AreJudged Whole o leave h views cs ss → leave ≡ false → Wrote (P (kept_of cs ss)) failures old new
      → IsFitFor o h views cs × Wrote (P cs) failures old new
  whole_kept P ss k stays wrote = (
    record {
      archive = k.archive;
      continuous = k.continuous refl;
      fit = All-from_recursion (λ (c : Channel). CanBePacked o views c.0) cs
          (each_found (IsPackabilityAs Whole o) IsFit (StretchFits o) (λ vs s is fit.
          (fits_by_packability (IsPackabilityAs Whole o) vs s is fit).1) views cs ss k.found (k.fit stays));
    },
    rw (kept_all cs ss (as_many (IsPackabilityAs Whole o) views cs ss k.found) (k.fit stays)) at wrote,
  )

  pub packed : (cutting : Cutting) (ss : List Packability) (old new first between last : BytesWritten)
      → AreJudged cutting o leave h views cs ss → ReportsIfLeft (left_out_of ss) count first between
      → AreReported o.encoding cs ss between last → Wrote (TextsAs cutting o views (kept_of cs ss)) 0 old new
      → IsPackedIfLeft cutting place o leave count (Ok (left_out_of ss)) h old new first last
  packed Whole ss old new first between last k untimed told wrote = λ stays. (
    none_left ss (k.fit stays),
    (views, (cs, whole_kept (TextsAs Whole o views) ss k stays wrote)),
    silent ss first between last (k.fit stays) untimed told,
  )
  packed Stretches ss old new first between last k untimed told wrote = grind (arith, wrote_kept, wrote_as)

  pub packed_in_part : (cutting : Cutting) (ss : List Packability) (old new first between last : BytesWritten)
      → AreJudged cutting o leave h views cs ss → ReportsIfLeft (left_out_of ss) count first between
      → AreReported o.encoding cs ss between last → Wrote (PartsAs cutting o views (kept_of cs ss)) 1 old new
      → IsPackedIfLeft cutting place o leave count (Err Write) h old new first last
  packed_in_part Whole ss old new first between last k untimed told wrote = λ stays. (
    tt,
    (views, (cs, whole_kept (PartsAs Whole o views) ss k stays wrote)),
    silent ss first between last (k.fit stays) untimed told,
  )
  packed_in_part Stretches ss old new first between last k untimed told wrote = grind (arith, wrote_kept, wrote_as)

  -- the archive is refused for a channel that isn't continuous
  pub broken_refused : (cutting : Cutting) (key : Codes) (first : Finding) (s w : BytesWritten) → IsArchiveOf h views cs
      → cutting ≡ Whole → IsFirst (λ k. IsContinuous (records_in views k)) (λ k. ¬ (IsContinuous (records_in views k)))
      key cs → IsFirstFinding (channel_in key (place views)) first
      → IsPackedIfLeft cutting place o leave count (Err (BrokenChannel key first)) h s s w w
  broken_refused cutting key first s w h' h2 h3 h4 = grind (arith)

  -- or for one that isn't to be left out
  pub first_refused : (cutting : Cutting) (fault : RepackFault) (s w : BytesWritten) → IsArchiveOf h views cs
      → (cutting ≡ Whole → AreContinuous views cs) → leave ≡ false
      → IsFirstRefused cutting o (place views) views cs fault
      → IsPackedIfLeft cutting place o leave count (Err fault) h s s w w
  first_refused Whole (BrokenChannel key first) s w archive whole stays is =
      absurd (none_first (λ (k : List ℕ). AllByRecursion IsSound (records_in views k)) is.0 (λ no yes. no yes)
      (λ k c lt. (whole refl k c lt).each))
  first_refused Whole (MisfitChannel key n f) s w archive whole stays is =
      let at = is.1 in
      let before = All-weaker (λ (c : Channel). IsPackabilityAs Whole o (records_in views c.0) Fit)
      (λ (c : Channel). CanBePacked o views c.0) (λ c fits. fits.1) at.prefix at.before in
      let first : IsFirst (CanBePacked o views) (CantBePacked o views f) key cs = search (at, before, at.is_it.2) in
      λ _. (tt, (views, (cs, (archive, whole refl, first, at.is_it.1, refl))), refl)
  first_refused cutting fault s w archive whole stays is = grind (arith)
