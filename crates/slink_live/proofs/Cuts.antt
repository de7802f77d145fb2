-- The input is cut into records: none is lost, whatever the pieces.
use Rattle.std.proofs.Common.{◌≡◌, ℕ, ◌+◌, ◌-◌, ◌*◌, ◌<◌, ◌≤◌, ◌∙◌, ap, subst, refl, sym, arith, inl, inr, List, []}
use Rattle.std.proofs.Common.{◌∷◌, ◌++◌, length, length-append, length-take, append_assoc, append-nil, take, drop}
use Rattle.std.proofs.Common.{take_all}
use Rattle.std.proofs.lemmas.List.{take-append-le}
use Rattle.std.proofs.lemmas.List.Folds.{concat-append}
use Rattle.std.specs.List.{AllByRecursion, concat}
use Rattle.std.proofs.ByRecursion.{All-append}
use Rattle.mseed_record.specs.declared.fault.FrameFault.{FrameFault}
use Rattle.mseed_record.specs.declared.framer.Scan.TheVariants as scans
use Rattle.mseed_record.specs.Record.{IsRecord}
use Rattle.mseed_record.specs.Scan.{Decides, HasNoRecord, HasNoShorter}
use Rattle.mseed_record.proofs.OneRecord.{one_record}
use Rattle.mseed_stream.specs.declared.fault.StreamFault.TheVariants as faults
use Rattle.slink_wire.specs.Place.{Fields}
use Rattle.slink_feed.specs.Session.{Fits, State}
use Rattle.slink_feed.specs.declared.input.InputFault.{InputFault}
use Rattle.slink_feed.specs.declared.input.InputFault.TheVariants.{Stream, Foreign}
use Rattle.slink_feed.specs.Intake.{IsOfFeed, foreign_of, places_of, pushed}
use Rattle.slink_live.specs.Input.{IsOf, MayBegin}
use Rattle.slink_live.specs.Served.{IntakeState, IsBelow}
use Rattle.slink_live.specs.private.Cutting.{Cuts, CutsOff, IsRefused, LooksOn, waits, pushes}
use Rattle.slink_feed.proofs.Deliveries.{take_prefix}
use Rattle.slink_live.proofs.Fed.{below_fed, fed_append, fits_fed, places_fed}

-- a short rest begins with no record of the feed
pub short_none : (places : List Fields) (rest : List ℕ) → length rest < 512 → ¬ (IsOf places (take 512 rest))
short_none places rest short of = omega (arith, short, of.size, length-take 512 rest)

-- no more records than bytes, after a short rest
concat_size : (places : List Fields) (rs : List (List ℕ)) → AllByRecursion (IsOf places) rs
    → length (concat rs) ≡ 512 * length rs
concat_size places [] h = refl
concat_size places (r ∷ rs) h = omega (arith, length-append r (concat rs), h.0.size, concat_size places rs h.1)

module _ (old new : IntakeState) (bytes rest : List ℕ) (short : length old.kept < 512) (cuts : Cuts old bytes new rest)
  where
    pub cut_few : length cuts.records ≤ length bytes
    cut_few =
        let size = concat_size (places_of old.feed) cuts.records cuts.each in
        omega (arith, short, size, simp length-append at (ap length cuts.joined))

    pub cut_below : (n : ℕ) → IsBelow n old.feed → IsBelow (n + length bytes) new.feed
    cut_below n below k w there =
        omega (arith, cut_few, below_fed n old.feed cuts.records below k w (rw cuts.feed_is at there))

    pub cut_fits : (s : State) → Fits old.feed s → Fits new.feed s
    cut_fits s fits = rw cuts.feed_is (fits_fed old.feed cuts.records s fits)

-- Bytes after them stay, after the rest.
cuts_then : {old now : IntakeState} {bytes rest : List ℕ} (more : List ℕ) (new : IntakeState) → Cuts old bytes now rest
    → new.feed ≡ now.feed → new.records ≡ now.records → Cuts old (bytes ++ more) new (rest ++ more)
cuts_then {old} {now} {bytes} {rest} more new cuts same counted = record {
  records = cuts.records;
  joined = rw (← (append_assoc old.kept bytes more), cuts.joined) (append_assoc (concat cuts.records) rest more);
  each = cuts.each;
  feed_is = same ∙ cuts.feed_is;
  counted = counted ∙ cuts.counted;
}

-- The next bytes of a piece are kept.
pub cuts_kept : (old now kept : IntakeState) (bytes : List ℕ) (start count : ℕ)
    → Cuts old (take start bytes) now now.kept
    → kept ≡ record now { kept = now.kept ++ take (start + count - start) (drop start bytes) }
    → Cuts old (take (start + count) bytes) kept kept.kept
cuts_kept old now kept bytes start count cuts keeps =
    let same : start + count - start ≡ count = omega arith in
    rw (keeps, same, take_prefix bytes start count) (cuts_then (take count (drop start bytes)) _ cuts refl refl)

-- What is kept is looked at.
module _ {old now : IntakeState} {bytes : List ℕ} (cuts : Cuts old bytes now now.kept) where
  same_places : places_of now.feed ≡ places_of old.feed
  same_places = ap places_of cuts.feed_is ∙ places_fed old.feed cuts.records

  cuts_whole : IsOf (places_of now.feed) now.kept
      → Cuts old bytes (record { feed = pushed now.feed now.kept; kept = []; records = now.records + 1 }) []
  cuts_whole of = record {
    records = cuts.records ++ now.kept ∷ [];
    joined = rw (
      append-nil (concat (cuts.records ++ now.kept ∷ [])),
      concat-append cuts.records (now.kept ∷ []),
      append-nil now.kept,
    ) cuts.joined;
    each = All-append (IsOf (places_of old.feed)) cuts.records (now.kept ∷ []) cuts.each (rw same_places at of, tt);
    feed_is = rw (fed_append old.feed cuts.records (now.kept ∷ []), ← cuts.feed_is) refl;
    counted = omega (arith, cuts.counted, length-append cuts.records (now.kept ∷ []));
  }

  pub look_on : (new : IntakeState) → LooksOn now new
      → Cuts old bytes new new.kept × (length new.kept < 512) × MayBegin new.kept
  look_on new (waits k decides few short same) = rw same (cuts, short, inr (k, decides, few))
  look_on new (pushes of same) = let few : 0 < 512 = omega arith in rw same (cuts_whole of, few, inl refl)

  pub look_off : (new : IntakeState) (fault : InputFault) (more all : List ℕ) → new ≡ now
      → IsRefused (places_of now.feed) now.records now.kept fault → bytes ++ more ≡ all → CutsOff old all new fault
  look_off new fault more all same refused split = rw same (record {
    rest = now.kept ++ more;
    cuts = rw (← split) (cuts_then more now cuts refl refl);
    no_further = rw same_places at (refused.none more);
    is_fault = rw same_places at (refused.is_fault more);
    of_bytes = refused.of_bytes;
  })

-- why no record of the feed begins
pub refused_not : (places : List Fields) (n offset : ℕ) (kept : List ℕ) (f : FrameFault) → Decides kept (scans.Not f)
    → HasNoRecord kept → offset ≡ 512 * n → IsRefused places n kept (Stream (faults.Frame offset f))
refused_not places n offset kept f decides none at = record {
  none = λ more of. none more 512 of.is_record;
  is_fault = λ more. (kept, more, refl, decides, at);
  of_bytes = tt;
}

pub refused_long : (places : List Fields) (n : ℕ) (kept : List ℕ) (k : ℕ) → Decides kept (scans.Need k)
    → HasNoShorter kept k → 512 < k → IsRefused places n kept (Foreign (foreign_of (n + 1) k kept))
refused_long places n kept k decides none long = record {
  none = λ more of. omega (arith, none more 512 of.is_record, of.size, long);
  is_fault = λ more. (kept, more, refl, inr (decides, long), refl);
  of_bytes = tt;
}

-- A record of another length, or of none of these stations: no record of these begins with the same bytes.
pub refused_record : (places : List Fields) (n : ℕ) (kept : List ℕ) (k : ℕ) → k ≤ length kept
    → Decides kept (scans.Record k) → IsRecord (take k kept) → ¬ (IsOf places (take k kept))
    → IsRefused places n kept (Foreign (foreign_of (n + 1) k kept))
refused_record places n kept k le decides is not_of = record {
  none = λ more of.
      let leading : take k (kept ++ more) ≡ take k kept = take-append-le k kept more le in
      let size : k ≡ 512 = one_record (kept ++ more) k 512 (omega (arith, le, length-append kept more))
      (omega (arith, of.size, length-take 512 (kept ++ more))) (rw leading is) of.is_record in
      not_of (subst (IsOf places) (ap (λ i. take i (kept ++ more)) (sym size) ∙ leading) of);
  is_fault = λ more. (kept, more, refl, inl (decides, not_of), refl);
  of_bytes = tt;
}

pub refused_none : (places : List Fields) (n : ℕ) (kept : List ℕ) → length kept ≡ 512 → IsRecord kept
    → Decides kept (scans.Record 512) → ¬ (IsOfFeed places kept)
    → IsRefused places n kept (Foreign (foreign_of (n + 1) (length kept) kept))
refused_none places n kept size whole decides none =
    let all : take (length kept) kept ≡ kept = take_all (length kept) kept (omega arith) in
    refused_record places n kept (length kept) (omega arith)
    (subst (λ (k : ℕ). Decides kept (scans.Record k)) (sym size) decides) (rw all whole)
    (λ of. let of_kept = rw all at of in none (of_kept.size, of_kept.k, of_kept.place, of_kept.there, of_kept.bears))
