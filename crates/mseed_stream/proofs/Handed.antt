-- The records that a cutter handed out, and the archive that they are.
use Rattle.std.proofs.Common.{◌≡◌, ℕ, ◌+◌, ◌≤◌, ◌++◌, List, [], ◌∷◌, length, take, drop, Option, Some, None, Result, Ok}
use Rattle.mseed_stream.specs.Cutting.{handed_by}
use Rattle.mseed_stream.specs.Cutting.{moves_by}
use Rattle.std.proofs.Common.{IfSome}
use Rattle.std.proofs.Common.{IfOk}
use Rattle.std.proofs.Common.{Err, IfErr, refl, sym, ap, ◌∙◌, arith, length-take}
use Rattle.std.proofs.lemmas.Grind.{common_steps}
use Rattle.std.proofs.lemmas.List.{append-nil, take-append-le, take-append-drop}
use Rattle.std.proofs.lemmas.List.Folds.{concat-append}
use Rattle.std.proofs.Math.Seq.{take-add, take-length}
use Rattle.std.proofs.ByRecursion.{All-push}
use Rattle.mseed_record.specs.Record.{IsRecord}
use Rattle.mseed_record.proofs.Answered.{answered}
use Rattle.mseed_stream.specs.Archive.{HasNoFurther, IsArchive, HasRecords, End, IsEndOf, clean, frame, truncated}
use Rattle.mseed_stream.specs.Archive.{is_clean, is_frame, is_truncated}
use Rattle.mseed_stream.specs.Device.{BytesRead}
use Rattle.mseed_stream.specs.Cutting.{read_from, IfEnds, IsCutFault, IsCleanEnd}
use Rattle.mseed_record.specs.View.{View}
use Rattle.mseed_stream.specs.Walk.{AreViews}
use Rattle.mseed_stream.specs.declared.fault.StreamFault.{StreamFault}
use Rattle.mseed_stream.specs.declared.fault.StreamFault.TheVariants.{Frame, Truncated, Read, Turns, Memory}
use Rattle.mseed_record.proofs.Called.{record_long}
use Rattle.mseed_stream.proofs.Stops.{none_short}

-- no prefix of a rest with an end is a record
pub no_further : (rest : List ℕ) (e : End) → IsEndOf rest e → (k : ℕ) → k ≤ length rest
    → IsRecord (take k rest) → ⊥
no_further rest _ (is_clean empty) k l r =
    let long : 48 ≤ length (take k rest) = record_long (take k rest) r in
    let none : length rest ≡ 0 = ap (λ (xs : List ℕ). length xs) empty in
    omega (arith, length-take k rest)
no_further rest _ (is_frame f d) k l r = cc (answered rest k _ d l r)
no_further rest _ (is_truncated n some d) k l r = cc (answered rest k _ d l r)

-- what was handed out stays where more is read
same_prefix : (old new more : List ℕ) (offset : ℕ) → offset ≤ length old → new ≡ old ++ more
    → take offset new ≡ take offset old
same_prefix old new more offset l e = grind (arith, take-append-le)

-- views stay so while more is read
pub views_stay : (old new more : List ℕ) (offset : ℕ) (views : List View) → offset ≤ length old
    → new ≡ old ++ more
    → AreViews old offset views → AreViews new offset views
views_stay old new more offset views l e are = record {
  each = are.each;
  records = record { joined = same_prefix old new more offset l e ∙ are.records.joined; each = are.records.each };
  offset_is = are.offset_is;
}

pub records_stay : (old new more : List ℕ) (offset : ℕ) (records : List (List ℕ)) → offset ≤ length old
    → new ≡ old ++ more → HasRecords old offset records → HasRecords new (offset + 0) (records ++ [])
records_stay old new more offset records l e has =
    rw (append-nil records) (record { joined = grind (arith, common_steps, take-append-le); each = has.each })

-- what the bytes after the records begin with is one more
pub records_next : (bytes : List ℕ) (offset : ℕ) (records : List (List ℕ)) (b : List ℕ)
    → HasRecords bytes offset records → IsRecord b → b ≡ take (length b) (drop offset bytes)
    → HasRecords bytes (offset + length b) (records ++ b ∷ [])
records_next bytes offset records b has is prefix = record {
  joined = grind (arith, common_steps, take-add, concat-append);
  each = All-push IsRecord records b has.each is;
}

pub records_more : (old new more : List ℕ) (offset : ℕ) (records : List (List ℕ)) → offset ≤ length old
    → new ≡ old ++ more → IsRecord (drop offset new) → HasRecords old offset records
    → HasRecords new (offset + length (drop offset new)) (records ++ drop offset new ∷ [])
records_more old new more offset records l e is has =
    records_next new offset records (drop offset new)
    (record { joined = same_prefix old new more offset l e ∙ has.joined; each = has.each }) is
    (sym (take-length (drop offset new)))

pub records_after : (result : Result (Option ℕ) StreamFault) (old new : BytesRead) (more : List ℕ) (offset : ℕ)
    (records : List (List ℕ)) → offset ≤ length old.bytes → new.bytes ≡ old.bytes ++ more
    → IfOk result (λ o. IfSome o (λ n. IsRecord (read_from offset new))) → HasRecords old.bytes offset records
    → HasRecords new.bytes (offset + moves_by result (read_from offset new))
    (records ++ handed_by result (read_from offset new))
records_after (Ok (Some n)) old new more offset records l e is has =
    records_more _ _ more offset records l e is has
records_after (Ok None) old new more offset records l e is has = records_stay _ _ more offset records l e has
records_after (Err f) old new more offset records l e is has = records_stay _ _ more offset records l e has

-- the bytes read are those records and then the rest
archive_of : (old new more : List ℕ) (offset : ℕ) (records : List (List ℕ)) → offset ≤ length old
    → new ≡ old ++ more
    → HasRecords old offset records → HasNoFurther (drop offset new) → IsArchive new records (drop offset new)
archive_of old new more offset records l e has none = record {
  joined = sym (take-append-drop offset new)
      ∙ ap (λ (xs : List ℕ). xs ++ drop offset new) (same_prefix old new more offset l e ∙ has.joined);
  each = has.each;
  no_further = none;
}

pub archive_by : (old new more : List ℕ) (offset : ℕ) (records : List (List ℕ)) (end : End)
    → offset ≤ length old
    → new ≡ old ++ more → HasRecords old offset records → IsEndOf (drop offset new) end
    → IsArchive new records (drop offset new)
archive_by old new more offset records end l e has is =
    archive_of old new more offset records l e has (no_further (drop offset new) end is)

pub archive_at : (result : Result (Option ℕ) StreamFault) (old new : BytesRead) (more : List ℕ) (offset : ℕ)
    (records : List (List ℕ)) → offset ≤ length old.bytes → new.bytes ≡ old.bytes ++ more
    → HasRecords old.bytes offset records
    → (result ≡ Ok None → IsCleanEnd offset new) → IfErr result (λ e. IsCutFault e offset new)
    → IfEnds result (IsArchive new.bytes records (read_from offset new))
archive_at (Ok (Some n)) old new more offset records l e has end fault = tt
archive_at (Ok None) old new more offset records l e has end fault =
    archive_by _ _ more offset records clean l e has (end refl).0
archive_at (Err (Frame n f)) old new more offset records l e has end fault =
    archive_by _ _ more offset records (frame f) l e has fault.1
archive_at (Err (Truncated n have)) old new more offset records l e has end fault =
    archive_by _ _ more offset records (truncated have) l e has fault.1
archive_at (Err (Read n)) old new more offset records l e has end fault =
    archive_of _ _ more offset records l e has (none_short (read_from offset new) fault.3)
archive_at (Err (Turns n)) old new more offset records l e has end fault =
    archive_of _ _ more offset records l e has (none_short (read_from offset new) fault.3)
archive_at (Err Memory) old new more offset records l e has end fault = tt
