-- The records of a slice, one after another.
use Rattle.std.proofs.Common.{◌≡◌, ℕ, ◌+◌, ◌-◌, ◌<◌, ◌≤◌, ◌^◌, ◌++◌, List, [], ◌∷◌, length, take, drop, sym, ap}
use Rattle.std.proofs.Common.{◌∙◌, arith, length-drop, Err}
use Rattle.std.proofs.lemmas.List.{append-nil, length-map, length-take-le, map-append}
use Rattle.mseed_record.specs.declared.fault.ViewFault.{ViewFault}
use Rattle.mseed_record.specs.declared.fault.ViewFault.TheVariants.{Not as Refused, Short}
use Rattle.mseed_record.specs.declared.view.RecordView.{RecordView}
use Rattle.mseed_record.specs.View.{IsView}
use Rattle.mseed_record.specs.Viewing.{view_of, scan_of}
use Rattle.mseed_record.specs.Scan.{Decides}
use Rattle.mseed_stream.specs.Archive.{HasRecords, End, IsEndOf, frame, truncated, is_frame, is_truncated}
use Rattle.mseed_stream.specs.Split.{bytes_of_each, fault_at, EndsAfter, IsSplitFault}
use Rattle.mseed_stream.proofs.Handed.{archive_by, records_next}
use Rattle.mseed_stream.proofs.Records.{view_record}

ends_after : (bytes : List ℕ) (offset : ℕ) (records : List (List ℕ)) (end : End) → offset ≤ length bytes
    → HasRecords bytes offset records → length records < 2 ^ 40 → IsEndOf (drop offset bytes) end
    → EndsAfter bytes offset records end
ends_after bytes offset records end within has few is = record {
  archive = archive_by bytes bytes [] offset records end within (sym (append-nil bytes)) has is;
  offset_is = ap (λ (xs : List ℕ). length xs) (sym has.joined) ∙ length-take-le offset bytes within;
  few = few;
  ends = is;
}

-- where no record begins after the records, the bytes end
pub split_fault : (bytes : List ℕ) (offset : ℕ) (records : List (List ℕ)) (e : ViewFault)
    → offset < length bytes
    → HasRecords bytes offset records → length records < 2 ^ 40 → Decides (drop offset bytes) (scan_of (Err e))
    → IsSplitFault (fault_at (length bytes) offset e) bytes
split_fault bytes offset records (Refused f) within has few d =
    (records, ends_after bytes offset records (frame f) (omega arith) has few (is_frame f d))
split_fault bytes offset records (Short k) within has few d =
    let size : length (drop offset bytes) ≡ length bytes - offset = length-drop offset bytes in
    let end : IsEndOf (drop offset bytes) (truncated (length bytes - offset)) =
    rw (← size) (is_truncated k (omega (arith, size)) d) in
    (records, ends_after bytes offset records (truncated (length bytes - offset)) (omega arith) has few end)

-- one more record
pub split_more : (bytes : List ℕ) (offset : ℕ) (views : List RecordView) (r : RecordView)
    → HasRecords bytes offset (bytes_of_each views) → IsView (view_of r)
    → (view_of r).bytes ≡ take (length (view_of r).bytes) (drop offset bytes)
    → HasRecords bytes (offset + length (view_of r).bytes) (bytes_of_each (views ++ r ∷ []))
split_more bytes offset views r has is prefix =
    let b : List ℕ = (view_of r).bytes in
    rw (← (map-append (λ (v : RecordView). (view_of v).bytes) views (r ∷ []))) at
    (records_next bytes offset (bytes_of_each views) b has (view_record (view_of r) is) prefix)

pub size_of_each : (views : List RecordView) (n : ℕ) → length views ≡ n → length (bytes_of_each views) ≡ n
size_of_each views n e = length-map views (λ (v : RecordView). (view_of v).bytes) ∙ e
