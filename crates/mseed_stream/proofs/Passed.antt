-- A cutter that goes past a record which its source holds whole.
use Rattle.std.proofs.Common.{◌≡◌, ℕ, ◌+◌, ◌-◌, ◌^◌, ◌≤◌, ◌++◌, List, [], ◌∷◌, length, take, drop, false, refl, sym, ap}
use Rattle.std.proofs.Common.{subst, arith, drop-drop}
use Rattle.std.proofs.lemmas.List.{drop_all, drop-append-le, length-take-le}
use Rattle.std.proofs.Math.Nat.{pow-le-pow_right}
use Rattle.mseed_record.specs.Record.{IsRecord}
use Rattle.mseed_record.specs.Scan.{short}
use Rattle.mseed_record.specs.View.{View, IsView}
use Rattle.mseed_stream.specs.Archive.{HasRecords}
use Rattle.mseed_stream.specs.Cutting.{IsAhead, IsAlong, IsRead, at_start, held_of, read_from}
use Rattle.mseed_stream.specs.Cutting.{lent_whole}
use Rattle.mseed_stream.specs.Device.{BytesRead, lent_also}
use Rattle.mseed_stream.specs.CutterState.{CutterState}
use Rattle.mseed_stream.specs.Walk.{HasHandedOut, bytes_in}
use Rattle.mseed_stream.proofs.Handed.{records_more}
use Rattle.mseed_stream.specs.private.Steps.{forgot}
use Rattle.std.proofs.lemmas.Grind.{common_steps}
use Rattle.mseed_stream.proofs.Walks.{handed_record}

-- a record has no more bytes than the longest
pub record_few : (b : List ℕ) → IsRecord b → length b ≤ 2 ^ 20
record_few b r = let by = r.1.1.1 in
    subst (λ (n : ℕ). n ≤ 2 ^ 20) (sym by.size) (pow-le-pow_right {n = 2} (omega arith) by.exponent_high)

-- two parts are read as one
pub lent_twice : (h : BytesRead) (xs ys : List ℕ) → lent_also (lent_also h xs) ys ≡ lent_whole h (xs ++ ys)
lent_twice h xs ys = grind (arith, common_steps)

pub rest_twice : (size : ℕ) (lent middle after : List ℕ) → 48 ≤ size → middle ≡ drop 48 lent
    → after ≡ drop (size - 48) middle → after ≡ drop size lent
rest_twice size lent middle after l first second =
    rw (second, first, drop-drop) (ap (λ (n : ℕ). drop n lent) (omega arith))

-- how the cutter stands then
abbrev pub passed : CutterState → ℕ → CutterState
passed c size = record c { offset = c.offset + size; prefix = []; is_lent = false; reads = c.reads + 2 }

-- it forgot what it lent, and went past a record after it
pub stands_after : (here old : CutterState) (size : ℕ) → here ≡ forgot old → held_of old ≡ []
    → record here { offset = here.offset + size; reads = here.reads + 2 } ≡ passed old size
stands_after here old size is none = rw (is, none) refl

pub passed_along : (h : BytesRead) (c : CutterState) (size : ℕ) (lent : List ℕ) → IsAlong h c
    → IsAhead size c lent
    → IsAlong (lent_whole h (take size lent)) (passed c size)
passed_along h c size lent is ahead =
    let few = record_few (take size lent) ahead.is_record in
    let long = length-take-le size lent ahead.whole in
    record {
      read = grind (arith, common_steps, drop_all);
      stop = λ same. at_start;
      asks = λ same. (48, short refl (omega arith));
      going_on = is.going_on;
      ended = rw ahead.goes_on tt;
    }

-- what is read from the offset on
reported_then : (h : BytesRead) (c : CutterState) (bytes : List ℕ) → IsRead h c → held_of c ≡ []
    → read_from c.offset (lent_whole h bytes) ≡ bytes
reported_then h c bytes is none = grind (arith, common_steps, drop-append-le)

pub passed_records : (h : BytesRead) (c : CutterState) (size : ℕ) (lent : List ℕ) (records : List (List ℕ)) → IsRead h c
    → IsAhead size c lent → HasRecords h.bytes c.offset records
    → HasRecords (lent_whole h (take size lent)).bytes (c.offset + size) (records ++ take size lent ∷ [])
passed_records h c size lent records is ahead has =
    let all = reported_then h c (take size lent) is ahead.none in
    rw (all, length-take-le size lent ahead.whole) at (records_more h.bytes (lent_whole h (take size lent)).bytes
    (take size lent) c.offset records (omega (arith, is.reported)) refl (rw all ahead.is_record) has)

pub passed_handed : (h : BytesRead) (c : CutterState) (size : ℕ) (lent : List ℕ) (views : List View) (v : View)
    → IsAhead size c lent → HasHandedOut h c views → IsView v → v.bytes ≡ take size lent
    → HasHandedOut (lent_whole h (take size lent)) (passed c size) (views ++ v ∷ [])
passed_handed h c size lent views v ahead before is same =
    let long = length-take-le size lent ahead.whole in
    let has =
    passed_records h c size lent (bytes_in views) before.along.read ahead before.records.records in
    handed_record h _ c (passed c size) views v before is (rw same has)
    (passed_along h c size lent before.along ahead) (rw (same, long)) ahead.goes_on refl
    (grind (arith, ahead.none))
