-- The records that some bytes begin with, and how many of them lack a time.
use Rattle.std.proofs.Common.{Bool, ◌≡◌, ℕ, ◌+◌, ◌<◌, ◌≤◌, ◌++◌, List, [], ◌∷◌, length, take, drop, sym, refl, ◌∙◌}
use Rattle.std.proofs.Common.{arith, cond, length-append, length-drop, length-take, ap}
use Rattle.std.specs.List.{AllByRecursion, count_by}
use Rattle.std.proofs.ByRecursion.{All-push}
use Rattle.std.proofs.lemmas.List.{map-append, take-append-drop}
use Rattle.mseed_record.specs.View.{View, IsView}
use Rattle.mseed_record.proofs.Called.{record_long}
use Rattle.mseed_stream.specs.Archive.{HasNoFurther, HasRecords, IsArchive}
use Rattle.mseed_stream.specs.Walk.{bytes_in}
use Rattle.mseed_stream.proofs.Handed.{records_next}
use Rattle.mseed_stream.proofs.Records.{prefix_within, view_record}
use Rattle.mseed_record.specs.Selection.{Selection, lacks_time}
use Rattle.mseed_record.proofs.Counted.{count_more}
use Rattle.mseed_audit.proofs.Following.{end_of}
use Rattle.mseed_repack.specs.Selected.{AreRecordsOf}

-- up to an offset these records stand, one after another
pub record AreTo (bytes : List ℕ) (offset : ℕ) (vs : List View) : Type 0 where
  pub records : HasRecords bytes offset (bytes_in vs)
  pub each : AllByRecursion IsView vs
  pub offset_is : offset ≡ end_of 0 vs
  pub few : length vs ≤ offset
  pub within : offset ≤ length bytes

end_more : (offset : ℕ) (vs : List View) (v : View) → end_of offset (vs ++ v ∷ []) ≡ end_of offset vs + length v.bytes
end_more offset [] v = refl
end_more offset (w ∷ vs) v = end_more (offset + length w.bytes) vs v

-- one more
pub to_next : {bytes rest : List ℕ} {offset : ℕ} {vs : List View} (v : View) → AreTo bytes offset vs
    → offset < length bytes → IsView v → rest ≡ drop offset bytes → v.bytes ≡ take (length v.bytes) rest
    → AreTo bytes (offset + length v.bytes) (vs ++ v ∷ [])
to_next {bytes = bytes} {offset = offset} {vs = vs} v to inside is rest_is prefix =
    let here = rw rest_is at prefix in
    let record_is = view_record v is in
    record {
      records = rw map-append (records_next bytes offset (bytes_in vs) v.bytes to.records record_is here);
      each = All-push IsView vs v to.each is;
      offset_is = ap (λ (n : ℕ). n + length v.bytes) to.offset_is ∙ sym (end_more 0 vs v);
      few = omega (arith, to.few, record_long v.bytes record_is, length-append vs (v ∷ []));
      within = omega (arith, inside, prefix_within (drop offset bytes) v.bytes here, length-drop offset bytes);
    }

-- where the bytes end, no further record begins
pub ended : (bytes : List ℕ) (offset : ℕ) → length bytes ≤ offset → HasNoFurther (drop offset bytes)
ended bytes offset h = grind (arith, record_long, length-take, length-drop)

-- they are all, where no further one begins
pub archive_to : {bytes : List ℕ} {offset : ℕ} {vs : List View} → AreTo bytes offset vs
    → HasNoFurther (drop offset bytes) → IsArchive bytes (bytes_in vs) (drop offset bytes)
archive_to {bytes = bytes} {offset = offset} to none = record {
  joined = sym (take-append-drop offset bytes) ∙ ap (λ (xs : List ℕ). xs ++ drop offset bytes) to.records.joined;
  each = to.records.each;
  no_further = none;
}

-- of the records up to an offset so many lack a time
pub record IsCountedTo (s : Selection) (bytes : List ℕ) (offset count : ℕ) : Type 0 where
  pub views : List View
  pub to : AreTo bytes offset views
  pub count_is : count ≡ count_by (lacks_time s) views

pub counted_next : {s : Selection} {bytes rest : List ℕ} {offset count : ℕ} (one : ℕ) (v : View)
    → IsCountedTo s bytes offset count → offset < length bytes → IsView v → rest ≡ drop offset bytes
    → v.bytes ≡ take (length v.bytes) rest → one ≡ cond (lacks_time s v) 1 0
    → IsCountedTo s bytes (offset + length v.bytes) (count + one)
counted_next {s = s} one v c inside is rest_is prefix one_is = record {
  views = c.views ++ v ∷ [];
  to = to_next v c.to inside is rest_is prefix;
  count_is = omega (arith, c.count_is, one_is, count_more (lacks_time s) c.views v);
}

pub all_counted : {s : Selection} {bytes : List ℕ} {offset count : ℕ} → IsCountedTo s bytes offset count
    → HasNoFurther (drop offset bytes)
    → (views : List View) × (AreRecordsOf bytes views × (count ≡ count_by (lacks_time s) views))
all_counted {bytes = bytes} {offset = offset} c none =
    (c.views, (record { rest = drop offset bytes; archive = archive_to c.to none; each = c.to.each }, c.count_is))

pub at_most_one : (b : Bool) (n : ℕ) → n ≡ cond b 1 0 → n ≤ 1
at_most_one b n is = grind (arith, is)
