-- The records of some bytes, up to one that is asked for.
use Rattle.std.proofs.Common.{◌≡◌, ℕ, ◌+◌, ◌<◌, List, [], ◌∷◌, ◌++◌, length, take, drop, true, cond}
use Rattle.std.proofs.Common.{refl, sym, ap, ◌∙◌, arith, append_assoc, append-nil, length-append}
use Rattle.std.specs.List.{AllByRecursion, concat, count_by}
use Rattle.std.proofs.lemmas.List.{take-append-drop}
use Rattle.mseed_record.specs.View.{View, IsView}
use Rattle.mseed_record.proofs.Called.{record_long}
use Rattle.mseed_record.proofs.OneRecord.{one_first}
use Rattle.mseed_record.proofs.Viewed.{view_once}
use Rattle.mseed_stream.specs.Archive.{HasNoFurther}
use Rattle.mseed_stream.specs.Walk.{bytes_in}
use Rattle.mseed_stream.proofs.OneInput.{same_views}
use Rattle.mseed_stream.proofs.Records.{one_archive, view_record}
use Rattle.mseed_record.specs.Selection.{Selection, asks_for}
use Rattle.mseed_record.proofs.Counted.{count_more}
use Rattle.mseed_audit.specs.Scope.{asked_of}
use Rattle.mseed_audit.specs.declared.finding.Finding.{Finding}
use Rattle.mseed_repack.specs.private.Places.{AreAllOf, StandsAt}
use Rattle.mseed_repack.proofs.InPlaces.{asked_count, stands_asked}
use Rattle.mseed_repack.proofs.Untimed.{AreTo, archive_to, to_next}

-- up to an offset there are so many records, and so many of them are asked for
pub record IsPassed (s : Selection) (bytes : List ℕ) (offset number asked : ℕ) : Type 0 where
  pub views : List View
  pub to : AreTo bytes offset views
  pub number_is : number ≡ length views
  pub asked_is : asked ≡ count_by (asks_for s) views

-- one more
pub passed_next : {s : Selection} {bytes rest : List ℕ} {offset number asked : ℕ} (more : ℕ) (v : View)
    → IsPassed s bytes offset number asked → offset < length bytes → IsView v → rest ≡ drop offset bytes
    → v.bytes ≡ take (length v.bytes) rest → more ≡ asked + cond (asks_for s v) 1 0
    → IsPassed s bytes (offset + length v.bytes) (number + 1) more
passed_next {s = s} more v p inside is rest_is prefix more_is = record {
  views = p.views ++ v ∷ [];
  to = to_next v p.to inside is rest_is prefix;
  number_is = omega (arith, p.number_is, length-append p.views (v ∷ []));
  asked_is = omega (arith, more_is, p.asked_is, count_more (asks_for s) p.views v);
}

-- records that some bytes begin with are the first of those that they are
leading_of : (bytes tail : List ℕ) (front views : List View) → AllByRecursion IsView front
    → AllByRecursion IsView views → bytes ≡ concat (bytes_in front) ++ tail → bytes ≡ concat (bytes_in views)
    → (back : List View) × (views ≡ front ++ back)
leading_of bytes tail [] views h k e f = (views, refl)
leading_of bytes tail (v ∷ front) [] h k e f = grind (arith, record_long, view_record, append_assoc)
leading_of bytes tail (v ∷ front) (w ∷ views) h k e f =
    let one = e ∙ append_assoc v.bytes (concat (bytes_in front)) tail in
    let first = one_first bytes v.bytes w.bytes (concat (bytes_in front) ++ tail) (concat (bytes_in views))
    (view_record v h.0) (view_record w k.0) one f in
    let same : v ≡ w = view_once w v k.0 h.0 first.0 in
    let later = leading_of (concat (bytes_in front) ++ tail) tail front views h.1 k.1 refl first.1 in
    (later.0, ap (λ (ws : List View). w ∷ ws) later.1 ∙ ap (λ (x : View). x ∷ (front ++ later.0)) (sym same))

-- the next record stands there, where it is the one that is looked for
pub passed_to : {s : Selection} {bytes rest : List ℕ} {offset number asked : ℕ} (v : View) (f : Finding)
    → IsPassed s bytes offset number asked → offset < length bytes → IsView v → rest ≡ drop offset bytes
    → v.bytes ≡ take (length v.bytes) rest → asks_for s v ≡ true → f.number ≡ number + 1 → f.offset ≡ offset
    → (views : List View) (index : ℕ) → AreAllOf bytes views → asked + 1 ≡ index + 1
    → StandsAt (asked_of s views) index f
passed_to {s = s} {bytes = bytes} {offset = offset} v f p inside is rest_is prefix wanted number at_offset views index
    all at =
    let next = to_next v p.to inside is rest_is prefix in
    let front : List View = p.views ++ v ∷ [] in
    let tail : List ℕ = drop (offset + length v.bytes) bytes in
    let joined : bytes ≡ concat (bytes_in front) ++ tail =
    sym (take-append-drop (offset + length v.bytes) bytes) ∙ ap (λ (xs : List ℕ). xs ++ tail) next.records.joined in
    let whole : bytes ≡ concat (bytes_in views) = all.archive.joined ∙ append-nil (concat (bytes_in views)) in
    let leads = leading_of bytes tail front views next.each all.each joined whole in
    let parts : views ≡ p.views ++ v ∷ leads.0 = leads.1 ∙ append_assoc p.views (v ∷ []) leads.0 in
    rw parts
    (stands_asked s p.views v leads.0 index f wanted (omega (arith, p.asked_is, at))
    (number ∙ ap (λ (n : ℕ). n + 1) p.number_is) (at_offset ∙ p.to.offset_is))

-- it comes before the bytes end, and before a record that isn't there
pub passed_none : {s : Selection} {bytes : List ℕ} {offset number asked wanted : ℕ} (f : Finding)
    → IsPassed s bytes offset number asked → asked < wanted → HasNoFurther (drop offset bytes)
    → (views : List View) (index : ℕ) → AreAllOf bytes views → index < length (asked_of s views)
    → wanted ≡ index + 1 → StandsAt (asked_of s views) index f
passed_none {s = s} {bytes = bytes} {offset = offset} f p before none views index all inside at =
    let both = one_archive bytes (bytes_in p.views) (bytes_in views) (drop offset bytes) [] (archive_to p.to none)
    all.archive in
    let same : views ≡ p.views = same_views views p.views all.each p.to.each (sym both.0) in
    let count : length (asked_of s views) ≡ count_by (asks_for s) p.views = rw same (asked_count s p.views) in
    let asked_is = p.asked_is in
    absurd (omega (arith, count, asked_is, before, at, inside))
