-- One record more of a selection.
use Rattle.std.proofs.Common.{◌≡◌, ◌+◌, ◌++◌, ◌∙◌, ℕ, Bool, true, false, List, [], ◌∷◌, length, drop, sym, ap, refl}
use Rattle.std.proofs.Common.{append-nil, length-append, cond}
use Rattle.std.proofs.lemmas.List.{map-append}
use Rattle.std.proofs.lemmas.List.Elements.{filter-append}
use Rattle.std.proofs.lemmas.List.Folds.{concat-append}
use Rattle.std.specs.List.{concat, filter}
use Rattle.mseed_record.specs.View.{View}
use Rattle.mseed_stream.specs.Walk.{AreViews, bytes_in}
use Rattle.mseed_stream.proofs.Handed.{records_next}
use Rattle.mseed_stream.proofs.Records.{view_record}
use Rattle.mseed_stream.proofs.Walks.{views_more}
use Rattle.mseed_select.specs.Select.{selected_bytes}
use Rattle.mseed_record.specs.Selection.{Selection, answer_of, asks_for, is_asked, is_without_time, lacks_time}
use Rattle.mseed_select.specs.Counting.{one_if}
use Rattle.mseed_record.specs.declared.answer.Answer.{Answer}
use Rattle.mseed_record.specs.declared.answer.Answer.TheVariants.{AskedFor, Left, NoTime}
use Rattle.mseed_record.proofs.Counted.{count_more}
use Rattle.mseed_c.specs.Decoded.{IsFirst}
use Rattle.mseed_c.specs.Room.{overwritten}
use Rattle.mseed_c.specs.private.Copied.{IsSmall, IsSoFar, added, counted, size_by}
use Rattle.mseed_c.specs.declared.selecting.Selected.{Selected}
use Rattle.mseed_c.proofs.Walking.{record_fits}

pub views_on : (bytes : List ℕ) (offset : ℕ) (views : List View) (v : View) → AreViews bytes offset views
    → IsFirst (drop offset bytes) v → AreViews bytes (offset + length v.bytes) (views ++ v ∷ [])
views_on bytes offset views v are at =
    let is = at.view in
    views_more bytes bytes offset views v v.bytes are is refl
    (records_next bytes offset (bytes_in views) v.bytes are.records (view_record v is) at.prefix)

-- the bytes of a record come after the others, where it is asked for
one_by : (b : Bool) (v : View) → concat (bytes_in (cond b (v ∷ []) [])) ≡ cond b v.bytes []
one_by true v = append-nil v.bytes
one_by false v = refl

bytes_more : (s : Selection) (views : List View) (v : View)
    → selected_bytes s (views ++ v ∷ []) ≡ selected_bytes s views ++ cond (asks_for s v) v.bytes []
bytes_more s views v =
    let asked : List View = filter (asks_for s) views in
    let last : List View = filter (asks_for s) (v ∷ []) in
    ap (λ (vs : List View). concat (bytes_in vs)) (filter-append (asks_for s) views (v ∷ []))
    ∙ ap (λ (bs : List (List ℕ)). concat bs) (map-append (λ (w : View). w.bytes) asked last)
    ∙ concat-append (bytes_in asked) (bytes_in last)
    ∙ ap (λ (bs : List ℕ). selected_bytes s views ++ bs) (one_by (asks_for s v) v)

-- they are what is added by the answer
added_by : (s : Selection) (v : View) (answer : Answer) → answer ≡ answer_of s v
    → added answer v.bytes ≡ cond (asks_for s v) v.bytes []
added_by s v answer e = ap (λ (a : Answer). added a v.bytes) e ∙ by (answer_of s v) v.bytes
  where
    by : (a : Answer) (bytes : List ℕ) → added a bytes ≡ cond (is_asked a) bytes []
    by AskedFor bytes = refl
    by Left bytes = refl
    by NoTime bytes = refl

length_added : (a : Answer) (bytes : List ℕ) → length (added a bytes) ≡ size_by a (length bytes)
length_added AskedFor bytes = refl
length_added Left bytes = refl
length_added NoTime bytes = refl

-- one record more
pub so_far_more : (s : Selection) (bytes first old new : List ℕ) (r : Selected) (v : View) (answer : Answer)
    → IsSoFar s bytes first old r → IsFirst (drop r.offset bytes) v → answer ≡ answer_of s v
    → ((text : List ℕ) → old ≡ overwritten text first → r.length ≡ length text
    → new ≡ overwritten (text ++ added answer v.bytes) first)
    → IsSmall (counted answer (length v.bytes) r)
    → IsSoFar s bytes first new (counted answer (length v.bytes) r)
so_far_more s bytes first old new r v answer h at answered put small =
    let views = h.views in
    let was = h.selected in
    let text : List ℕ = selected_bytes s views in
    let whole : selected_bytes s (views ++ v ∷ []) ≡ text ++ added answer v.bytes =
    bytes_more s views v ∙ ap (λ (xs : List ℕ). text ++ xs) (sym (added_by s v answer answered)) in
    let size : length (selected_bytes s (views ++ v ∷ [])) ≡ length text + size_by answer (length v.bytes) =
    ap (λ (xs : List ℕ). length xs) whole ∙ length-append text (added answer v.bytes)
    ∙ ap (λ (n : ℕ). length text + n) (length_added answer v.bytes) in
    record {
      views = views ++ v ∷ [];
      selected = record {
        are_views = views_on bytes r.offset views v was.are_views at;
        room = put text was.room was.length_is ∙ ap (λ (xs : List ℕ). overwritten xs first) (sym whole);
        length_is = ap (λ (n : ℕ). n + size_by answer (length v.bytes)) was.length_is ∙ sym size;
        records = ap (λ (n : ℕ). n + 1) was.records ∙ sym (length-append views (v ∷ []));
        asked_for = (λ i. was.asked_for i + one_if (is_asked (answered i))) ∙ sym (count_more (asks_for s) views v);
        without_time = (λ i. was.without_time i + one_if (is_without_time (answered i)))
            ∙ sym (count_more (lacks_time s) views v);
      };
      inside = record_fits bytes v r.offset h.inside at;
      small = small;
      needed = h.needed;
    }
