-- A cutter's records so far, with one more, and all of them at the input's end.
use Rattle.std.proofs.Common.{◌≡◌, ℕ, ◌+◌, ◌≤◌, ◌++◌, List, [], ◌∷◌, length, None}
use Rattle.std.proofs.Common.{sym, ap, subst, ◌∙◌, arith, length-append}
use Rattle.std.proofs.lemmas.List.{map-append, length_push}
use Rattle.std.proofs.Common.{refl, append-nil}
use Rattle.std.proofs.lemmas.List.Folds.{concat-append}
use Rattle.std.specs.List.{concat}
use Rattle.std.proofs.ByRecursion.{All-push}
use Rattle.mseed_record.specs.View.{View, IsView}
use Rattle.mseed_stream.specs.Device.{BytesRead}
use Rattle.mseed_stream.specs.CutterState.{CutterState}
use Rattle.mseed_stream.specs.Archive.{HasRecords}
use Rattle.mseed_stream.specs.Cutting.{held_of, asks_of, IsAlong}
use Rattle.mseed_stream.specs.Walk.{bytes_in, AreViews, HasHandedOut}

-- how many bytes the records have, with one more
size_more : (views : List View) (v : View)
    → length (concat (bytes_in (views ++ v ∷ []))) ≡ length (concat (bytes_in views)) + length v.bytes
size_more views v = simp (map-append, concat-append, length-append, append-nil)

-- one more record
pub views_more : (old new : List ℕ) (offset : ℕ) (views : List View) (v : View) (reported : List ℕ)
    → AreViews old offset views → IsView v → v.bytes ≡ reported
    → HasRecords new (offset + length reported) (bytes_in views ++ reported ∷ [])
    → AreViews new (offset + length reported) (views ++ v ∷ [])
views_more old new offset views v reported before is same has = record {
  each = All-push IsView views v before.each is;
  records = subst (λ (xs : List (List ℕ)). HasRecords new (offset + length reported) xs)
      (ap (λ (xs : List ℕ). bytes_in views ++ xs ∷ []) (sym same)
      ∙ sym (map-append (λ (w : View). w.bytes) views (v ∷ []))) has;
  offset_is = rw (size_more views v, before.offset_is, same);
}

-- a record was handed out
pub handed_record : (h now : BytesRead) (c after : CutterState) (views : List View) (v : View)
    → HasHandedOut h c views
    → IsView v → HasRecords now.bytes after.offset (bytes_in views ++ v.bytes ∷ []) → IsAlong now after
    → after.offset ≡ c.offset + length v.bytes → after.answer ≡ None → now.failures ≡ h.failures
    → h.calls + 2 + asks_of (held_of after) ≤ now.calls + asks_of (held_of c)
    → HasHandedOut now after (views ++ v ∷ [])
handed_record h now c after views v before is has along offset goes fine called = record {
  along = along;
  goes_on = goes;
  fine = fine ∙ before.fine;
  records = rw offset (views_more h.bytes now.bytes c.offset views v v.bytes before.records is refl (rw offset at has));
  called = omega (arith, before.called, called, length_push views v);
}
