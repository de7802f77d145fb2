-- A stretch that is cut from the start of records, record by record.
use Rattle.std.proofs.Common.{◌≡◌, ℕ, ◌+◌, ◌<◌, List, [], ◌∷◌, ◌++◌, length, take, drop, get_or, map, arith}
use Rattle.std.proofs.Common.{sym, subst, append_assoc, append-nil}
use Rattle.std.proofs.Math.Seq.{drop-cons}
use Rattle.mseed_record.specs.View.{View}
use Rattle.mseed_record.specs.Viewing.{view_of}
use Rattle.mseed_record.specs.declared.view.RecordView.{RecordView}
use Rattle.mseed_repack.proofs.Runs.{parted, passed_with}
use Rattle.mseed_repack.specs.Clocks.{IsStretchOf}
use Rattle.mseed_repack.specs.Stretches.{AllGoOn, EndsBefore, GoesOn, IsFirstStretch, IsStretch}
use Rattle.mseed_repack.specs.declared.stretch.Stretch.{Stretch}

go_more : (b xs : List View) (v : View) → AllGoOn b xs → GoesOn (b ++ xs) v → AllGoOn b (xs ++ v ∷ [])
go_more b [] v all go = (subst (λ (vs : List View). GoesOn vs v) (append-nil b) go, tt)
go_more b (x ∷ xs) v all go = (
  all.0,
  go_more (b ++ x ∷ []) xs v all.1 (subst (λ (vs : List View). GoesOn vs v) (sym (append_assoc b (x ∷ []) xs)) go),
)

pub stretch_on : (s : List View) (v : View) → IsStretch s → GoesOn s v → IsStretch (s ++ v ∷ [])
stretch_on s v h h2 = grind (arith, go_more)

-- the first n records are a stretch, of which this is kept
pub record IsPassed (rs : List RecordView) (s : Stretch) (n : ℕ) : Type 0 where
  pub kept : IsStretchOf s (map view_of (take n rs))
  pub is : IsStretch (map view_of (take n rs))
  pub records_is : s.records ≡ n

pub passed_more : (rs : List RecordView) (n : ℕ) (r : RecordView) (s new : Stretch) → n < length rs
    → r ≡ get_or rs n r → IsPassed rs s n → GoesOn (map view_of (take n rs)) (view_of r)
    → IsStretchOf new (map view_of (take n rs) ++ view_of r ∷ []) → new.records ≡ s.records + 1
    → IsPassed rs new (n + 1)
passed_more rs n r s new lt is h go kept e = record {
  kept = rw (passed_with rs n r lt is) kept;
  is = rw (passed_with rs n r lt is) (stretch_on (map view_of (take n rs)) (view_of r) h.is go);
  records_is = omega (arith, e, h.records_is);
}

cut_at : (rs : List RecordView) (s : Stretch) (n : ℕ) → IsPassed rs s n
    → EndsBefore (map view_of (take n rs)) (map view_of (drop n rs))
    → IsFirstStretch (map view_of rs) (map view_of (take s.records rs)) (map view_of (drop s.records rs))
cut_at rs s n h ends = rw h.records_is (record { stretch = h.is; parts = parted rs n; ends = ends })

-- it ends before a record that doesn't go on
pub cut_before : (rs : List RecordView) (n : ℕ) (r : RecordView) (s : Stretch) → n < length rs → r ≡ get_or rs n r
    → IsPassed rs s n → ¬ (GoesOn (map view_of (take n rs)) (view_of r))
    → IsFirstStretch (map view_of rs) (map view_of (take s.records rs)) (map view_of (drop s.records rs))
cut_before rs n r s h h2 h3 h4 = grind (arith, drop-cons, cut_at)
