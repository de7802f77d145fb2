-- Rows that are written on, whatever becomes of the samples.
use Rattle.std.proofs.Common.{◌≡◌, ◌≤◌, ◌<◌, ◌+◌, ◌∙◌, ℕ, ℤ, List, length, drop, slice_set, subst, sym, refl}
use Rattle.mseed_record.specs.View.{View}
use Rattle.mseed_c.specs.Decoded.{IsFirst}
use Rattle.mseed_c.specs.Rows.{Describes}
use Rattle.mseed_c.specs.private.Going.{GoesOn, TakesOn}
use Rattle.mseed_c.specs.declared.row.Row.{Row}
use Rattle.mseed_c.specs.declared.going.Progress.{Progress}
use Rattle.mseed_c.proofs.Walking.{record_fits, walk_more}

-- nothing was written
pub goes_none : (Is : List ℕ → ℕ → List ℤ → Row → Type 0) (room : ℕ → ℕ) (bytes : List ℕ) (rows : List Row)
    (out : List ℤ) (p : Progress) → p.offset ≤ length bytes → p.filled ≤ room (length out)
    → GoesOn Is room bytes rows rows out out p p
goes_none Is room bytes rows out p inside fits =
    record { walk = λ offset first w. w; inside = inside; fits = fits; needed = refl }

-- one after the other
pub goes_on : (Is : List ℕ → ℕ → List ℤ → Row → Type 0) (room : ℕ → ℕ) (bytes : List ℕ) (rows on more : List Row)
    (old new newer : List ℤ) (p q r : Progress) → GoesOn Is room bytes rows on old new p q
    → GoesOn Is room bytes on more new newer q r → GoesOn Is room bytes rows more old newer p r
goes_on Is room bytes rows on more old new newer p q r a b = record {
  walk = λ offset first w. b.walk offset first (a.walk offset first w);
  inside = b.inside;
  fits = b.fits;
  needed = b.needed ∙ a.needed;
}

-- one row more
pub goes_more : (Is : List ℕ → ℕ → List ℤ → Row → Type 0) (room : ℕ → ℕ) (bytes : List ℕ) (rows : List Row)
    (old new : List ℤ) (p : Progress) (v : View) (row : Row) (more code : ℕ) → p.rows < length rows
    → p.offset ≤ length bytes → more ≤ room (length new) → TakesOn Is v p.filled more code old new
    → IsFirst (drop p.offset bytes) v → Describes row v → row.offset ≡ p.offset → row.first ≡ p.filled
    → row.code ≡ code
    → GoesOn Is room bytes rows (slice_set rows p.rows row) old new p
    (record { rows = p.rows + 1; offset = p.offset + length v.bytes; filled = more; needed = p.needed })
goes_more Is room bytes rows old new p v row more code free inside fits taken at describes o f c =
    let P : ℕ → Type 0 = λ k. IsFirst (drop k bytes) v in
    let ends = record_fits bytes v p.offset inside at in
    record {
      walk = λ offset first w. walk_more (λ filled. Is bytes filled old) (λ filled. Is bytes filled new) bytes offset
          first rows p row (length v.bytes) more w free (taken.keeps bytes)
          (taken.own bytes row (subst P (sym o) at) describes f c)
          (record {
            offset_is = o;
            first_is = f;
            size_is = describes.length_is;
            counted = taken.counted row describes.samples_are c;
            fits = ends;
          });
      inside = ends;
      fits = fits;
      needed = refl;
    }
