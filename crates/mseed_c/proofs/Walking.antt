-- One row more.
use Rattle.std.proofs.Common.{◌≡◌, ◌≤◌, ◌<◌, ◌+◌, ◌-◌, ◌∙◌, ℕ, List, [], ◌∷◌, ◌++◌, All, length, take, drop, min}
use Rattle.std.proofs.Common.{slice_set, sym, ap, subst, refl, arith}
use Rattle.std.proofs.lemmas.List.{drop-drop, take_more_set, length-take, length-drop, length-set, drop-set-lt}
use Rattle.std.proofs.lemmas.List.Elements.{All-nil, All-push, All-weaker}
use Rattle.mseed_record.specs.View.{View}
use Rattle.mseed_c.specs.Decoded.{IsFirst, IsStopAt}
use Rattle.mseed_c.specs.Rows.{ArePlaced, EndsWalk, IsWalk, filled_by}
use Rattle.mseed_c.specs.declared.codes.Stop.{Stop}
use Rattle.mseed_c.specs.declared.codes.Stop.TheVariants.{Rows, Room, Short, Not}
use Rattle.mseed_c.specs.declared.row.Row.{Row}
use Rattle.mseed_c.specs.declared.going.Progress.{Progress}

placed_more : (offset place : ℕ) (rows : List Row) (row : Row) (next filled : ℕ)
    → ArePlaced offset place rows next filled → row.offset ≡ next → row.first ≡ filled
    → ArePlaced offset place (rows ++ row ∷ []) (next + row.length) (filled + filled_by row)
placed_more offset place [] row next filled p o f =
    (o ∙ sym p.0, f ∙ sym p.1, (ap (λ (k : ℕ). k + row.length) p.0, ap (λ (k : ℕ). k + filled_by row) p.1))
placed_more offset place (r ∷ rs) row next filled p o f =
    (p.0, p.1, placed_more (offset + r.length) (place + filled_by r) rs row next filled p.2 o f)

-- the record that begins at an offset ends within the bytes
pub record_fits : (bytes : List ℕ) (v : View) (offset : ℕ) → offset ≤ length bytes → IsFirst (drop offset bytes) v
    → offset + length v.bytes ≤ length bytes
record_fits bytes v offset inside at =
    let size : length v.bytes ≡ min (length v.bytes) (length bytes - offset) =
    ap length at.prefix ∙ length-take (length v.bytes) (drop offset bytes)
    ∙ ap (λ (k : ℕ). min (length v.bytes) k) (length-drop offset bytes) in
    omega arith

after_more : (rows old : List Row) (row : Row) (n : ℕ) → drop n rows ≡ drop n old
    → drop (n + 1) (slice_set rows n row) ≡ drop (n + 1) old
after_more rows old row n e =
    drop-set-lt (n + 1) rows n row (omega arith) ∙ sym (drop-drop 1 n rows)
    ∙ ap (λ (xs : List Row). drop 1 xs) e ∙ drop-drop 1 n old

-- the next row of a walk, after which so many samples are counted
pub record IsNextRow (bytes : List ℕ) (p : Progress) (row : Row) (size more : ℕ) : Type 0 where
  pub offset_is : row.offset ≡ p.offset
  pub first_is : row.first ≡ p.filled
  pub size_is : row.length ≡ size
  pub counted : more ≡ p.filled + filled_by row
  pub fits : p.offset + size ≤ length bytes

pub walk_more : (Is Is' : ℕ → Row → Type 0) (bytes : List ℕ) (offset : ℕ) (old rows : List Row) (p : Progress)
    (row : Row) (size more : ℕ) → IsWalk Is bytes offset old rows p → p.rows < length rows
    → ((r : Row) → Is p.filled r → Is' more r) → Is' more row → IsNextRow bytes p row size more
    → IsWalk Is' bytes offset old (slice_set rows p.rows row)
    (record { rows = p.rows + 1; offset = p.offset + size; filled = more; needed = p.needed })
walk_more Is Is' bytes offset old rows p row size more w free kept last next =
    let P : List Row → Type 0 = λ xs. All (Is' more) xs in
    let before : P (take p.rows rows) = All-weaker (Is p.filled) (Is' more) kept (take p.rows rows) w.each in
    let start : ℕ = min offset (length bytes) in
    let Q : List Row → Type 0 = λ xs. ArePlaced start 0 xs (p.offset + size) more in
    let R : ℕ → Type 0 = λ k. ArePlaced start 0 (take p.rows rows ++ row ∷ []) (p.offset + k) more in
    let S : ℕ → Type 0 = λ k. ArePlaced start 0 (take p.rows rows ++ row ∷ []) (p.offset + row.length) k in
    let leading : take (p.rows + 1) (slice_set rows p.rows row) ≡ take p.rows rows ++ row ∷ [] =
    take_more_set rows p.rows row free in
    record {
      counted = let same = length-set rows p.rows row in omega arith;
      inside = next.fits;
      each = subst P (sym leading) (All-push (Is' more) (take p.rows rows) row before last);
      placed = subst Q (sym leading) (subst R next.size_is (subst S (sym next.counted)
          (placed_more start 0 (take p.rows rows) row p.offset p.filled w.placed next.offset_is next.first_is)));
      after = after_more rows old row p.rows w.after;
    }

-- no row yet
pub walk_none : (Is : ℕ → Row → Type 0) (bytes : List ℕ) (offset start : ℕ) (rows : List Row)
    → start ≡ min offset (length bytes)
    → IsWalk Is bytes offset rows rows (record { rows = 0; offset = start; filled = 0; needed = 0 })
walk_none Is bytes offset start rows e = record {
  counted = omega arith;
  inside = omega arith;
  each = All-nil (Is 0);
  placed = (sym e, refl);
  after = refl;
}

-- the number of a reason is reported besides
pub walk_reported : (Is : ℕ → Row → Type 0) (bytes : List ℕ) (offset : ℕ) (old rows : List Row) (p : Progress)
    (needed : ℕ)
    → IsWalk Is bytes offset old rows p
    → IsWalk Is bytes offset old rows (record { rows = p.rows; offset = p.offset; filled = p.filled; needed = needed })
walk_reported Is bytes offset old rows p needed w =
    record { counted = w.counted; inside = w.inside; each = w.each; placed = w.placed; after = w.after }

-- what ends a walk, at the bytes from the next record's offset on
pub ends_at : (stop : Stop) (bytes ahead : List ℕ) (rows room : ℕ) (p : Progress) → ahead ≡ drop p.offset bytes
    → p.rows < rows → IsStopAt ahead stop → EndsWalk stop bytes rows room p
ends_at Rows bytes ahead rows room p e more s = absurd s
ends_at (Room places) bytes ahead rows room p e more s = absurd s
ends_at (Short k) bytes ahead rows room p e more s = (more, subst (λ (xs : List ℕ). IsStopAt xs (Short k)) e s)
ends_at (Not fault) bytes ahead rows room p e more s = (more, subst (λ (xs : List ℕ). IsStopAt xs (Not fault)) e s)

pub ends_reported : (stop : Stop) (bytes : List ℕ) (rows room : ℕ) (p : Progress) (needed : ℕ)
    → EndsWalk stop bytes rows room p
    → EndsWalk stop bytes rows room (record { rows = p.rows; offset = p.offset; filled = p.filled; needed = needed })
ends_reported (Room places) bytes rows room p needed e =
    (e.0, record { view = e.1.view; at = e.1.at; count = e.1.count; fewer = e.1.fewer })
ends_reported stop bytes rows room p needed e = e
