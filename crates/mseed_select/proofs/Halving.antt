-- The records that are asked for and the others are all the records.
use Rattle.std.proofs.Common.{ℕ, ◌+◌, ◌<◌, refl, arith, Bool, true, false, cond, not}
use Rattle.std.proofs.Common.{List, [], ◌∷◌, length, inl, inr}
use Rattle.std.proofs.lemmas.Nat.{pow_pos}
use Rattle.std.specs.List.{AllByRecursion, filter}
use Rattle.mseed_record.specs.Record.{exponent_at}
use Rattle.mseed_record.specs.View.{View, IsView}
use Rattle.mseed_select.specs.Halves.{AreMerged, IsBefore, Placed, asked_of, others_of, placed_from}
use Rattle.mseed_record.specs.Selection.{Selection, asks_for}

-- what is before all of a list is before what is filtered out of it
filtered : (p : Placed) (test : Placed → Bool) (ps : List Placed) → IsBefore p ps → IsBefore p (filter test ps)
filtered p test [] before = before
filtered p test (q ∷ qs) before =
    elim (test q) as (λ b. IsBefore p (cond b (q ∷ filter test qs) (filter test qs))) [
      | true ↦ (before.0, filtered p test qs before.1)
      | false ↦ filtered p test qs before.1
    ]

-- records from a later offset on are after
later_begins : (p : Placed) (offset : ℕ) (views : List View) → p.offset < offset → IsBefore p (placed_from offset views)
later_begins p offset [] later = tt
later_begins p offset (v ∷ vs) later = (later, later_begins p (offset + length v.bytes) vs (omega (arith, later)))

-- a record has a byte
has_bytes : (v : View) → IsView v → 0 < length v.bytes
has_bytes v is = omega (arith, is.1.1.1.record_is.size, pow_pos (exponent_at v.bytes is.1.0))

merged_more : (b : Bool) (p : Placed) (ps asked others : List Placed) → IsBefore p asked → IsBefore p others
    → AreMerged ps asked others → AreMerged (p ∷ ps) (cond b (p ∷ asked) asked) (cond (not b) (p ∷ others) others)
merged_more true p ps asked others one other rest = inl (asked, (refl, other, rest))
merged_more false p ps asked others one other rest = inr (others, (refl, one, rest))

pub halves : (s : Selection) (offset : ℕ) (views : List View) → AllByRecursion IsView views
    → AreMerged (placed_from offset views) (asked_of s (placed_from offset views))
    (others_of s (placed_from offset views))
halves s offset [] each = (refl, refl)
halves s offset (v ∷ vs) each =
    let p : Placed = record { offset = offset; view = v } in
    let next : ℕ = offset + length v.bytes in
    let before = later_begins p next vs (omega (arith, has_bytes v each.0)) in
    merged_more (asks_for s v) p (placed_from next vs) _ _ (filtered p _ (placed_from next vs) before)
    (filtered p _ (placed_from next vs) before) (halves s next vs each.1)
