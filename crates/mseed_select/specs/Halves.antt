-- The records that are asked for, and the others.
use Rattle.std.specs.Prelude.{◌≡◌, ◌⊎◌, ℕ, ◌+◌, ◌<◌, not, List, [], ◌∷◌, length}
use Rattle.std.specs.List.{AllByRecursion, filter}
use Rattle.mseed_record.specs.View.{View}
use Rattle.mseed_record.specs.Selection.{Selection, asks_for}

-- a record, and where it begins
pub record Placed : Type 0 where
  pub offset : ℕ
  pub view : View

-- records that stand one after another from an offset on
abbrev pub placed_from : ℕ → List View → List Placed
placed_from offset [] = []
placed_from offset (v ∷ vs) = record { offset = offset; view = v } ∷ placed_from (offset + length v.bytes) vs

-- those that are asked for, and the others, each in their order
abbrev pub asked_of : Selection → List Placed → List Placed
asked_of s placed = filter (λ p. asks_for s p.view) placed

abbrev pub others_of : Selection → List Placed → List Placed
others_of s placed = filter (λ p. not (asks_for s p.view)) placed

-- it begins before each of these
abbrev pub IsBefore : Placed → List Placed → Type 0
IsBefore p ps = AllByRecursion (λ q. p.offset < q.offset) ps

-- The whole is two lists, merged by offset: what comes next is the first of one of them, and begins before all of the
-- other.
abbrev pub AreMerged : List Placed → List Placed → List Placed → Type 0
AreMerged [] one other = (one ≡ []) × (other ≡ [])
AreMerged (p ∷ ps) one other =
    ((rest : List Placed) × ((one ≡ p ∷ rest) × IsBefore p other × AreMerged ps rest other))
    ⊎ ((rest : List Placed) × ((other ≡ p ∷ rest) × IsBefore p one × AreMerged ps one rest))
