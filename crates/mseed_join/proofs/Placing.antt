-- Records one after another, and after more records.
use Rattle.std.proofs.Common.{◌≡◌, ℕ, suc, ◌+◌, List, [], ◌∷◌, ◌++◌, Bool, map, length, refl, ap}
use Rattle.std.proofs.Common.{◌∙◌, arith}
use Rattle.std.proofs.lemmas.List.{map-append}
use Rattle.std.proofs.lemmas.List.Elements.{filter-append}
use Rattle.std.specs.List.{filter}
use Rattle.mseed_record.specs.View.{View}
use Rattle.mseed_audit.specs.Channels.{Placed, numbered, records_of, added_from}
use Rattle.mseed_join.specs.Parts.{bytes_in}

-- a record after so many more records and bytes
abbrev pub moved : ℕ → ℕ → Placed → Placed
moved d e p = record { view = p.view; offset = e + p.offset; number = d + p.number }

-- what is reported of a record and of those after it, moved, where a list of it stands in a relation to records
pub moved_also : {X : Type 0} (Of : List X → Type 0) (move : X → X) (first there rest : List X) → there ≡ map move first
    → Of (there ++ map move rest) → Of (map move (first ++ rest))
moved_also {X} Of move first there rest e is = search (arith, map-append)

abbrev placed : ℕ → ℕ → List View → List Placed
placed n o views = numbered n (added_from o views)

placed_at : (n m o p : ℕ) (vs : List View) → n ≡ m → o ≡ p → placed n o vs ≡ placed m p vs
placed_at n m o p vs e f = λ i. placed (e i) (f i) vs

pub bytes_append : (xs ys : List View) → bytes_in (xs ++ ys) ≡ bytes_in xs + bytes_in ys
bytes_append [] ys = omega arith
bytes_append (x ∷ xs) ys = search (arith, bytes_append xs ys)

-- the records of the second list stand after those of the first
placed_append : (n o : ℕ) (xs ys : List View)
    → placed n o (xs ++ ys) ≡ placed n o xs ++ placed (n + length xs) (o + bytes_in xs) ys
placed_append n o [] ys = placed_at n (n + 0) o (o + 0) ys (omega arith) (omega arith)
placed_append n o (x ∷ xs) ys =
    let size : ℕ = length x.bytes in
    ap (λ (ps : List Placed). record { view = x; offset = o; number = n } ∷ ps)
    (placed_append (n + 1) (o + size) xs ys
    ∙ ap (λ (ps : List Placed). placed (n + 1) (o + size) xs ++ ps)
    (placed_at (n + 1 + length xs) (n + suc (length xs)) (o + size + bytes_in xs) (o + (size + bytes_in xs)) ys
    (omega arith) (omega arith)))

-- and after so many more records and bytes each has its number and offset gone up
placed_moved : (d e n o : ℕ) (vs : List View) → placed (d + n) (e + o) vs ≡ map (moved d e) (placed n o vs)
placed_moved d e n o [] = refl
placed_moved d e n o (v ∷ vs) =
    search (arith, placed_at, placed_moved d e (n + 1) (o + length v.bytes) vs)

pub placed_after : (xs ys : List View)
    → placed 1 0 (xs ++ ys) ≡ placed 1 0 xs ++ map (moved (length xs) (bytes_in xs)) (placed 1 0 ys)
placed_after xs ys =
    placed_append 1 0 xs ys
    ∙ ap (λ (ps : List Placed). placed 1 0 xs ++ ps)
    (placed_at (1 + length xs) (length xs + 1) (0 + bytes_in xs) (bytes_in xs + 0) ys (omega arith) (omega arith)
    ∙ placed_moved (length xs) (bytes_in xs) 1 0 ys)

-- a test passes the same before and after
pub filter_map_same : {X Y : Type 0} (f : X → Y) (p : X → Bool) (q : Y → Bool) → ((x : X) → q (f x) ≡ p x)
    → (xs : List X) → filter q (map f xs) ≡ map f (filter p xs)
filter_map_same f p q same [] = refl
filter_map_same {X} {Y} f p q same (x ∷ xs) =
    search (arith, filter_map_same f p q same xs)

-- the records of a channel in two archives one after another
pub records_append : (key : List ℕ) (xs ys : List View) → records_of key (added_from 0 (xs ++ ys))
    ≡ records_of key (added_from 0 xs) ++ map (moved (length xs) (bytes_in xs)) (records_of key (added_from 0 ys))
records_append key xs ys =
    search (arith, placed_after, filter-append, filter_map_same)
