-- The chain of blockettes (SEED manual, chapter 8, "Data record blockettes"): each begins with its type
-- and the offset of the next one, counted from the start of the record.
use Rattle.std.specs.Prelude.{◌≡◌, ◌≢◌, ℕ, ◌+◌, ◌≤◌, ◌==◌, ◌&&◌, nat_le, Bool, true, false, if◌then◌else◌, List, []}
use Rattle.std.specs.Prelude.{◌∷◌, length, Option}
use Rattle.std.specs.List.{find, list_any}
use Rattle.mseed_time.specs.declared.order.Order.{Order}
use Rattle.mseed_time.specs.Fields.{number_at}
use Rattle.mseed_record.specs.Header.{blockette_at}

-- the type of the blockette at an offset, and where the next one is
abbrev pub type_at : Order → List ℕ → ℕ → ℕ
type_at order b o = number_at order 2 o b

abbrev pub next_at : Order → List ℕ → ℕ → ℕ
next_at order b o = number_at order 2 (o + 2) b

-- these blockettes stand one after another from o on, none of them a 1000, and the last names p; each
-- is at least 4 bytes further on than the one that names it
abbrev pub Passes : Order → List ℕ → ℕ → List ℕ → ℕ → Type 0
Passes order b o [] p = o ≡ p
Passes order b o (q ∷ os) p = (q ≡ o) × (type_at order b o ≢ 1000) × (o + 4 ≤ next_at order b o)
    × Passes order b (next_at order b o) os p

-- the chain: blockettes of other types, from the one that the header names, then the first 1000
pub record IsChain (order : Order) (b : List ℕ) (os : List ℕ) (last : ℕ) : Type 0 where
  pub low : 48 ≤ blockette_at order b
  pub others : Passes order b (blockette_at order b) os last
  pub found : type_at order b last ≡ 1000

-- how many bytes of a blockette of this type have to lie in the record for the chain to come to it
abbrev pub head_of : ℕ → ℕ
head_of kind = if kind == 1001 then 8 else 4

-- after the first 1000 the chain goes on from o while the next blockette is at least 4 bytes further on and
-- its head lies in the record
abbrev pub goes_on : Order → List ℕ → ℕ → Bool
goes_on order b o = nat_le (o + 4) (next_at order b o)
    && nat_le (next_at order b o + head_of (type_at order b (next_at order b o))) (length b)

-- the blockettes after the one at o, up to one from which the chain doesn't go on
abbrev pub Rest : Order → List ℕ → ℕ → List ℕ → Type 0
Rest order b o [] = goes_on order b o ≡ false
Rest order b o (p ∷ ps) = (goes_on order b o ≡ true) × (p ≡ next_at order b o) × Rest order b p ps

-- the whole chain: that to the first 1000, and the rest after it
pub record IsWholeChain (order : Order) (b : List ℕ) (os : List ℕ) (last : ℕ) (rest : List ℕ) : Type 0 where
  pub chain : IsChain order b os last
  pub others : Rest order b last rest

-- the first of these blockettes that is of this type
abbrev pub first_of : Order → ℕ → List ℕ → List ℕ → Option ℕ
first_of order kind b os = find (λ o. type_at order b o == kind) os

-- one of these blockettes is of this type
abbrev pub has_type : Order → ℕ → List ℕ → List ℕ → Bool
has_type order kind b os = list_any (λ o. type_at order b o == kind) os
