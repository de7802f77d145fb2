-- What the framing steps decide of the prefix of a record, the first that applies.
use Rattle.std.specs.Prelude.{◌≡◌, ℕ, ◌+◌, ◌^◌, ◌≤◌, ◌<◌, ◌==◌, ◌&&◌, nat_eq, nat_le, nat_lt, not, Bool, true, false}
use Rattle.std.specs.Prelude.{if◌then◌else◌, List, [], ◌∷◌, ◌++◌, length, take, Some, None, Option}
use Rattle.std.specs.List.{starts_with}
use Rattle.mseed_time.specs.declared.order.Order.{Order}
use Rattle.mseed_record.specs.declared.framer.Scan.{Scan}
use Rattle.mseed_record.specs.declared.framer.Scan.TheVariants.{Need, Record, Not}
use Rattle.mseed_record.specs.declared.fault.FrameFault.TheVariants.{NotData, Order as NoOrder, Chain, No1000, Length}
use Rattle.mseed_record.specs.declared.fault.FrameFault.TheVariants.{Outside, Version3}
use Rattle.mseed_record.specs.Header.{has_fixed_bytes, blockette_at}
use Rattle.mseed_record.specs.Order.{order_of}
use Rattle.mseed_record.specs.Chain.{type_at, next_at, Passes}
use Rattle.mseed_record.specs.Record.{IsRecord, exponent_at}

-- the first three bytes are those of miniSEED 3
abbrev pub is_version3 : List ℕ → Bool
is_version3 prefix = starts_with nat_eq prefix (77 ∷ 83 ∷ 3 ∷ [])

-- what the first 1000, at o, decides: its exponent, its place, and whether the record is there whole
abbrev pub at_1000 : List ℕ → ℕ → Scan
at_1000 prefix o =
    if not (nat_le 7 (exponent_at prefix o) && nat_le (exponent_at prefix o) 20) then Not
    (Length (exponent_at prefix o))
    else if nat_lt (2 ^ exponent_at prefix o) (o + 8) then Not Outside
    else if nat_lt (length prefix) (2 ^ exponent_at prefix o) then Need (2 ^ exponent_at prefix o)
    else Record (2 ^ exponent_at prefix o)

-- What is decided at the offset o, which the header (low 48) or a blockette (low 4 above it) names;
-- nothing where the blockette there is of another type and the chain goes on.
abbrev pub at_offset : Order → List ℕ → ℕ → ℕ → Option Scan
at_offset order prefix low o =
    if o == 0 then Some (Not No1000)
    else if nat_lt o low then Some (Not Chain)
    else if nat_lt (length prefix) (o + 4) then Some (Need (o + 4))
    else if not (type_at order prefix o == 1000) then None
    else if nat_lt (length prefix) (o + 8) then Some (Need (o + 8))
    else Some (at_1000 prefix o)

-- the blockettes that were passed, from o on, and what the next offset decides
abbrev pub DecidesFrom : Order → List ℕ → ℕ → ℕ → List ℕ → Scan → Type 0
DecidesFrom order prefix low o [] answer = at_offset order prefix low o ≡ Some answer
DecidesFrom order prefix low o (p ∷ os) answer =
    (p ≡ o) × (at_offset order prefix low o ≡ None) × DecidesFrom order prefix (o + 4) (next_at order prefix o) os
    answer

-- the answer for a prefix: by its first bytes, its date, and then its chain
pub data Decides (prefix : List ℕ) : Scan → Type 0 where
  version3 : is_version3 prefix ≡ true → Decides prefix (Not Version3)
  short : is_version3 prefix ≡ false → length prefix < 48 → Decides prefix (Need 48)
  no_data : is_version3 prefix ≡ false → 48 ≤ length prefix → has_fixed_bytes prefix ≡ false
      → Decides prefix (Not NotData)
  no_order : is_version3 prefix ≡ false → 48 ≤ length prefix → has_fixed_bytes prefix ≡ true → order_of prefix ≡ None
      → Decides prefix (Not NoOrder)
  by_chain : (order : Order) (os : List ℕ) (answer : Scan) → is_version3 prefix ≡ false → 48 ≤ length prefix
      → has_fixed_bytes prefix ≡ true
      → order_of prefix ≡ Some order → DecidesFrom order prefix 48 (blockette_at order prefix) os answer
      → Decides prefix answer

-- no bytes that may come make a record of it
abbrev pub HasNoRecord : List ℕ → Type 0
HasNoRecord prefix = (more : List ℕ) (k : ℕ) → IsRecord (take k (prefix ++ more)) → ⊥

-- no record that may come of it is shorter than k
abbrev pub HasNoShorter : List ℕ → ℕ → Type 0
HasNoShorter prefix k = (more : List ℕ) (n : ℕ) → IsRecord (take n (prefix ++ more))
    → k ≤ length (take n (prefix ++ more))

-- some bytes that may come make a record of it
abbrev pub HasRecord : List ℕ → Type 0
HasRecord prefix = (more : List ℕ) × IsRecord (prefix ++ more)

-- Why k bytes are needed: for the header; where the prefix ends within the first four bytes of a blockette
-- that the chain comes to, or within the second four of its first 1000, for the rest of those; and
-- everywhere else since there may be a record.
pub data Needs (prefix : List ℕ) : ℕ → Type 0 where
  header : length prefix < 48 → Needs prefix 48
  blockette : (order : Order) (os : List ℕ) (last : ℕ) → order_of prefix ≡ Some order
      → Passes order prefix (blockette_at order prefix) os last → last < length prefix → length prefix < last + 4
      → Needs prefix (last + 4)
  exponent : (order : Order) (os : List ℕ) (last : ℕ) → order_of prefix ≡ Some order
      → Passes order prefix (blockette_at order prefix) os last → type_at order prefix last ≡ 1000
      → last + 4 < length prefix → length prefix < last + 8 → Needs prefix (last + 8)
  record_end : (k : ℕ) → length prefix < k → HasRecord prefix → Needs prefix k
