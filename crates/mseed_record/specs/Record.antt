-- What a data record is (SEED manual, chapter 8; blockette 1000 for its length).
use Rattle.std.specs.Prelude.{◌≡◌, ℕ, ◌+◌, ◌^◌, ◌≤◌, ◌<◌, IsTrue, List, length, slice_index, Some}
use Rattle.mseed_time.specs.declared.order.Order.{Order}
use Rattle.mseed_record.specs.Header.{has_fixed_bytes}
use Rattle.mseed_record.specs.Order.{order_of}
use Rattle.mseed_record.specs.Chain.{IsChain}

-- blockette 1000's length exponent
abbrev pub exponent_at : List ℕ → ℕ → ℕ
exponent_at b o = slice_index b (o + 6)

-- in this order, with these blockettes before its first blockette 1000
pub record IsRecordBy (order : Order) (os : List ℕ) (last : ℕ) (b : List ℕ) : Type 0 where
  pub octets : (i : ℕ) → slice_index b i < 256
  pub fixed : IsTrue (has_fixed_bytes b)
  pub order_is : order_of b ≡ Some order
  pub chain : IsChain order b os last
  pub exponent_low : 7 ≤ exponent_at b last
  pub exponent_high : exponent_at b last ≤ 20
  pub inside : last + 8 ≤ 2 ^ exponent_at b last
  pub size : length b ≡ 2 ^ exponent_at b last

abbrev pub IsRecord : List ℕ → Type 0
IsRecord b = (order : Order) × ((os : List ℕ) × ((last : ℕ) × IsRecordBy order os last b))
