-- A key as two numbers.
use Rattle.std.specs.Prelude.{◌≡◌, ℕ, ◌<◌, List, length, slice_index, take, drop}
use Rattle.std.specs.Slice.Scan.{big_endian}

-- those of its first eight bytes and of the others
pub record AreWords (key : List ℕ) (front back : ℕ) : Type 0 where
  pub size : length key ≡ 12
  pub octets : (i : ℕ) → slice_index key i < 256
  pub front_is : front ≡ big_endian 0 (take 8 key)
  pub back_is : back ≡ big_endian 0 (drop 8 key)
