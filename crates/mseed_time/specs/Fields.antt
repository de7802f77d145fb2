-- Numbers in a header, in either byte order.
use Rattle.std.specs.Prelude.{ℕ, List}
use Rattle.byteorder.specs.Endian.{big_from, little_from}
use Rattle.mseed_time.specs.declared.order.Order.{Order}
use Rattle.mseed_time.specs.declared.order.Order.TheVariants.{Big, Little}

-- the number that the `width` bytes at `offset` spell in this order: a sum of powers of 256
abbrev pub number_at : Order → ℕ → ℕ → List ℕ → ℕ
number_at Big width offset bytes = big_from offset width bytes
number_at Little width offset bytes = little_from offset width bytes
