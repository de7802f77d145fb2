-- The byte order of a header (own: the manual leaves it to the reader).
use Rattle.std.specs.Prelude.{ℕ, ◌&&◌, Bool, if◌then◌else◌, List, Option, Some, None}
use Rattle.mseed_time.specs.declared.order.Order.{Order}
use Rattle.mseed_time.specs.declared.order.Order.TheVariants.{Big, Little}
use Rattle.mseed_time.specs.Fields.{number_at}
use Rattle.mseed_time.specs.Btime.{is_within}

-- read in this order, the start's year is in 1900..2100 and its day in 1..366
abbrev pub is_dated : Order → List ℕ → Bool
is_dated order b = is_within 1900 2100 (number_at order 2 20 b) && is_within 1 366 (number_at order 2 22 b)

-- big-endian where the date allows it, else little-endian where it does
abbrev pub order_of : List ℕ → Option Order
order_of b = if is_dated Big b then Some Big else if is_dated Little b then Some Little else None
