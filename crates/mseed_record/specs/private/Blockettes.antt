-- The blockettes of a chain that count besides the first 1000.
use Rattle.std.specs.Prelude.{◌≡◌, ℕ, List}
use Rattle.mseed_time.specs.declared.order.Order.{Order}
use Rattle.mseed_record.specs.declared.chain.Blockettes.{Blockettes}
use Rattle.mseed_record.specs.Chain.{first_of, has_type}

-- the first 1001, and whether there is a 100
pub record AreBlockettes (order : Order) (b : List ℕ) (os : List ℕ) (found : Blockettes) : Type 0 where
  pub first_1001 : found.first_1001 ≡ first_of order 1001 b os
  pub has_100 : found.has_100 ≡ has_type order 100 b os
