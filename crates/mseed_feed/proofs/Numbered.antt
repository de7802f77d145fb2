-- The rings of a feed before its first record.
use Rattle.std.proofs.Common.{◌<◌, ◌^◌, [], ◌∷◌, List, map, arith}
use Rattle.slink_wire.specs.Place.{Fields}
use Rattle.mseed_feed.specs.Filling.{ring_of}
use Rattle.mseed_feed.specs.Live.{CanNumber}
use Rattle.mseed_words.specs.declared.request.Serving.{Serving}

-- They can be numbered on, since the first number has 24 bits.
pub can_number_new : (serving : Serving) (places : List Fields) → serving.first < 2 ^ 24
    → CanNumber (map (ring_of serving []) places)
can_number_new serving [] small = tt
can_number_new serving (p ∷ ps) small = (omega (arith, small), can_number_new serving ps small)
