use Rattle.std.proofs.Common.{List, subst, sym}
use Rattle.mseed_audit.specs.Channels.{Placed}
use Rattle.mseed_repack.specs.private.Places.{StandsAt}
use Rattle.mseed_repack.proofs.InPlaces.{index_among, number_at}
use Rattle.mseed_repack.proofs.places.Places.placed.Goals as goal

pub returns-clause-placed : goal.returns-clause-placed
returns-clause-placed g c = λ vs ps index are stands.
    let inside = rw are.places_are at (index_among vs ps index c.args.finding are.packed_are stands) in
    subst (λ (qs : List Placed). StandsAt qs index c.place_asked.result) (sym are.places_are)
    (c.place_asked.ensures.placed are.views index are.all inside (number_at vs index c.args.finding stands))
