use Rattle.std.proofs.Common.{map, sym}
use Rattle.mseed_record.specs.Viewing.{view_of}
use Rattle.mseed_repack.proofs.InPlaces.{own_first}
use Rattle.mseed_repack.proofs.OwnFindings.{none_before}
use Rattle.mseed_repack.proofs.own.first_own.Goals as goal

pub find_own-requires-clause-none : goal.find_own-requires-clause-none
find_own-requires-clause-none g c = none_before _ _ _ _ c.min-begin.ensures c.requires.all

pub unreachable-requires : goal.unreachable-requires
unreachable-requires g c = c.requires.broken (rw (sym c.requires.all) at c.in-None.ensures.none)

pub returns : goal.returns
returns g c = λ ps at.
    let vs = map view_of c.args.channel_walk.now.views.now in
    let own = c.in-Some.ensures.own in
    own_first _ _ _ _ _ _ at.packed_are own.1.0 (c.placed.ensures.placed vs ps own.0 at own.1.1) c.placed.ensures.why
