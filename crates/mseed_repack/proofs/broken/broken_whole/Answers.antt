use Rattle.std.proofs.Common.{map}
use Rattle.mseed_record.specs.Viewing.{view_of}
use Rattle.mseed_repack.proofs.InPlaces.{first_moved}
use Rattle.mseed_repack.proofs.broken.broken_whole.Goals as goal

pub returns-in-Some-clause-first : goal.returns-in-Some-clause-first
returns-in-Some-clause-first g c = λ ps at.
    let vs = map view_of c.args.views.now in
    first_moved _ vs ps _ c.placed.result at.packed_are c.in-Some.ensures.first
    (λ index stands. c.placed.ensures.placed vs ps index at stands) c.placed.ensures.why
