use Rattle.std.proofs.Common.{◌≡◌, ◌-◌, get_or, length, take, drop, refl}
use lib.Lanes.{chunk}
use Rattle.mseed_steim_pack.proofs.Sizes.{lanes_bounded, length_part, most_more, part_at}
use Rattle.mseed_steim_pack.proofs.ahead.at_most.Goals as goal

pub returns : goal.returns
returns c = λ i inside is.
    let held = c.args.held.now in
    let at = c.args.place in
    let place : c.from.result ≡ at = c.from.ensures in
    most_more held i at (get_or c.args.most i 0) _ is
    (rw (place, ← part_at 0 (length held) at i held refl c.requires.long inside)
    (lanes_bounded 16 at c.args.most (chunk 0 16 (take (length held - at) (drop at held))) i c.fits-most.0
    (length_part (length held) at held refl c.requires.long) inside))
