use Rattle.std.proofs.Common.{◌≡◌, ◌++◌, eqb, List, Ok, map, take, arith, length, subst}
use Rattle.std.specs.Bool.{OnTrue}
use Rattle.mseed_steim.specs.Frames.{DataWord}
use Rattle.mseed_steim.specs.private.Items.{Items, items_of}
use Rattle.mseed_steim.proofs.Placed.{walked_rest}
use Rattle.mseed_steim.proofs.Walking.{left_later}
use Rattle.mseed_steim.proofs.known.unpack_rest.Goals as goal

pub returns-in-Ok-clause-unpacked : goal.returns-in-Ok-clause-unpacked
returns-in-Ok-clause-unpacked c =
    let p = c.args.payload.now in
    let out = c.args.out.now in
    let after = c.keep_in_room.new.out in
    let n = length out in
    subst (λ (ws : List DataWord). OnTrue (eqb c.in-Ok.next.met n) ((more : Items)
    × (map Ok (take c.args.met out) ++ items_of c.args.scheme ws ≡ map Ok after ++ more)))
    (left_later p c.args.met 0 c.args.index c.requires.inside.0)
    (walked_rest n _ c.in-Ok.next out after _ _ c.requires.left.0 (omega (arith, c.requires.left.1))
    (c.in-Ok.ensures 0))
