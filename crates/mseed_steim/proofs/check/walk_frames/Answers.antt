use Rattle.std.proofs.Common.{arith}
use Rattle.std.proofs.Common.{rules, w32, FitsSigned}
use Rattle.std.proofs.lemmas.Int.{to_z-of_z}
use Rattle.mseed_steim.proofs.Ended.{walk_kept}
use Rattle.mseed_steim.proofs.check.walk_frames.Goals as goal

pub ends_of_walk-requires-clause-walked : goal.ends_of_walk-requires-clause-walked
ends_of_walk-requires-clause-walked g c = grind (arith, to_z-of_z)

pub returns : goal.returns
returns g c =
    let fits : FitsSigned w32 c.in-Some.constants.first = search rules in
    walk_kept g.K.Keeper.kept c.args.scheme c.args.payload.now c.args.samples c.in-Some.constants c.walk-walked.result
    c.walk-walked.new.out c.args.out.now c.ends_of_walk.result c.requires.some (λ i. (c.type_inv.payload i).fits)
    (rw (to_z-of_z, c.in-Some.ensures.first) at c.walk-walked.ensures.folded)
    (rw (to_z-of_z, c.in-Some.ensures.first) at c.walk-walked.ensures.kept) c.in-Some.ensures.first
    c.in-Some.ensures.last c.ends_of_walk.ensures.ends c.ends_of_walk.ensures.met c.ends_of_walk.ensures.fault
