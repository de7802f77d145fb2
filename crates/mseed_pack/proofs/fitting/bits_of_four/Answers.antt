use Rattle.std.proofs.Common.{◌+◌, ◌*◌, w32, pos, get_or, rules}
use Rattle.std.proofs.lemmas.Int.{to_z-of_z}
use Rattle.mseed_pack.proofs.Misfits.{four_below}
use Rattle.mseed_pack.proofs.fitting.bits_of_four.Goals as goal

pub returns : goal.returns
returns c =
    let xs = c.args.samples.now in
    let i = c.args.index in
    let p = c.args.part in
    four_below (pos c.args.limit) xs i p (2 * c.args.limit) c.raised-first.result c.raised-second.result
    c.raised-third.result c.raised-fourth.result c.requires.power
    (rw (to_z-of_z w32 (get_or xs i (pos 0)) (search rules)) at c.raised-first.ensures)
    (rw (to_z-of_z w32 (get_or xs (i + p) (pos 0)) (search rules)) at c.raised-second.ensures)
    (rw (to_z-of_z w32 (get_or xs (i + 2 * p) (pos 0)) (search rules)) at c.raised-third.ensures)
    (rw (to_z-of_z w32 (get_or xs (i + 3 * p) (pos 0)) (search rules)) at c.raised-fourth.ensures)
