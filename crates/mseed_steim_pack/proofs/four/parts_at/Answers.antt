use Rattle.std.proofs.Common.{◌≡◌, ◌≤◌, arith, length, rules}
use Rattle.mseed_steim_pack.proofs.Lookaheads.{held_here}
use Rattle.mseed_steim_pack.proofs.Sizes.{rest_long}
use Rattle.mseed_steim_pack.proofs.four.parts_at.Goals as goal

pub returns : goal.returns
returns c = λ ds is.
    let known = c.args.known.now in
    let some : 2 ≤ c.from-count.result = omega (arith, c.if-count-lt2.false) in
    let here = held_here known c.args.place c.from-count.result ds is c.from-count.ensures some in
    let long : length known.cut ≡ 128 = search rules in
    (c.parts_two-code.ensures ds here.1.0 (rw (rest_long 128 c.args.place known.cut long) here.1.1), here.1.2)
