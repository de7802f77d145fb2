use Rattle.std.proofs.Common.{◌≡◌, take, length, arith, rules}
use Rattle.std.proofs.lemmas.List.{length-take-le}
use Rattle.mseed_steim.proofs.Continuing.{walks_needed}
use Rattle.mseed_steim.proofs.walk.keep_unpacked.Goals as goal

pub returns : goal.returns
returns g c = λ more.
    let ds = c.args.differences.now in
    let all : length ds ≡ 128 = search rules in
    let long : length (take c.min-needed.result ds) ≡ c.min-needed.result = length-take-le c.min-needed.result ds
    (omega (arith, all, c.min-needed.ensures, c.requires.few)) in
    walks_needed g.K.Keeper.kept c.args.samples c.args.sum ds c.args.count c.min-needed.result c.args.out.now
    c.keep_checked.new.out more c.keep_checked.result (omega (arith, c.requires.left)) c.min-needed.ensures
    c.keep_checked.ensures.walks (rw long at c.keep_checked.ensures.met)
