use Rattle.std.proofs.Common.{◌≡◌, ◌+◌, ◌-◌, arith}
use Rattle.std.proofs.lemmas.List.{drop-take}
use Rattle.mseed_steim.proofs.ready.Ready.as_slice.Goals as goal

pub returns : goal.returns
returns c =
    let all : c.self.inside.given + (c.self.inside.count - c.self.inside.given) ≡ c.self.inside.count = omega arith in
    grind (arith, drop-take)
