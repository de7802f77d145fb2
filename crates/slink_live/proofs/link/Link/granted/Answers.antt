use Rattle.std.proofs.Common.{arith}
use Rattle.std.proofs.lemmas.Option.{slice_get_within}
use Rattle.slink_live.proofs.link.Link.granted.Goals as goal

pub returns : goal.returns
returns c streams k g granted =
    let there = c.requires.1 k g granted in
    let within = slice_get_within c.args.feed.now k there.0 there.1 in
    c.loop-k.invariant.each k g (omega (arith, within, c.loop-k-test.false, c.len-k-end.ensures.value)) granted
