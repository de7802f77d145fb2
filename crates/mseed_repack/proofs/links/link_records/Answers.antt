use Rattle.std.proofs.Common.{◌≡◌, ℕ, ◌+◌, ◌-◌, ◌<◌, length, arith}
use Rattle.mseed_repack.proofs.Linked.{links_none}
use Rattle.mseed_repack.proofs.links.link_records.Goals as goal

pub loop-turn-init : goal.loop-turn-init
loop-turn-init c = record {
  links = links_none _ _ _ _ _ (omega arith) c.requires.firsts c.requires.none;
  firsts = c.requires.firsts;
  nexts = c.requires.nexts;
}

pub loop-turn-preserved : goal.loop-turn-preserved
loop-turn-preserved c =
    let turn = c.loop-turn.turn in
    let n = length c.args.views.now in
    let index : ℕ = n - 1 - turn in
    let before : n - turn ≡ index + 1 = omega (arith, c.loop-turn-test.true) in
    let after : index ≡ n - (turn + 1) = omega (arith, c.loop-turn-test.true) in
    let inside : index < n = omega (arith, c.loop-turn-test.true) in
    let so_far = rw before at c.loop-turn.invariant.links in
    record {
      links = rw after at (c.link_record.ensures c.args.views.now inside c.index-views-index.is so_far);
      firsts = omega (arith, c.link_record.auto.firsts, c.loop-turn.invariant.firsts);
      nexts = omega (arith, c.link_record.auto.nexts, c.loop-turn.invariant.nexts);
    }

pub returns : goal.returns
returns c =
    let none : length c.args.views.now - c.loop-turn.turn ≡ 0 = omega (arith, c.loop-turn-test.false) in
    rw none at c.loop-turn.invariant.links
