use Rattle.std.proofs.Common.{◌≡◌, arith, drop, length, rules}
use Rattle.mseed_steim_pack.specs.Lookahead.{IsAhead}
use Rattle.mseed_steim_pack.proofs.Held.{is_ahead}
use Rattle.mseed_steim_pack.proofs.Lookaheads.{cleared_holds, cleared_more, cleared_none}
use Rattle.mseed_steim_pack.proofs.ahead.look_ahead.Goals as goal

pub loop-index-init : goal.loop-index-init
loop-index-init g c = cleared_none 121 c.bound.new.held

pub loop-index-preserved : goal.loop-index-preserved
loop-index-preserved g c =
    let long : length c.loop-index.most ≡ 144 = search rules in
    cleared_more 121 c.loop-index.index c.bound.new.held c.loop-index.most (omega (arith, long, c.loop-index-test.true))
    c.loop-index.invariant

pub returns : goal.returns
returns g c =
    let ds = g.D.Steps.differences c.args.diffs.now in
    record {
      ahead = λ i inside. cleared_holds (IsAhead c.args.scheme (drop i ds))
          (λ m less some. absurd (omega (arith, less, some))) 121 c.loop-index.index i c.bound.new.held
          c.loop-index.most c.loop-index.invariant
          (λ early. is_ahead c.args.scheme ds c.put_most.new.most i _ c.requires early c.put_most.ensures.most
          (c.bound.ensures i (omega (arith, early))))
          (λ over. absurd (omega (arith, over, inside, c.loop-index-test.false)));
      none = λ i low inside. c.loop-index.invariant.none i low (omega (arith, inside, c.loop-index-test.false));
      cut = c.put_most.ensures.cut;
    }
