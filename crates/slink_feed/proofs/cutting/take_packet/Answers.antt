use Rattle.std.proofs.Common.{arith}
use Rattle.slink_feed.proofs.Prefixes.{emitted_more, within_more}
use Rattle.slink_feed.proofs.Deliveries.{piece_length}
use Rattle.slink_feed.proofs.cutting.take_packet.Goals as goal

pub loop-used-preserved : goal.loop-used-preserved
loop-used-preserved c = record {
  kept = emitted_more _ _ _ c.args.bytes.now c.loop-used.used c.take_part-more.result.0
      c.loop-used.invariant.kept c.take_part-more.ensures.kept;
  begun = rw c.in-Begun.is at c.take_part-more.ensures.part;
  within = within_more c.args.bytes.now c.loop-used.used c.take_part-more.result.0 c.loop-used.invariant.within
      c.take_part-more.ensures.bound;
}

pub returns-in_default : goal.returns-in_default
returns-in_default c = record {
  part = c.take_part-more.ensures.part;
  kept = emitted_more _ _ _ c.args.bytes.now c.loop-used.used c.take_part-more.result.0
      c.loop-used.invariant.kept c.take_part-more.ensures.kept;
  whole = λ e. absurd (c.in_default.not-Begun e);
  some = λ _.
      omega (
        arith,
        c.take_part-more.ensures.some (omega (
          arith,
          piece_length c.args.bytes.now c.loop-used.used,
          c.loop-used-test.true,
        )),
      );
  bound = within_more c.args.bytes.now c.loop-used.used c.take_part-more.result.0 c.loop-used.invariant.within
      c.take_part-more.ensures.bound;
}
