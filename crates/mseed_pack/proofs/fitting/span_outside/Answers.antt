use Rattle.std.proofs.Common.{arith}
use Rattle.mseed_time.specs.Ratios.{ratio_of}
use Rattle.mseed_pack.proofs.Misfits.{not_so}
use Rattle.mseed_pack.proofs.Times.{timed_on}
use Rattle.mseed_pack.proofs.fitting.span_outside.Goals as goal

pub returns-then-span-size-clause-none : goal.returns-then-span-size-clause-none
returns-then-span-size-clause-none c =
    let h = c.loop-span.invariant in
    timed_on c.args.start (ratio_of c.args.rate) h.standing c.loop-span-test.true (not_so c.if-early.ensures.1)
    (not_so c.if-late.ensures.1) h.timed c.args.size (omega arith)

pub loop-span-preserved : goal.loop-span-preserved
loop-span-preserved c =
    let h = c.loop-span.invariant in
    record {
      standing = c.next_span-span.ensures.span;
      timed = timed_on c.args.start (ratio_of c.args.rate) h.standing c.loop-span-test.true
          (not_so c.if-early.ensures.1) (not_so c.if-late.ensures.1) h.timed c.next_span-span.result.begin
          (omega arith);
    }
