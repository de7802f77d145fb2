use Rattle.std.proofs.Common.{arith}
use Rattle.mseed_audit.specs.Follows.{IsSound}
use Rattle.mseed_repack.proofs.ReadChannels.{read_more, read_none}
use Rattle.mseed_repack.proofs.Walks.{gone_all, gone_more, gone_none, next_gone, next_of, samples_so_far, AreReadSo}
use Rattle.mseed_repack.proofs.Walks.{steps_so_far}
use Rattle.mseed_repack.proofs.reading.read_records.Goals as goal

pub loop-view-init : goal.loop-view-init
loop-view-init g c = (
  c.requires.read.walks.led,
  gone_none read_none,
)

pub read_record-read-requires : goal.read_record-read-requires
read_record-read-requires g c =
    let l = c.loop-view in
    let h = next_gone l.invariant.1 c.in-Some.ensures.next in
    let held = h.holds in
    record {
      sound = next_of IsSound h c.requires.read.walks.sound;
      samples_fit = omega (arith, samples_so_far h, held.samples_count, c.requires.samples_fit, l.auto.samples);
      steps_fit = omega (arith, steps_so_far h, held.steps_count, c.requires.read.steps_fit, l.auto.steps);
    }

pub loop-view-preserved : goal.loop-view-preserved
loop-view-preserved g c =
    let h = next_gone c.loop-view.invariant.1 c.in-Some.ensures.next in
    let e = c.read_record-read.ensures in (
      c.in-Some.ensures.leads,
      gone_more {Q = AreReadSo c.read_record-read.result.samples c.read_record-read.result.steps
          c.read_record-read.new.samples c.read_record-read.new.steps} h
          (read_more _ _ _ _ _ _ _ _ _ _ _ h.holds e.samples.1.0 e.samples.1.1 e.steps e.samples_count e.steps_count),
    )

pub returns-clause-read : goal.returns-clause-read
returns-clause-read g c =
    (gone_all c.loop-view.invariant.1 c.in_default.ensures.next.0).are

pub returns-clause-places : goal.returns-clause-places
returns-clause-places g c = c.loop-view.invariant.1.holds.places

pub returns-clause-samples_inside : goal.returns-clause-samples_inside
returns-clause-samples_inside g c =
    let whole = gone_all c.loop-view.invariant.1 c.in_default.ensures.next.0 in
    omega (arith, whole.samples_count, c.requires.samples_fit, c.loop-view.auto.samples)

pub returns-clause-steps_inside : goal.returns-clause-steps_inside
returns-clause-steps_inside g c =
    let whole = gone_all c.loop-view.invariant.1 c.in_default.ensures.next.0 in
    omega (arith, whole.steps_count, c.requires.read.steps_fit, c.loop-view.auto.steps)
