use Rattle.std.proofs.Common.{[], length-append, ◌∷◌, arith}
use Rattle.std.proofs.ByRecursion.{All-push}
use Rattle.mseed_record.specs.Viewing.{view_of}
use Rattle.mseed_audit.specs.Follows.{IsSound}
use Rattle.mseed_repack.specs.private.Supplying.{IsUnpackable}
use Rattle.mseed_repack.proofs.Outlines.{outlined_more, outlined_none}
use Rattle.mseed_repack.proofs.Walks.{AreOutlinedSo, few_so_far, gone_all, gone_more, gone_none, next_gone, next_of}
use Rattle.mseed_repack.proofs.Walks.{steps_so_far}
use Rattle.mseed_repack.proofs.outline.outline_records.Goals as goal

pub loop-view-init : goal.loop-view-init
loop-view-init g c = (
  c.requires.read.walks.led,
  gone_none (omega arith, outlined_none c.args.before c.args.steps.now c.requires.none, λ _. tt),
)

pub outline_record-outline-requires-clause-sound : goal.outline_record-outline-requires-clause-sound
outline_record-outline-requires-clause-sound g c =
    next_of IsSound (next_gone c.loop-view.invariant.1 c.in-Some.ensures.next) c.requires.read.walks.sound

pub outline_record-outline-requires-clause-few : goal.outline_record-outline-requires-clause-few
outline_record-outline-requires-clause-few g c =
    let h = next_gone c.loop-view.invariant.1 c.in-Some.ensures.next in
    let most = h.holds.0 in
    let few = few_so_far h in
    omega (arith, most, few, c.requires.read.few)

pub outline_record-outline-requires-clause-steps_fit : goal.outline_record-outline-requires-clause-steps_fit
outline_record-outline-requires-clause-steps_fit g c =
    let h = next_gone c.loop-view.invariant.1 c.in-Some.ensures.next in
    omega (arith, steps_so_far h, h.holds.1.read.steps_count, c.requires.read.steps_fit, c.loop-view.auto.steps)

pub loop-view-preserved : goal.loop-view-preserved
loop-view-preserved g c =
    let l = c.loop-view in
    let h = next_gone l.invariant.1 c.in-Some.ensures.next in
    let sound = next_of IsSound h c.requires.read.walks.sound in
    let e = c.outline_record-outline.ensures in
    let o = c.outline_record-outline.result in
    let most = h.holds.0 in
    let size = length-append h.gone (view_of c.in-Some.view ∷ []) in (
      c.in-Some.ensures.leads,
      gone_more {Q = AreOutlinedSo o.samples o.steps o.nearness o.unpackable c.outline_record-outline.new.steps} h (
        omega (arith, most, size, e.most),
        outlined_more _ _ _ _ _ _ _ _ _ _ _ h.holds.1 sound.whole e.samples e.steps e.steps_count e.nearness,
        λ so.
            All-push IsUnpackable h.gone (view_of c.in-Some.view) (h.holds.2 (e.unpackable so).0) (e.unpackable so).1,
      ),
    )

pub returns-clause-outline : goal.returns-clause-outline
returns-clause-outline g c = (gone_all c.loop-view.invariant.1 c.in_default-next.ensures.next.0).1

pub returns-clause-samples : goal.returns-clause-samples
returns-clause-samples g c =
    ((gone_all c.loop-view.invariant.1 c.in_default-next.ensures.next.0).1).read.samples_count

pub returns-clause-unpackable : goal.returns-clause-unpackable
returns-clause-unpackable g c = (gone_all c.loop-view.invariant.1 c.in_default-next.ensures.next.0).2

pub returns-clause-steps_inside : goal.returns-clause-steps_inside
returns-clause-steps_inside g c =
    let whole = (gone_all c.loop-view.invariant.1 c.in_default-next.ensures.next.0).1 in
    omega (arith, whole.read.steps_count, c.requires.read.steps_fit, c.loop-view.auto.steps)
