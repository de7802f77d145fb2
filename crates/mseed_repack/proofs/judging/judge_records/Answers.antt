use Rattle.std.proofs.Common.{◌≤◌, ◌+◌, ◌^◌, ℕ, List, length, map, take, arith, sym, ap, ◌∙◌}
use Rattle.std.proofs.lemmas.Bool.{OnTrue_at, false≢true}
use Rattle.std.proofs.lemmas.List.{take_all}
use Rattle.mseed_record.specs.Viewing.{view_of}
use Rattle.mseed_audit.specs.Channels.{added_from, numbered}
use Rattle.mseed_audit.specs.Follows.{IsSound}
use Rattle.mseed_audit.proofs.Following.{few_bytes, end_next}
use Rattle.mseed_repack.specs.private.Supplying.{IsPlain}
use Rattle.mseed_repack.proofs.ReadChannels.{steps_next}
use Rattle.mseed_repack.proofs.Repacks.{audit_next}
use Rattle.mseed_repack.proofs.SoundRecords.{alone_next, sound_by_finding}
use Rattle.mseed_repack.proofs.judging.judge_records.Goals as goal
use Rattle.mseed_repack.proofs.judging.judge_records.Goals.{then-is_own, else-is_own, then-plain, else-plain}

pub loop-index-preserved : goal.loop-index-preserved
loop-index-preserved g c =
    let rs = c.args.views.now in
    let n = c.loop-index.index in
    let r = c.index-views-index.result in
    let offset = c.loop-index.offset in
    let inv = c.loop-index.invariant in
    let below = c.loop-index-test.true in
    let earlier = added_from 0 (map view_of (take n rs)) in
    let few : length c.bytes.result.now ≤ 2 ^ 20 =
    rw (sym c.bytes.ensures.value) at (few_bytes (view_of r) c.bytes.ensures.view) in (
      audit_next _ _ _ _ _ _ below c.index-views-index.is inv.2 inv.0 c.in-Ok.ensures.adds,
      c.in-Ok.ensures.number ∙ ap (λ (k : ℕ). k + 1) inv.1,
      ap (λ (bytes : List ℕ). offset + length bytes) c.bytes.ensures.value
          ∙ end_next rs n r offset below c.index-views-index.is inv.2,
      omega (arith, few, inv.3),
      λ sound. elim c.if-is_own.branch [
        | then-is_own w ↦ absurd (false≢true (sym w.sound-is ∙ sound))
        | else-is_own w ↦ alone_next IsSound rs n r below c.index-views-index.is (inv.4 (sym w.sound-is ∙ sound))
            (sound_by_finding c.one_reading.ensures (view_of r) (numbered 1 earlier) c.in-Ok.why
            (c.in-Ok.ensures.found earlier inv.0) (sym c.is_own.ensures ∙ w.if-is_own.false))
      ],
      λ plain. elim c.if-plain.branch [
        | then-plain w ↦ alone_next IsPlain rs n r below c.index-views-index.is (inv.5 w.if-plain.true)
            (OnTrue_at (sym w.plain-is ∙ plain) w.is_plain_by-plain.ensures)
        | else-plain w ↦ absurd (false≢true (sym w.if-plain.false ∙ (sym w.plain-is ∙ plain)))
      ],
      omega (arith, steps_next rs n r below c.index-views-index.is, inv.6, c.step_count-steps.ensures.value),
      omega (arith, inv.7, c.step_count-steps.ensures.bound),
    )

pub is_plain_by-plain-requires : goal.is_plain_by-plain-requires
is_plain_by-plain-requires g c = λ none some.
    let rs = c.args.views.now in
    let earlier = added_from 0 (map view_of (take c.loop-index.index rs)) in
    sound_by_finding c.one_reading.ensures (view_of c.index-views-index.result) (numbered 1 earlier) c.in-Ok.why
    (c.in-Ok.ensures.found earlier c.loop-index.invariant.0) none some

pub returns-clause-sound : goal.returns-clause-sound
returns-clause-sound g c =
    rw (take_all c.loop-index.index c.args.views.now c.loop-index-test.false) at c.loop-index.invariant.4

pub returns-clause-plain : goal.returns-clause-plain
returns-clause-plain g c =
    rw (take_all c.loop-index.index c.args.views.now c.loop-index-test.false) at c.loop-index.invariant.5

pub returns-clause-steps : goal.returns-clause-steps
returns-clause-steps g c =
    rw (take_all c.loop-index.index c.args.views.now c.loop-index-test.false) at c.loop-index.invariant.6
