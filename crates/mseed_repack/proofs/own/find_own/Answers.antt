use Rattle.std.proofs.Common.{◌≡◌, ◌+◌, ◌∙◌, ℕ, List, ap, arith, map, refl, subst, sym, take}
use Rattle.std.proofs.lemmas.Bool.{false≢true}
use Rattle.mseed_record.specs.View.{View}
use Rattle.mseed_record.specs.Viewing.{view_of}
use Rattle.std.specs.List.{AllByRecursion}
use Rattle.mseed_audit.specs.Follows.{IsSound}
use Rattle.mseed_audit.specs.declared.finding.Finding.{Finding}
use Rattle.mseed_audit.proofs.Following.{end_of, offset_next}
use Rattle.mseed_repack.specs.private.Reading.{channel_in}
use Rattle.mseed_repack.proofs.OwnFindings.{own_at, sound_next, stands_in}
use Rattle.mseed_repack.proofs.SoundRecords.{sound_found}
use Rattle.mseed_repack.proofs.own.find_own.Goals as goal
use Rattle.mseed_repack.proofs.own.find_own.Goals.{then-is_of_channel+in_default, else-is_of_channel}

pub returns-in-Some-clause-own : goal.returns-in-Some-clause-own
returns-in-Some-clause-own c =
    let rs = c.args.views.now in
    let n = c.loop-index.index in
    let r = c.index-views-index.result in
    let f : Finding = record { number = n + 1; offset = c.loop-index.offset; why = c.in-Some.why } in (
      n,
      (
        own_at c.args.codes.now rs n r f c.loop-index-test.true c.index-views-index.is
            (sym c.is_of_channel.ensures ∙ c.if-is_of_channel.true) c.loop-index.invariant.0 c.in-Some.ensures,
        stands_in rs n r f c.loop-index-test.true c.index-views-index.is refl c.loop-index.invariant.1,
      ),
    )

pub loop-turn-preserved : goal.loop-turn-preserved
loop-turn-preserved c =
    offset_next c.args.views.now c.loop-turn.turn c.index-views-turn.result c.loop-turn.offset c.bytes.result.now
    (omega (arith, c.loop-turn-test.true, c.requires.inside)) c.index-views-turn.is c.loop-turn.invariant.0
    c.loop-turn.invariant.1 c.bytes.ensures.view c.bytes.ensures.value

pub loop-index-init : goal.loop-index-init
loop-index-init c =
    let same : c.loop-turn.turn ≡ c.args.begin = omega (arith, c.loop-turn-test.false, c.loop-turn.auto.turn-end) in (
      subst (λ (vs : List View). AllByRecursion IsSound vs) (sym c.requires.none) tt,
      c.loop-turn.invariant.0 ∙ ap (λ (n : ℕ). end_of 0 (map view_of (take n c.args.views.now))) same,
      omega (arith, c.loop-turn.invariant.1, same),
    )

pub loop-index-preserved : goal.loop-index-preserved
loop-index-preserved c =
    let rs = c.args.views.now in
    let n = c.loop-index.index in
    let r = c.index-views-index.result in
    let key = c.args.codes.now in
    let next = offset_next rs n r c.loop-index.offset c.bytes-in-loop-index.result.now c.loop-index-test.true
    c.index-views-index.is
    c.loop-index.invariant.1 c.loop-index.invariant.2 c.bytes-in-loop-index.ensures.view
    c.bytes-in-loop-index.ensures.value in
    let sound : AllByRecursion IsSound (channel_in key (map view_of (take (n + 1) rs)))
    = elim c.if-is_of_channel.branch [
      | then-is_of_channel+in_default w ↦ sound_next _ _ _ _ _ c.loop-index-test.true c.index-views-index.is
          c.is_of_channel.ensures c.loop-index.invariant.0 (λ _. sound_found c.one_reading.ensures _ (view_of r) _
          w.in_default.ensures refl)
      | else-is_of_channel w ↦ sound_next _ _ _ _ _ c.loop-index-test.true c.index-views-index.is
          c.is_of_channel.ensures c.loop-index.invariant.0
          (λ yes. absurd (false≢true (sym w.if-is_of_channel.false ∙ yes)))
    ] in
    (sound, next.0, next.1)
