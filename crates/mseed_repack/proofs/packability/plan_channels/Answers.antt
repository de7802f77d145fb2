use Rattle.std.proofs.Common.{◌++◌, ◌∙◌, List, [], ◌∷◌, ap, arith, length, map, refl, subst, sym, take}
use Rattle.std.proofs.Common.{⊎_elim}
use Rattle.std.specs.List.{AllByRecursion}
use Rattle.std.proofs.lemmas.List.{map-append, take_all, take_more}
use Rattle.std.proofs.lemmas.Option.{IfSome_then}
use Rattle.mseed_record.specs.View.{View}
use Rattle.mseed_record.specs.Viewing.{view_of}
use Rattle.mseed_audit.specs.Follows.{IsSound}
use Rattle.mseed_audit.specs.Verdict.{says_continuous}
use Rattle.mseed_audit.proofs.Following.{views_are}
use Rattle.mseed_repack.specs.Repack.{Channel}
use Rattle.mseed_repack.specs.private.Archives.{records_on}
use Rattle.mseed_repack.specs.private.Planning.{ready_none}
use Rattle.mseed_repack.specs.private.Supplying.{IsPlain}
use Rattle.mseed_repack.specs.declared.plan.Plan.{Plan}
use Rattle.mseed_repack.proofs.Archives.{few_trail, of_channel, some_on}
use Rattle.mseed_repack.proofs.Planning.{ready_more}
use Rattle.mseed_repack.proofs.Repacks.{count_said}
use Rattle.mseed_repack.proofs.SoundRecords.{alone_in}
use Rattle.mseed_repack.proofs.Packabilities.{sound_by, steps_gathered}
use Rattle.mseed_repack.proofs.packability.plan_channels.Goals as goal

pub plan_channel-requires : goal.plan_channel-requires
plan_channel-requires g c κs =
    let a = c.args.archive.now in
    let l = c.loop-number in
    let t = c.channel_walk.result in
    let d : Channel = c.channel-item.result in
    let views : List View = map view_of a.views.now in
    let own = of_channel a l.number t d c.loop-number-test.true c.channel-item.is c.channel_walk.ensures.channel_walk in
    let fits = steps_gathered d.0 (records_on t) views (length c.args.steps.now) own c.requires.places.steps_fit in (
      (refl, tt),
      (
        c.channel_walk.ensures.channel_walk.led,
        (
          few_trail a l.number t c.channel_walk.ensures.channel_walk c.requires.places.audited,
          (
            λ whole. some_on _ _ _ c.loop-number-test.true c.channel_walk.ensures.channel_walk (c.requires.whole whole),
            (
              λ known. ⊎_elim (λ sound. rw (sym own) at (alone_in IsSound d.0 views (c.requires.sound sound)))
                  (λ continuous. sound_by views a.channels.now l.number d (says_continuous d.1) (records_on t)
                  c.requires.places.audited.verdicts c.loop-number-test.true c.channel-item.is refl own continuous)
                  (c.is_known_sound-sound.ensures known),
              (
                IfSome_then c.count_plain-plain.result c.count_plain-plain.ensures (λ count says. record {
                  written = says.1;
                  plain = subst (AllByRecursion IsPlain) (sym own)
                      (alone_in IsPlain d.0 views (c.requires.plain says.0));
                  count_is = count_said views a.channels.now l.number d count (records_on t)
                      c.requires.places.audited.verdicts c.loop-number-test.true c.channel-item.is says.2 own;
                }),
                (
                  c.new-own.ensures.items,
                  omega (arith, fits, l.auto.steps),
                ),
              ),
            ),
          ),
        ),
      ),
    )

pub loop-number-init : goal.loop-number-init
loop-number-init g c = rw (c.new-packabilities.ensures.items, c.requires.none) ready_none

pub loop-number-preserved : goal.loop-number-preserved
loop-number-preserved g c =
    let l = c.loop-number in
    let views : List View = map view_of c.args.archive.now.views.now in
    let cs : List Channel = c.args.archive.now.channels.now in
    let d : Channel = c.channel-item.result in
    let before : List (List Plan) = map (λ own. own.items) l.plans.items in
    let own : List Plan = c.plan_channel.new.plans.items in
    let same = of_channel c.args.archive.now l.number c.channel_walk.result d c.loop-number-test.true c.channel-item.is
    c.channel_walk.ensures.channel_walk ∙ sym (views_are d.0 views) in
    let next = take_more cs l.number d c.loop-number-test.true ∙ ap (λ (e : Channel). take l.number cs ++ e ∷ []) (sym
    c.channel-item.is) in
    let all = ap (λ ls. map (λ own. own.items) ls) c.in_ok-push-2.ensures.items
    ∙ map-append (λ own. own.items) l.plans.items (_ ∷ []) in
    rw (all, c.in_ok-push.ensures.items, next)
    (ready_more _ _ _ _ _ _ _ c.in_ok-packability.ensures.grown (rw c.plan_channel.auto.steps l.invariant) (rw same at
    c.in_ok-packability.ensures.ready))

pub returns : goal.returns
returns g c =
    rw (take_all c.loop-number.number c.args.archive.now.channels.now c.loop-number-test.false) at
    c.loop-number.invariant
