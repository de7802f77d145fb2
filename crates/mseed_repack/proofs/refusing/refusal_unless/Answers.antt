use Rattle.std.proofs.Common.{◌<◌, ◌∙◌, ℕ, List, arith, length, map, subst, sym}
use Rattle.std.proofs.lemmas.List.Elements.{recursion_from_All}
use Rattle.mseed_record.specs.Viewing.{view_of}
use Rattle.mseed_record.specs.declared.view.RecordView.{RecordView}
use Rattle.mseed_audit.specs.Channels.{channel_in}
use Rattle.mseed_repack.specs.ByStretches.{IsFirstOwn, IsFit}
use Rattle.mseed_repack.specs.Repack.{Channel}
use Rattle.mseed_repack.specs.private.Places.{ArePlaces}
use Rattle.mseed_repack.specs.private.Restretching.{IsFirstRefused}
use Rattle.mseed_repack.specs.declared.fault.RepackFault.TheVariants.{Broken, Misfit}
use Rattle.mseed_repack.proofs.Archives.{all_on, channel_on, unsound_on}
use Rattle.mseed_repack.proofs.Packabilities.{refused_broken, refused_misfit}
use Rattle.mseed_repack.proofs.refusing.refusal_unless.Goals as goal

pub first_own-first-requires : goal.first_own-first-requires
first_own-first-requires g c =
    let inside : c.in-Some.number < length c.args.archive.now.channels.now =
    omega (arith, c.in-Some.ensures.inside, c.requires.each) in
    record {
      few = rw (sym c.channel_walk.ensures.views) at c.requires.audited.few;
      all = all_on _ _ _ c.channel_walk.ensures.channel_walk c.channel_walk.ensures.views;
      broken = unsound_on c.args.archive.now c.args.packabilities.now c.in-Some.number c.channel_walk.result
          c.channel_walk.ensures.channel_walk c.requires.found inside c.requires.each c.in-Some.ensures.some;
    }

pub returns-in-Some-clause-some : goal.returns-in-Some-clause-some
returns-in-Some-clause-some g c = λ cutting o ps at all.
    let a = c.args.archive.now in
    let r = c.index-archive-number.result in
    let vs = map view_of a.views.now in
    let w = c.channel_walk.ensures.channel_walk in
    let inside : c.in-Some.number < length a.channels.now = omega (arith, c.in-Some.ensures.inside, c.requires.each) in
    let here = subst (λ (rs : List RecordView). ArePlaces (g.C.Choice.selection c.args.places.now.choice.now)
    c.args.places.now.bytes.now (map view_of rs) ps) (sym c.channel_walk.ensures.views) at in
    let own = subst (λ (key : List ℕ). IsFirstOwn (channel_in key ps) c.first_own-first.result) w.codes_are
    (c.first_own-first.ensures ps here) in
    let same = channel_on a c.in-Some.number c.channel_walk.result r w inside c.index-archive-number.is in
    subst (λ (d : Channel). IsFirstRefused cutting o ps vs a.channels.now (Broken d.0 c.first_own-first.result))
    (same ∙ c.index-archive-number.is)
    (refused_broken cutting o ps vs a.channels.now c.args.packabilities.now c.in-Some.number w.channel
    c.first_own-first.result
    c.in-Some.ensures.inside c.requires.each w.at c.in-Some.ensures.some c.in-Some.ensures.before all own)

pub returns-in-Some-first_misfit-clause-some : goal.returns-in-Some-first_misfit-clause-some
returns-in-Some-first_misfit-clause-some g c = λ cutting o ps _ all.
    let cs = c.args.archive.now.channels.now in
    let vs = map view_of c.args.archive.now.views.now in
    let found = c.in-Some-first_misfit in
    let at = c.index-archive-number-in-Some-first_misfit in
    subst (λ (d : Channel). IsFirstRefused cutting o ps vs cs (Misfit d.0 found.stretch found.fault)) at.is
    (refused_misfit cutting o ps vs cs c.args.packabilities.now found.number found.stretch found.fault at.result
    found.ensures.inside c.requires.each at.is found.ensures.some c.in_default.ensures.none found.ensures.before all)

pub returns-in-None-clause-fit : goal.returns-in-None-clause-fit
returns-in-None-clause-fit g c = λ _. recursion_from_All IsFit c.args.packabilities.now c.in-None.ensures.none
