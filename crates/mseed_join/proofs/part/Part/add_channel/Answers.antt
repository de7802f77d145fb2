use Rattle.std.proofs.Common.{◌∙◌, None, Option, Some, length, refl, sym, ap, subst, arith, rules}
use Rattle.mseed_audit.specs.Channels.{same_key}
use Rattle.mseed_audit.specs.Places.{by_key, with_channel}
use Rattle.mseed_audit.proofs.ByKey.{by_key_ascends}
use Rattle.mseed_audit.proofs.Found.{there_unchanged}
use Rattle.mseed_audit.proofs.Rosters.{none_there}
use Rattle.mseed_audit.specs.declared.channel.Channel.{Channel}
use Rattle.mseed_join.proofs.Adding.{Entries, there_joined, there_border, there_fits, there_limit, err_from, held}
use Rattle.mseed_join.proofs.Adding.{new_joined}
use Rattle.mseed_join.proofs.Keeping.{by_key_within, has_new, has_with, kept_there, none_kept, with_within}
use Rattle.mseed_join.proofs.Keeping.{within_push}
use Rattle.mseed_join.proofs.Within.{after_within, counts_before, new_within}
use Rattle.mseed_join.specs.Joining.{border_between, moved_channel}
use Rattle.mseed_join.specs.Parts.{AreWithin, CountsFit, FitsAt, Held, kept_of}
use Rattle.mseed_join.proofs.part.Part.add_channel.Goals as goal

-- where the channel is there
pub channel_mut-requires : goal.channel_mut-requires
channel_mut-requires g c =
    let f = rw c.in-Ok-Some.field-0-is at c.in-Ok-Some.ensures in
    omega (arith, f.within, ap (λ (fs : Entries). length fs) f.stays)

pub invariant_of-self : goal.invariant_of-self
invariant_of-self g c =
    let f = rw c.in-Ok-Some.field-0-is at c.in-Ok-Some.ensures in
    let at = c.channel_mut.ensures.value in
    let after : Channel = c.add_further.new.kept in
    let within = after_within c.self.inside.records c.self.inside.bytes c.args.codes (by_key c.self.inside.kept) _
    c.args.channel.now c.in-Ok.further after c.add_further.result (kept_there _ _ _ _ _ f at)
    (by_key_within c.self.inside.kept c.self.invariant.0) (c.in-Ok.ensures.fits.0 refl) c.in-Ok.ensures.value
    c.add_further.ensures.fits c.add_further.ensures.value c.add_further.ensures.unchanged in (
      with_within _ _ _ _ _ f at after c.self.invariant.0 within,
      c.self.invariant.1,
      c.self.invariant.2,
    )

pub returns-in-Ok-Some-clause-joined : goal.returns-in-Ok-Some-clause-joined
returns-in-Ok-Some-clause-joined g c =
    let f = rw c.in-Ok-Some.field-0-is at c.in-Ok-Some.ensures in
    let at = c.channel_mut.ensures.value in
    let after : Channel = c.add_further.new.kept in
    there_joined (by_key c.self.inside.kept) _ _ _ c.self.view_is _ _ _ _ (kept_there _ _ _ _ _ f at)
    c.in-Ok.ensures.value _ after _ (has_with _ _ _ _ _ f at after)
    (by_key_ascends (with_channel c.find_or_keep.new.self c.in-Ok-Some.index after)) c.add_further.ensures.value

pub returns-in-Ok-Some-clause-border : goal.returns-in-Ok-Some-clause-border
returns-in-Ok-Some-clause-border g c =
    let f = rw c.in-Ok-Some.field-0-is at c.in-Ok-Some.ensures in
    there_border (by_key c.self.inside.kept) _ _ _ c.self.view_is _ _ _ _
    (kept_there _ _ _ _ _ f c.channel_mut.ensures.value) c.in-Ok.ensures.value _ c.add_further.ensures.border

pub returns-in-Ok-Some-clause-fits : goal.returns-in-Ok-Some-clause-fits
returns-in-Ok-Some-clause-fits g c =
    let f = rw c.in-Ok-Some.field-0-is at c.in-Ok-Some.ensures in
    there_fits (by_key c.self.inside.kept) _ _ _ c.self.view_is _ _ _ _
    (kept_there _ _ _ _ _ f c.channel_mut.ensures.value) c.in-Ok.ensures.value _ c.add_further.ensures.fits
    (c.in-Ok.ensures.fits.0 refl)

pub returns-in-Ok-Some-clause-limit : goal.returns-in-Ok-Some-clause-limit
returns-in-Ok-Some-clause-limit g c =
    let f = rw c.in-Ok-Some.field-0-is at c.in-Ok-Some.ensures in
    there_limit (by_key c.self.inside.kept) _ _ _ c.self.view_is _ _ _ _
    (kept_there _ _ _ _ _ f c.channel_mut.ensures.value) c.in-Ok.ensures.value _ c.add_further.ensures.fits

pub returns-in-Ok-Some-clause-unchanged : goal.returns-in-Ok-Some-clause-unchanged
returns-in-Ok-Some-clause-unchanged g c =
    let es : Entries = c.self.inside.kept in
    let f = rw c.in-Ok-Some.field-0-is at c.in-Ok-Some.ensures in
    err_from c.add_further.result c.add_further.ensures.unchanged
    (λ same. ap (λ (fs : Entries). held (by_key fs) c.self.inside.records c.self.inside.bytes)
    (there_unchanged c.find_or_keep.new.self es es c.in-Ok-Some.index c.channel_mut.result.now
    c.add_further.new.kept f.stays refl c.channel_mut.ensures.value same) ∙ c.self.view_is)

-- where it is new
pub invariant_of-self-in-Ok-None : goal.invariant_of-self-in-Ok-None
invariant_of-self-in-Ok-None g c =
    let f = rw c.in-Ok-None.field-0-is at c.in-Ok-None.ensures in
    let counts : CountsFit c.in-Ok.further = search rules in
    let one = new_within c.self.inside.records c.self.inside.bytes c.args.channel.now c.in-Ok.further
    (c.in-Ok.ensures.fits.0 refl) c.in-Ok.ensures.value counts in (
      subst (λ (fs : Entries). AreWithin fs) (sym f.1)
          (within_push c.self.inside.kept c.args.codes c.in-Ok.further c.self.invariant.0 one),
      c.self.invariant.1,
      c.self.invariant.2,
    )

pub returns-in-Ok-None-clause-joined : goal.returns-in-Ok-None-clause-joined
returns-in-Ok-None-clause-joined g c =
    let es : Entries = c.self.inside.kept in
    let fs : Entries = c.find_or_keep.new.self in
    let f = rw c.in-Ok-None.field-0-is at c.in-Ok-None.ensures in
    let none = none_there (same_key c.args.codes) es f.0 in
    new_joined (by_key es) (by_key es) (by_key fs) c.self.inside.records
    c.self.inside.bytes c.args.self.now c.args.codes c.args.channel.now c.in-Ok.further c.self.view_is refl
    (none_kept es c.args.codes none) c.in-Ok.ensures.value
    (has_new es fs c.args.codes c.in-Ok.further f.1 none) (by_key_ascends fs)

pub returns-in-Ok-None-clause-border : goal.returns-in-Ok-None-clause-border
returns-in-Ok-None-clause-border g c =
    let es : Entries = c.self.inside.kept in
    let f = rw c.in-Ok-None.field-0-is at c.in-Ok-None.ensures in
    let none = ap (λ (h : Held). kept_of c.args.codes h.channels) (sym c.self.view_is)
    ∙ none_kept es c.args.codes (none_there (same_key c.args.codes) es f.0) in
    ap (λ (o : Option Channel). border_between o
    (moved_channel c.args.self.now.records c.args.self.now.bytes c.args.channel.now)) (sym none)

pub returns-in-Ok-None-clause-fits : goal.returns-in-Ok-None-clause-fits
returns-in-Ok-None-clause-fits g c =
    let es : Entries = c.self.inside.kept in
    let f = rw c.in-Ok-None.field-0-is at c.in-Ok-None.ensures in
    let none = none_kept es c.args.codes (none_there (same_key c.args.codes) es f.0) in
    let counts : CountsFit c.in-Ok.further = search rules in
    let here : FitsAt c.self.inside.records c.self.inside.bytes None (Some c.args.channel.now) =
    (c.in-Ok.ensures.fits.0 refl, counts_before _ _ _ c.in-Ok.further c.in-Ok.ensures.value counts) in
    subst (λ (h : Held). FitsAt h.records h.bytes (kept_of c.args.codes h.channels) (Some c.args.channel.now))
    c.self.view_is
    (subst (λ (o : Option Channel). FitsAt c.self.inside.records c.self.inside.bytes o (Some c.args.channel.now))
    (sym none) here)

pub returns-in-Err-find_or_keep-clause-memory : goal.returns-in-Err-find_or_keep-clause-memory
returns-in-Err-find_or_keep-clause-memory g c = λ _.
    let es : Entries = c.self.inside.kept in
    ap (λ (h : Held). kept_of c.args.codes h.channels) (sym c.self.view_is)
    ∙ none_kept es c.args.codes (none_there (same_key c.args.codes) es c.in-Err-find_or_keep.ensures.0)
