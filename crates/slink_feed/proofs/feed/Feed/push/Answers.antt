use Rattle.std.proofs.Common.{◌≡◌, ap, sym, ◌∙◌, Some}
use Rattle.std.proofs.Common.{slice_get, option_map}
use borrow.Author.Rules.{scaled_Fits}
use Rattle.slink_feed.specs.Window.{Window, with_record}
use Rattle.slink_feed.proofs.Done.{some_at}
use Rattle.slink_feed.proofs.Fitting.{fits_pushed}
use Rattle.slink_feed.proofs.Items.{get_here, get_there, shows_more}
use Rattle.slink_feed.proofs.Slots.{slot_at, slot_written}
use Rattle.slink_feed.proofs.feed.Feed.push.Goals as goal

pub push_slot-requires : goal.push_slot-requires
push_slot-requires g c =
    let at : (w : Window) × (c.index-slots-k.result ≡ Some w) × (slice_get c.args.self.now c.args.k ≡ Some w) =
    slot_at c.self.inside.rings.items c.as_mut_slice-slots.result.now c.args.self.now c.args.k c.index-slots-k.result
    c.self.invariant c.self.view_is c.as_mut_slice-slots.ensures.value c.index-slots-k.is c.requires.in_range in
    rw (← c.index-slots-k.is, at.1) (c.requires.bears at.0 at.2, c.requires.room at.0 at.2)

pub invariant_of-self : goal.invariant_of-self
invariant_of-self g c = (slot_written c.self.inside.rings.items c.as_mut_slice-slots.result.now c.args.self.now
    c.args.k c.index-slots-k.result c.push_slot.new.slot (λ w. with_record w c.args.bytes.now)
    c.self.invariant c.self.view_is c.as_mut_slice-slots.ensures.value c.index-slots-k.is c.requires.in_range
    (c.push_slot.ensures ∙ ap (option_map (λ w. with_record w c.args.bytes.now)) (sym c.index-slots-k.is))).0

pub returns-clause-pushed : goal.returns-clause-pushed
returns-clause-pushed g c =
    (slot_written c.self.inside.rings.items c.as_mut_slice-slots.result.now c.args.self.now c.args.k
    c.index-slots-k.result c.push_slot.new.slot (λ w. with_record w c.args.bytes.now)
    c.self.invariant c.self.view_is c.as_mut_slice-slots.ensures.value c.index-slots-k.is c.requires.in_range
    (c.push_slot.ensures ∙ ap (option_map (λ w. with_record w c.args.bytes.now)) (sym c.index-slots-k.is))).1

pub returns-clause-fits : goal.returns-clause-fits
returns-clause-fits g c s fits =
    let at = some_at c.args.self.now c.args.k c.requires.in_range in
    fits_pushed c.args.self.now _ c.args.k at.0 c.args.bytes.now s at.1 (returns-clause-pushed g c at.0 at.1) fits

pub returns-clause-shows : goal.returns-clause-shows
returns-clause-shows g c first pushed shows =
    let at = some_at c.args.self.now c.args.k c.requires.in_range in
    rw (
      returns-clause-pushed g c at.0 at.1,
      get_here c.args.self.now c.args.k (with_record at.0 c.args.bytes.now) c.requires.in_range,
    )
    (shows_more at.0 first pushed c.args.bytes.now (shows at.0 at.1))

pub returns-clause-others : goal.returns-clause-others
returns-clause-others g c j ne =
    let at = some_at c.args.self.now c.args.k c.requires.in_range in
    rw (returns-clause-pushed g c at.0 at.1)
    (get_there c.args.self.now c.args.k j (with_record at.0 c.args.bytes.now) ne)

pub offset_bounds-slots-k : goal.offset_bounds-slots-k
offset_bounds-slots-k g c = scaled_Fits _ _ _ c.if-k-slots.false c.as_mut_slice-slots.type_inv.1
