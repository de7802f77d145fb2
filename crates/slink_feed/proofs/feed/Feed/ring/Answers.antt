use Rattle.std.proofs.Common.{ℕ, ◌≡◌, ◌<◌, ◌≤◌, arith, length, List, Option, Some, slice_get}
use Rattle.slink_feed.specs.Window.{Window}
use Rattle.slink_feed.proofs.Items.{one_value}
use Rattle.slink_feed.proofs.Slots.{no_slot, same_length, slot_at}
use Rattle.slink_feed.proofs.feed.Feed.ring.Goals as goal

inside : (items slots : List (Option Window)) (now : List Window) (k : ℕ) → length now ≡ length items → slots ≡ items
    → k < length now → k < length slots
inside items slots now k l s lt = rw s (omega (arith, l, lt))

below : (slots k : ℕ) → k < slots → slots ≤ 16 → k < 16
below slots k lt fits = omega (arith, lt, fits)

pub bounds-as_slice-k : goal.bounds-as_slice-k
bounds-as_slice-k g c = inside c.self.inside.rings.items c.as_slice.result.now c.args.self.now c.args.k
    (same_length c.self.inside.rings.items c.args.self.now c.self.invariant c.self.view_is) c.as_slice.ensures.value
    c.requires

pub offset_bounds-as_slice-k : goal.offset_bounds-as_slice-k
offset_bounds-as_slice-k g c =
    let lt : c.args.k < length c.as_slice.result.now =
    inside c.self.inside.rings.items c.as_slice.result.now c.args.self.now c.args.k
    (same_length c.self.inside.rings.items c.args.self.now c.self.invariant c.self.view_is)
    c.as_slice.ensures.value c.requires in
    omega (arith, lt)

pub unreachable-requires : goal.unreachable-requires
unreachable-requires g c =
    let at : (x : Window) × (c.index-as_slice-k.result ≡ Some x) × (slice_get c.args.self.now c.args.k ≡ Some x) =
    slot_at c.self.inside.rings.items c.as_slice.result.now c.args.self.now c.args.k c.index-as_slice-k.result
    c.self.invariant c.self.view_is c.as_slice.ensures.value c.index-as_slice-k.is c.requires in
    no_slot c.index-as_slice-k.result (at.0, at.1) c.in-None.is

pub returns-clause-ring : goal.returns-clause-ring
returns-clause-ring g c =
    let at : (x : Window) × (c.index-as_slice-k.result ≡ Some x) × (slice_get c.args.self.now c.args.k ≡ Some x) =
    slot_at c.self.inside.rings.items c.as_slice.result.now c.args.self.now c.args.k c.index-as_slice-k.result
    c.self.invariant c.self.view_is c.as_slice.ensures.value c.index-as_slice-k.is c.requires in
    rw (one_value c.index-as_slice-k.result c.in-Some.ring at.0 c.in-Some.is at.1) at.2

pub returns-clause-most : goal.returns-clause-most
returns-clause-most g c =
    below (length c.as_slice.result.now) c.args.k
    (inside c.self.inside.rings.items c.as_slice.result.now c.args.self.now c.args.k
    (same_length c.self.inside.rings.items c.args.self.now c.self.invariant c.self.view_is)
    c.as_slice.ensures.value c.requires)
    c.as_slice.ensures.fits
