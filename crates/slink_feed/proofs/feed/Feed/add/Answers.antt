use Rattle.std.proofs.Common.{ℕ, ◌≡◌, ◌≢◌, ◌≤◌, ◌<◌, refl, arith, length}
use Rattle.slink_feed.proofs.Slots.{same_length, filled_more}
use Rattle.slink_feed.proofs.feed.Feed.add.Goals as goal

pub invariant_of-self : goal.invariant_of-self
invariant_of-self g c =
    rw c.push.ensures.items (filled_more c.self.inside.rings.items c.args.ring c.self.invariant).0

pub returns-clause-ok : goal.returns-clause-ok
returns-clause-ok g c =
    rw (c.push.ensures.items, ← c.self.view_is)
    (filled_more c.self.inside.rings.items c.args.ring c.self.invariant).1

below : (items now n : ℕ) → now ≡ items → n ≡ items → n ≤ 16 → n ≢ 16 → now < 16
below items now n a b fits other = omega (arith, a, b, fits, other)

pub returns-then-has-clause-fault : goal.returns-then-has-clause-fault
returns-then-has-clause-fault g c = (
  below (length c.self.inside.rings.items) (length c.args.self.now) c.len.result
      (same_length c.self.inside.rings.items c.args.self.now c.self.invariant c.self.view_is) c.len.ensures.value
      c.len.ensures.fits c.if-len-eq-STATIONS.false,
  rw c.place.ensures at c.if-has.ensures.yes,
  refl,
)

pub returns-clause-taken : goal.returns-clause-taken
returns-clause-taken g c = (
  below (length c.self.inside.rings.items) (length c.args.self.now) c.len.result
      (same_length c.self.inside.rings.items c.args.self.now c.self.invariant c.self.view_is) c.len.ensures.value
      c.len.ensures.fits c.if-len-eq-STATIONS.false,
  rw c.place.ensures at c.if-has.ensures.no,
)
