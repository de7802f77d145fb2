use Rattle.std.proofs.Common.{◌≡◌, ℕ, ◌+◌, ◌-◌, ◌<◌, ◌≤◌, ◌^◌, ◌∙◌, List, [], ◌∷◌, ◌++◌, ap, arith, length}
use Rattle.std.proofs.Common.{length-append, length-drop, subst, sym}
use Rattle.circular_buffer.specs.Buffer.{Buffer, buffer, keep_last}
use Rattle.slink_feed.specs.Window.{Window, with_record}
use Rattle.slink_feed.proofs.Items.{shows_more}
use Rattle.slink_feed.proofs.ring.Ring.push.Goals as goal

-- what a ring keeps, once it took one item more
kept_last : {X : Type 0} (items : List X) (x : X) (capacity next : ℕ) (new : Buffer X) → 0 < capacity
    → capacity ≤ 1000000 → length items ≤ capacity → length items ≤ next → next < 2 ^ 63
    → new ≡ buffer (keep_last capacity (items ++ x ∷ [])) capacity
    → (0 < new.capacity) × (new.capacity ≤ 1000000) × (length new.items ≤ new.capacity)
    × (length new.items ≤ next + 1) × (next + 1 ≤ 2 ^ 63)
kept_last {X} items x capacity next new some most within few room is =
    let long = length-append items (x ∷ []) in
    let left = length-drop (length (items ++ x ∷ []) - capacity) (items ++ x ∷ []) in
    let same = ap (λ (b : Buffer X). b.capacity) is in
    let size = ap (λ (b : Buffer X). length b.items) is in (
      omega (arith, some, same),
      omega (arith, most, same),
      omega (arith, size, left, long, same),
      omega (arith, size, left, long, few, within),
      omega (arith, room),
    )

pub returns-clause-window : goal.returns-clause-window
returns-clause-window g c =
    ap (λ b. record {
      place = c.self.inside.place;
      capacity = b.capacity;
      records = b.items;
      next = c.self.inside.next + 1;
    }) c.push_back.ensures.items
    ∙ ap (λ (w : Window). with_record w c.args.bytes.now) c.self.view_is

pub returns-clause-shows : goal.returns-clause-shows
returns-clause-shows g c first pushed shows =
    rw (← (returns-clause-window g c)) at (shows_more c.args.self.now first pushed c.args.bytes.now shows)

pub invariant_of-self : goal.invariant_of-self
invariant_of-self g c =
    let inside = c.self.inside in
    let all = c.self.invariant in
    kept_last inside.records.items c.args.bytes.now inside.records.capacity inside.next _ all.0 all.1 all.2 all.3
    (subst (λ (w : Window). w.next < 2 ^ 63) (sym c.self.view_is) c.requires.room) c.push_back.ensures.items
