use Rattle.std.proofs.Common.{◌≤◌, ◌^◌, List, [], ◌∷◌, ◌++◌, subst, sym}
use Rattle.std.specs.List.{AllByRecursion}
use Rattle.slink_feed.specs.Window.{Window}
use Rattle.slink_tests.proofs.live.orders.add.Goals as goal

abbrev CanNumber : List Window → Type 0
CanNumber feed = AllByRecursion (λ w. w.next ≤ 2 ^ 62) feed

all_more : (feed : List Window) (w : Window) → CanNumber feed → w.next ≤ 2 ^ 62 → CanNumber (feed ++ w ∷ [])
all_more [] w each here = (here, tt)
all_more (v ∷ vs) w each here = (each.0, all_more vs w each.1 here)

pub returns : goal.returns
returns g c =
    subst CanNumber (sym c.in-Ok.ensures.ok) (all_more c.args.feed.now c.args.ring c.requires.all c.requires.few)
