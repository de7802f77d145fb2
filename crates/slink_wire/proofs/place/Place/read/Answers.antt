use Rattle.std.proofs.Common.{◌≡◌}
use Rattle.std.specs.Prelude.{IsOkAnd}
use Rattle.slink_wire.specs.Place.{Fields, SpellsPlace}
use Rattle.slink_wire.proofs.Codes.{all_spelled, none_spelled}
use Rattle.slink_wire.proofs.place.Place.read.Goals as goal
use Rattle.slink_wire.proofs.place.Place.read.Goals.{After-new}

only : (c : After-new) → (p : Fields) → SpellsPlace c.args.text.now p → IsOkAnd c.new.result (λ q. q ≡ p)
only c = all_spelled c.new.result c.args.text.now c.in-Some.sta.now c.in-Some.net.now c.in-Some.ensures.0
    c.in-Some.ensures.1 c.new.ensures.accepted.1 c.new.ensures.value

pub returns-clause-only : goal.returns-clause-only
returns-clause-only c = only (goal.at.returns-clause-only c).After-new

pub returns-clause-refused : goal.returns-clause-refused
returns-clause-refused c = none_spelled c.new.result c.args.text.now (only (goal.at.returns-clause-refused c).After-new)
