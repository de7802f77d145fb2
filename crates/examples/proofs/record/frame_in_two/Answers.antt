use Rattle.std.proofs.Common.{ℕ, List, drop, subst}
use Rattle.std.proofs.lemmas.List.{take-append-drop}
use Rattle.mseed_record.specs.Framer.{IsFramerOf}
use Rattle.examples.proofs.record.frame_in_two.Goals as goal

-- All bytes are the first ones and those after them.
pub look-requires-in-Need : goal.look-requires-in-Need
look-requires-in-Need c =
    let first = c.args.first in
    let bytes = c.args.bytes.now in
    subst (λ (b : List ℕ). IsFramerOf c.look.new.self b) (take-append-drop first bytes)
    (c.look.ensures.goes_on (drop first bytes))
