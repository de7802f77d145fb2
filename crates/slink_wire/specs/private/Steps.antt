-- How bytes are taken one by one.
use Rattle.std.specs.Prelude.{ℕ, List, ◌++◌}
use Rattle.slink_wire.specs.declared.lines.LineOutcome.{LineOutcome}
use Rattle.slink_wire.specs.Lines.{Held, IsHeld}
use Rattle.slink_wire.specs.Taking.{Yields}

-- from any stream of which the one is held, these bytes lead to the other, and yield this
abbrev pub Leads : Held → List ℕ → Held → LineOutcome → Type 0
Leads old bytes new what = (stream : List ℕ) → IsHeld old stream
    → IsHeld new (stream ++ bytes) × Yields what stream (stream ++ bytes)
