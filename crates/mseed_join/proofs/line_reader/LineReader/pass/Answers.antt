use Rattle.std.proofs.Common.{List, ℕ, ◌≡◌, ◌+◌, ◌++◌, subst, take, slice_range}
use Rattle.mseed_join.specs.private.LineReading.{LinesRead}
use Rattle.mseed_join.proofs.LinesAhead.{held_parts}
use Rattle.mseed_join.proofs.line_reader.LineReader.pass.Goals as goal

pub returns-clause-held : goal.returns-clause-held
returns-clause-held g c =
    let i = c.self.inside in
    let rest : List ℕ = slice_range i.buffer.items (i.begin + i.size) i.end in
    subst (λ (r : LinesRead). r.held ≡ take r.size r.held ++ rest) c.self.view_is
    (held_parts i.buffer.items i.begin i.size i.end)
