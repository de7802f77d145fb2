use Rattle.std.proofs.Common.{◌≤◌, List, ℕ, take, slice_range, length, subst, sym}
use Rattle.std.specs.Io.KnownBytes.{Consumes, prepend_known}
use Rattle.mseed_files.specs.ReaderState.{remaining_of}
use Rattle.mseed_files.proofs.Held.{held_rest, held_within, left_rest}
use Rattle.mseed_files.proofs.chain.ChainSource.consume.Goals as goal

pub returns-clause-rest : goal.returns-clause-rest
returns-clause-rest g c =
    let i = c.self.inside in
    let few : c.args.amount ≤ length (slice_range i.buffer.items i.begin i.end) =
    rw (← c.self.view_is) at c.requires in
    rw (← c.self.view_is) (held_rest i.buffer.items i.begin i.end c.args.amount
    (held_within i.buffer.items i.begin i.end c.args.amount c.self.invariant.1 few))

pub returns-clause-known : goal.returns-clause-known
returns-clause-known g c =
    let i = c.self.inside in
    let held : List ℕ = slice_range i.buffer.items i.begin i.end in
    let few : c.args.amount ≤ length held = rw (← c.self.view_is) at c.requires in
    let rest = held_rest i.buffer.items i.begin i.end c.args.amount
    (held_within i.buffer.items i.begin i.end c.args.amount c.self.invariant.1 few) in
    rw (← c.self.view_is) (subst (λ (now : List ℕ). Consumes (prepend_known held (remaining_of i.reader))
    (prepend_known now (remaining_of i.reader)) (take c.args.amount held)) (sym rest)
    (left_rest held (remaining_of i.reader) c.args.amount))
