use Rattle.std.proofs.Common.{◌≡◌, ◌≤◌, ◌∙◌, ap, arith, false, None, Ok, ℕ}
use Rattle.mseed_files.proofs.Held.{chain_off, chain_on, none_of, same_count}
use Rattle.mseed_files.proofs.chain.Chain.fill.Goals as goal

pub invariant_of-self-in-Ok : goal.invariant_of-self-in-Ok
invariant_of-self-in-Ok g c =
    let i = c.self.inside in
    let goes_on : i.is_at_end ≡ false = rw (← c.self.view_is) at c.requires.goes_on in
    let none : i.reader.failed ≡ None = none_of i.reader.failed c.failed.ensures c.if-is_some.ensures in
    let within : c.in-Ok.n ≤ i.buffer.len =
    omega (arith, c.in-Ok.ensures.bound.0, c.read.auto.buf, c.deref_mut.ensures.len) in (
      c.self.invariant.0,
      omega arith,
      within,
      chain_on _ goes_on (c.in-Ok.ensures.goes_on.fine ∙ none) (c.self.invariant.3.fine none),
    )

pub invariant_of-self-in-Err : goal.invariant_of-self-in-Err
invariant_of-self-in-Err g c =
    let i = c.self.inside in
    let goes_on : i.is_at_end ≡ false = rw (← c.self.view_is) at c.requires.goes_on in (
      c.self.invariant.0,
      omega arith,
      omega arith,
      chain_off _ i.reads.failures goes_on c.in-Err.ensures.goes_on.failed c.record-in-Err.ensures.failures,
    )

pub returns-in-Ok-clause-ended : goal.returns-in-Ok-clause-ended
returns-in-Ok-clause-ended g c = λ same.
    c.in-Ok.ensures.end (ap (λ (n : ℕ). Ok n) (same_count c.in-Ok.n 0 same))
    (omega (arith, c.self.invariant.0, c.read.auto.buf, c.deref_mut.ensures.len))
