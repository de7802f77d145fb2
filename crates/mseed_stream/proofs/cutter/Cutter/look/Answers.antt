use Rattle.std.proofs.Common.{[]}
use Rattle.std.proofs.lemmas.List.{append-nil}
use Rattle.mseed_stream.proofs.cutter.Cutter.look.Goals as goal

pub invariant_of-self : goal.invariant_of-self
invariant_of-self g c =
    let inv = c.self.invariant in
    (inv.0, inv.1, inv.2, inv.3, rw (append-nil, c.deref.ensures.value) at (c.look.ensures.goes_on []))

pub returns-clause-record : goal.returns-clause-record
returns-clause-record g c k e =
    rw (← c.self.view_is) (rw c.deref.ensures.value at (c.look.ensures.record k e))
