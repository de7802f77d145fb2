use Rattle.std.proofs.Common.{refl}
use Rattle.mseed_audit.proofs.More.{audit_more}
use Rattle.mseed_audit.proofs.audits.Audit.add_found.Goals as goal

pub invariant_of-self-2 : goal.invariant_of-self-2
invariant_of-self-2 g c = c.in_ok-why.ensures.adds.bounded c.self.inside.added c.self.invariant

pub returns : goal.returns
returns g c =
    rw (← c.self.view_is) (audit_more _ _ _ _ _ c.in_ok-why.ensures.adds refl)
