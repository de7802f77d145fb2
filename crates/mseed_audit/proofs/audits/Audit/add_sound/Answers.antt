use Rattle.std.proofs.Common.{◌+◌, refl}
use Rattle.mseed_audit.proofs.More.{audit_more}
use Rattle.mseed_audit.proofs.audits.Audit.add_sound.Goals as goal

pub invariant_of-self-2 : goal.invariant_of-self-2
invariant_of-self-2 g c = (c.in_ok-add_sound.ensures.adds 0 0).bounded c.self.inside.added c.self.invariant

pub returns-clause-added : goal.returns-clause-added
returns-clause-added g c = λ offset.
    rw (← c.self.view_is)
    (audit_more _ _ _ _ _ (c.in_ok-add_sound.ensures.adds offset (c.self.inside.added + 1)) refl)
