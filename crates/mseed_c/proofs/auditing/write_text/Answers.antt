use Rattle.std.proofs.Common.{refl}
use Rattle.mseed_audit.specs.Each.{IsEachOutcome, each_text}
use Rattle.mseed_audit.specs.Summary.{IsOutcome, text_of}
use Rattle.mseed_join.specs.AuditPart.{IsPartOutcome}
use Rattle.mseed_join.specs.Written.{part_text}
use Rattle.mseed_c.specs.Audited.{SaysAudit, SaysEach, SaysPart}
use Rattle.mseed_c.proofs.Texts.{reported_by}
use Rattle.mseed_c.proofs.auditing.write_text.Goals as goal

pub returns-in-Audit-clause-reported : goal.returns-in-Audit-clause-reported
returns-in-Audit-clause-reported g c = rw c.in-Audit.is
    (reported_by SaysAudit IsOutcome (λ s (a, w). (text_of a, ((a, (w.0, refl)), w.1.bytes)))
    c.audit.result c.audit.ensures.outcome c.ok.result c.ok.ensures.value)

pub returns-in-Each-clause-reported : goal.returns-in-Each-clause-reported
returns-in-Each-clause-reported g c = rw c.in-Each.is
    (reported_by SaysEach IsEachOutcome (λ s (a, w). (each_text a, ((a, (w.0, refl)), w.1.bytes)))
    c.audit_each.result c.audit_each.ensures.outcome c.ok-in-Each.result c.ok-in-Each.ensures.value)

pub returns-in-Part-clause-reported : goal.returns-in-Part-clause-reported
returns-in-Part-clause-reported g c = rw c.in-Part.is
    (reported_by SaysPart IsPartOutcome (λ s (a, w). (part_text a.written, ((a, (w.0, refl)), w.1.bytes)))
    c.audit_part.result c.audit_part.ensures.outcome c.ok-in-Part.result c.ok-in-Part.ensures.value)
