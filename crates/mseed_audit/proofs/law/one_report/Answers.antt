use Rattle.std.proofs.Common.{[]}
use Rattle.mseed_audit.specs.Channels.{numbered}
use Rattle.mseed_audit.specs.Scope.{whole}
use Rattle.mseed_audit.proofs.OneReport.{reported_one}
use Rattle.mseed_audit.proofs.OneAudit.{each_one}
use Rattle.mseed_audit.proofs.law.one_report.Goals as goal

pub returns-clause-reported : goal.returns-clause-reported
returns-clause-reported c = λ added. reported_one c.one_fault.ensures.one c.one_fault.ensures.excludes []
    (numbered 1 added)

pub returns-clause-text : goal.returns-clause-text
returns-clause-text c =
    each_one c.one_fault.ensures.one c.one_fault.ensures.excludes c.one_input.ensures.input whole
