use Rattle.mseed_audit.proofs.OneReport.{channel_count, channel_findings, lines_prefix}
use Rattle.mseed_audit.proofs.law.findings_reported.Goals as goal

pub returns-clause-channel : goal.returns-clause-channel
returns-clause-channel c = channel_findings

pub returns-clause-count : goal.returns-clause-count
returns-clause-count c = channel_count c.one_fault.ensures.one c.one_fault.ensures.excludes

pub returns-clause-prefix : goal.returns-clause-prefix
returns-clause-prefix c = lines_prefix c.one_fault.ensures.one c.one_fault.ensures.excludes
