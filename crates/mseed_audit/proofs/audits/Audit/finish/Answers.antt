use Rattle.std.proofs.Common.{length}
use Rattle.mseed_audit.specs.Channels.{numbered}
use Rattle.mseed_audit.proofs.ChannelState.{finished}
use Rattle.mseed_audit.proofs.audits.Audit.finish.Goals as goal

pub returns-clause-among : goal.returns-clause-among
returns-clause-among g c = λ ps count h.
    finished c.continuous_exactly.ensures _ ps count c.into_verdicts.result.items c.into_verdicts.ensures.ascending
    c.into_verdicts.ensures.each (rw (← c.self.view_is) at h)

pub returns-clause-verdicts : goal.returns-clause-verdicts
returns-clause-verdicts g c = λ added h. returns-clause-among g c (numbered 1 added) (length added) h
