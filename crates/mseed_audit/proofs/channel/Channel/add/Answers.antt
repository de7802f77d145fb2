use Rattle.std.proofs.Common.{◌∙◌}
use Rattle.mseed_audit.specs.declared.channel.Judged.TheVariants.{Sound, Faulty}
use Rattle.mseed_audit.proofs.ChannelState.{takes_in}
use Rattle.mseed_audit.proofs.channel.Channel.add.Goals as goal

pub returns-in-Sound-clause-takes : goal.returns-in-Sound-clause-takes
returns-in-Sound-clause-takes c =
    takes_in _ _ (Sound c.in-Sound.tail) c.from.result _ (rw c.tail.ensures at c.in-Sound.ensures.why)
    c.in-Sound.ensures.tail (c.from.ensures ∙ c.samples.ensures) c.end_with.ensures

pub returns-in-Faulty-clause-takes : goal.returns-in-Faulty-clause-takes
returns-in-Faulty-clause-takes c =
    takes_in _ _ (Faulty c.in-Faulty.why c.in-Faulty.tail) c.from.result _
    (rw c.tail.ensures at c.in-Faulty.ensures.why) c.in-Faulty.ensures.tail (c.from.ensures ∙ c.samples.ensures)
    c.with_finding-self.ensures
