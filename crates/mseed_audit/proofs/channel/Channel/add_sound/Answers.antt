use Rattle.std.proofs.Common.{◌∙◌}
use Rattle.mseed_audit.specs.declared.channel.Judged.TheVariants.{Sound}
use Rattle.mseed_audit.proofs.ChannelState.{takes_in}
use Rattle.mseed_audit.proofs.channel.Channel.add_sound.Goals as goal

pub returns-clause-takes : goal.returns-clause-takes
returns-clause-takes c = λ offset number.
    takes_in _ _ (Sound c.in_ok-end.end) c.from.result _ c.in_ok-end.ensures.sound c.in_ok-end.ensures.tail
    (c.from.ensures ∙ c.in_ok-end.ensures.tail.samples) c.end_with.ensures
