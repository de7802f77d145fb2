use Rattle.std.proofs.Common.{◌++◌, ◌∙◌, List, ℕ, ap, take_all}
use Rattle.mseed_audit.specs.declared.channel.Channel.{Channel}
use Rattle.mseed_join.specs.Written.{channel_lines}
use Rattle.mseed_join.proofs.Channels.{lines_more}
use Rattle.mseed_join.proofs.text.push_channels.Goals as goal

pub loop-codes-preserved : goal.loop-codes-preserved
loop-codes-preserved g c =
    lines_more c.args.channels.now c.loop-codes.codes-index c.loop-codes-item.result c.args.text.now.items
    c.loop-codes.text.items c.push_channel_line.new.text.items c.loop-codes-test.true c.loop-codes-item.is
    c.loop-codes.invariant c.in_ok-push_channel_line.ensures.ok

pub returns : goal.returns
returns g c =
    c.loop-codes.invariant
    ∙ ap (λ (cs : List (List ℕ × Channel)). c.args.text.now.items ++ channel_lines cs)
    (take_all c.loop-codes.codes-index c.args.channels.now c.loop-codes-test.false)
