use Rattle.std.proofs.Common.{◌++◌, ◌∙◌, List, ℕ, ap, map, take_all}
use Rattle.mseed_audit.specs.Text.{verdict_lines}
use Rattle.mseed_audit.specs.declared.channel.Channel.{Channel}
use Rattle.mseed_join.specs.Joined.{verdict_at}
use Rattle.mseed_join.proofs.Verdicts.{verdicts_more}
use Rattle.mseed_join.proofs.text.push_verdicts.Goals as goal

pub loop-codes-preserved : goal.loop-codes-preserved
loop-codes-preserved g c =
    verdicts_more c.args.channels.now c.loop-codes.codes-index c.loop-codes-item.result c.verdict.result
    c.args.text.now.items c.loop-codes.text.items c.push_verdict_line.new.text.items c.loop-codes-test.true
    c.loop-codes-item.is c.verdict.ensures c.loop-codes.invariant c.in_ok-push_verdict_line.ensures.ok

pub returns : goal.returns
returns g c =
    c.loop-codes.invariant
    ∙ ap (λ (cs : List (List ℕ × Channel)). c.args.text.now.items ++ verdict_lines (map verdict_at cs))
    (take_all c.loop-codes.codes-index c.args.channels.now c.loop-codes-test.false)
