use Rattle.std.proofs.Common.{ap, refl, Err, Option, ◌∙◌}
use Rattle.mseed_audit.specs.Audit.{head_in}
use Rattle.mseed_audit.specs.declared.finding.Finding.{Finding}
use Rattle.mseed_join.specs.Borders.{border_at}
use Rattle.mseed_join.specs.declared.part.PartFault.{PartFault}
use Rattle.mseed_join.specs.Lines.{channel}
use Rattle.mseed_join.proofs.Onward.{onward}
use Rattle.mseed_join.proofs.Steps.{channel_added, channel_refused, line_skipped}
use Rattle.mseed_join.proofs.joint.Joint.take_channel.Goals as goal

pub returns-in-Some-clause-step : goal.returns-in-Some-clause-step
returns-in-Some-clause-step g c =
    line_skipped c.args.self.now _ c.in-Some.is _ (channel c.args.codes c.args.channel.now) tt refl

pub returns-in-Ok-clause-step : goal.returns-in-Ok-clause-step
returns-in-Ok-clause-step g c = λ lines s r l m.
    channel_added c.args.self.now c.in_default.is _ c.reported_of.result c.reported_of.ensures.passed c.args.codes
    c.args.channel.now
    (c.reported_of.ensures.border
    ∙ ap (λ (o : Option Finding). border_at c.args.codes (head_in c.args.channel.now.findings) o)
    c.in-Ok.ensures.border)
    c.in-Ok.ensures.joined c.in-Ok.ensures.fits refl refl s.over s.last lines r l (onward s.last _ m)

pub returns-in-Err-Limit-clause-step : goal.returns-in-Err-Limit-clause-step
returns-in-Err-Limit-clause-step g c = λ lines s r l m.
    channel_refused c.args.self.now c.in_default.is c.args.codes c.args.channel.now
    (c.in-Err-Limit.ensures.limit (ap (λ (e : PartFault). Err e) c.in-Err-Limit.field-0-is))
    s.over s.last lines r l (onward s.last _ m)
