use Rattle.std.proofs.Common.{sym, ◌∙◌}
use Rattle.mseed_join.proofs.FirstBad.{of_channel, of_counts}
use Rattle.mseed_join.proofs.bad_field.first_bad_field.Goals as goal

pub returns-then-starts_with : goal.returns-then-starts_with
returns-then-starts_with c =
    of_counts c.args.line.now c.bad_in_counts.result (sym c.starts_with.ensures.value ∙ c.if-starts_with.true)
    c.bad_in_counts.ensures c.requires.no_counts

pub returns-else-starts_with : goal.returns-else-starts_with
returns-else-starts_with c =
    of_channel c.args.line.now c.bad_in_channel.result (sym c.starts_with.ensures.value ∙ c.if-starts_with.false)
    c.bad_in_channel.ensures c.requires.no_channel
