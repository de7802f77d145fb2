use Rattle.mseed_join.proofs.Apart.{border_text, each_says, parted_of_reported, reported_text}
use Rattle.mseed_join.proofs.composed.joined_each.Goals as goal

pub returns : goal.returns
returns c = record {
  says = each_says c.one_report.ensures.reported c.parts_add_up.ensures c.findings_add_up.ensures.merged
      c.channels_have_verdicts.ensures c.one_list_of_verdicts.ensures;
  parted = parted_of_reported;
  records = reported_text;
  borders = border_text;
}
