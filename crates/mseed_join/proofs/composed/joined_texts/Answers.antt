use Rattle.mseed_join.proofs.Together.{never_bad, parts_read, says_read, spelled}
use Rattle.mseed_join.proofs.composed.joined_texts.Goals as goal

pub returns-clause-spells : goal.returns-clause-spells
returns-clause-spells c = spelled c.part_reads_back.ensures

pub returns-clause-never_bad : goal.returns-clause-never_bad
returns-clause-never_bad c = never_bad c.part_reads_back.ensures c.no_bad_line.ensures c.parts_can_be_joined.ensures

pub returns-clause-says : goal.returns-clause-says
returns-clause-says c = says_read c.part_reads_back.ensures c.one_text.ensures c.joined_audit.ensures.says

pub returns-clause-parts : goal.returns-clause-parts
returns-clause-parts c = parts_read c.part_reads_back.ensures c.one_text.ensures
