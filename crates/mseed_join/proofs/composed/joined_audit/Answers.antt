use Rattle.mseed_join.proofs.Cuts.{at_end_by}
use Rattle.mseed_join.proofs.Pieces.{is_part, read_of, says}
use Rattle.mseed_join.proofs.composed.joined_audit.Goals as goal

pub returns-clause-says : goal.returns-clause-says
returns-clause-says c = says c.parts_add_up.ensures c.channels_have_verdicts.ensures c.one_list_of_verdicts.ensures

pub returns-clause-part : goal.returns-clause-part
returns-clause-part c = is_part c.parts_add_up.ensures c.one_part.ensures

pub returns-clause-read : goal.returns-clause-read
returns-clause-read c = read_of

pub returns-clause-at_end : goal.returns-clause-at_end
returns-clause-at_end c = λ h a done. at_end_by a.end a.all.offset h done a.all.ends
