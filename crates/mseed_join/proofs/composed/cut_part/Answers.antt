use Rattle.mseed_join.proofs.CutParts.{cut_is, cut_text}
use Rattle.mseed_join.proofs.composed.cut_part.Goals as goal

pub returns-clause-part : goal.returns-clause-part
returns-clause-part c = cut_is c.one_part.ensures

pub returns-clause-text : goal.returns-clause-text
returns-clause-text c = cut_text
