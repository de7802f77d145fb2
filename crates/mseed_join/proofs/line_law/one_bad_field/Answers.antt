use Rattle.mseed_join.proofs.FirstBad.{bad_field_one}
use Rattle.mseed_join.proofs.line_law.one_bad_field.Goals as goal

pub returns : goal.returns
returns c = bad_field_one
