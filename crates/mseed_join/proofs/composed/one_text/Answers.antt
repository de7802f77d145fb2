use Rattle.mseed_join.proofs.OneText.{text_one}
use Rattle.mseed_join.proofs.composed.one_text.Goals as goal

pub returns : goal.returns
returns c = text_one
