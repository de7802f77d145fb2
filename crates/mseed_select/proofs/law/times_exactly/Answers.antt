use Rattle.mseed_select.proofs.Times.{shown_back, word_back, word_is_text}
use Rattle.mseed_select.proofs.law.times_exactly.Goals as goal

pub returns-clause-words : goal.returns-clause-words
returns-clause-words c = λ word instant. (word_is_text word instant, word_back word instant)

pub returns-clause-shown : goal.returns-clause-shown
returns-clause-shown c = λ instant low high. shown_back instant low high
