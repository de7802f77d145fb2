use Rattle.mseed_words.proofs.Digits.{counted_none, counted_some}
use Rattle.mseed_words.proofs.numbers.counted_in.Goals as goal

pub returns-in-Ok-clause-value : goal.returns-in-Ok-clause-value
returns-in-Ok-clause-value c =
    counted_some c.args.most c.in-Ok.number c.args.text.now c.in-Ok.ensures.value.0.0 c.in-Ok.ensures.value.0.1
    c.if-number-ge1.true c.if-number-most.true

pub returns-in_default-3-clause-value : goal.returns-in_default-3-clause-value
returns-in_default-3-clause-value c =
    counted_none c.args.most c.args.text.now c.ranges.most.fits c.in_default.ensures.value.0
