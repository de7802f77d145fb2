use Rattle.mseed_join.proofs.FirstReason.{after_counts, bad_word_first, first_word, last_differs_then}
use Rattle.mseed_join.proofs.reasons.read_fault_at.Goals as goal

pub returns-in-Some : goal.returns-in-Some
returns-in-Some c = first_word c.args.bytes.now c.in-Some.rest.now c.in-Some.ensures

pub returns-in-Some-bad_word_at : goal.returns-in-Some-bad_word_at
returns-in-Some-bad_word_at c =
    bad_word_first c.args.bytes.now (c.in-Some-bad_word_at.fault.0, c.in-Some-bad_word_at.fault.1.now)
    (after_counts c.args.bytes.now c.in_default.ensures c.in_default-after.ensures c.in_default-after-2.ensures
    c.in_default-number_after.ensures.value c.in_default-number_after-2.ensures.value
    c.in_default-number_after-3.ensures.value) c.in-Some-bad_word_at.ensures

pub returns-in-None : goal.returns-in-None
returns-in-None c =
    last_differs_then c.args.bytes.now _
    (after_counts c.args.bytes.now c.in_default.ensures c.in_default-after.ensures c.in_default-after-2.ensures
    c.in_default-number_after.ensures.value c.in_default-number_after-2.ensures.value
    c.in_default-number_after-3.ensures.value) c.in-None.ensures c.last_differs_at.ensures
