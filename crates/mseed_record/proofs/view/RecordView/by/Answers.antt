use Rattle.std.proofs.Common.{arith, ap, ◌∙◌, w8, FitsSigned, rules, Option, ℕ}
use Rattle.std.proofs.lemmas.Int.{to_z-of_z}
use Rattle.mseed_record.specs.View.{microseconds_at}
use Rattle.mseed_record.proofs.Passing.{record_room}
use Rattle.mseed_record.proofs.view.RecordView.by.Goals as goal

pub invariant_of-result-clause-has_header : goal.invariant_of-result-clause-has_header
invariant_of-result-clause-has_header c = omega (arith, record_room _ _ _ _ c.requires.1)

pub invariant_of-result-clause-is_view : goal.invariant_of-result-clause-is_view
invariant_of-result-clause-is_view c =
    let found = c.blockettes_of-found.ensures.found c.requires.0 c.args.first_1000 c.requires.1 in
    let fits : FitsSigned w8 c.microseconds_at.result = search rules in
    let timed = to_z-of_z w8 c.microseconds_at.result fits ∙ c.microseconds_at.ensures
    ∙ ap (λ (m : Option ℕ). microseconds_at c.args.bytes.now m) found.1.1.first_1001 in
    let words = c.word_order_at.ensures in
    ∣ (c.requires.0, (c.args.first_1000, (found.0, assumption (c.requires.1, found.1, words, timed)))) ∣₁
