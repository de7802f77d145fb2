use Rattle.std.proofs.Common.{ℕ, List, length, ap, eqb, arith}
use Rattle.std.proofs.lemmas.List.Splits.{length-slice_split}
use Rattle.mseed_select.proofs.fields.fields_of.Goals as goal

pub returns-in-Some : goal.returns-in-Some
returns-in-Some c =
    let one = rw c.in_ok-rest.was at c.first_part.ensures in
    let two = rw c.in_ok-rest-2.was at c.first_part-2.ensures in
    let three = rw c.in_ok-rest-3.was at c.first_part-3.ensures in
    let four = rw c.in-Some.is at c.first_part-4.ensures in
    let count = λ (xs : List (List ℕ)). length xs in
    let last = length-slice_split (λ (x : ℕ). eqb x 95) c.in-Some.field-0.now in
    λ few. absurd (omega (arith, few, ap count one, ap count two, ap count three, ap count four, last))
