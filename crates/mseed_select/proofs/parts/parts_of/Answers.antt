use Rattle.std.proofs.Common.{ℕ, List, length, ap, eqb, arith}
use Rattle.std.proofs.lemmas.List.Splits.{length-slice_split}
use Rattle.mseed_select.proofs.parts.parts_of.Goals as goal

pub returns-in-Some-rest-2 : goal.returns-in-Some-rest-2
returns-in-Some-rest-2 c =
    let one = rw c.in-Some.is at c.first_part.ensures in
    let two = rw c.in-Some-rest.is at c.first_part-2.ensures in
    let three = rw c.in-Some-rest-2.is at c.first_part-3.ensures in
    let count = λ (xs : List (List ℕ)). length xs in
    let last = length-slice_split (λ (x : ℕ). eqb x c.args.separator) c.in-Some-rest-2.field-0.now in
    omega (arith, ap count one, ap count two, ap count three, last)
