use Rattle.std.proofs.Common.{◌≡◌, ◌<◌, ◌^◌, arith, Some}
use Rattle.mseed_steim.specs.private.Digits.{differences_of}
use Rattle.mseed_steim.proofs.Spelled.{differences_spelled, spelled_differences}
use Rattle.mseed_steim.proofs.word.unpack_word.Goals.{After-differences_in}
use Rattle.mseed_steim.proofs.word.unpack_word.Goals as goal

found : (c : After-differences_in)
    → differences_of c.args.scheme c.args.code c.args.word ≡ Some c.differences_in.result.items
found c = rw c.differences_in.ensures c.in-Some.ensures

pub returns-in-Some-clause-spelled : goal.returns-in-Some-clause-spelled
returns-in-Some-clause-spelled c = search (arith, differences_spelled, found)

pub returns-in-Some-clause-only : goal.returns-in-Some-clause-only
returns-in-Some-clause-only c = λ ds p.
    let small : c.args.word < 2 ^ 32 = omega arith in
    let one = found (goal.at.returns-in-Some-clause-only c).After-differences_in in
    cc (spelled_differences c.args.scheme c.args.code c.args.word ds small p)

pub returns-in-None-clause-only : goal.returns-in-None-clause-only
returns-in-None-clause-only c = λ ds p.
    let small : c.args.word < 2 ^ 32 = omega arith in
    cc (c.in-None.ensures, spelled_differences c.args.scheme c.args.code c.args.word ds small p)

pub returns-in-None-clause-bad : goal.returns-in-None-clause-bad
returns-in-None-clause-bad c = λ ds p.
    let small : c.args.word < 2 ^ 32 = omega arith in
    cc (c.in-None.ensures, spelled_differences c.args.scheme c.args.code c.args.word ds small p)
