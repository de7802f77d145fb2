use Rattle.std.proofs.Common.{◌+◌, arith}
use Rattle.std.proofs.lemmas.List.{drop-drop}
use Rattle.mseed_steim_pack.proofs.Coding.{pushed_so_far}
use Rattle.mseed_steim_pack.proofs.pack.push_three.Goals as goal

pub returns : goal.returns
returns c = λ s ds head used low high f are.
    let three = c.args.three.now in
    let a = three.first.2 in
    let b = three.second.2 in
    let one = c.push_word-codes.ensures s ds head used a (λ e. omega (arith, e, low)) f are.first in
    let two = c.push_word-codes-2.ensures s ds head (used + a) b (λ e. omega (arith, e, low, high)) one
    (rw drop-drop at are.second) in
    let all = c.push_word.ensures s ds head (used + (a + b)) three.third.2 (λ e. omega (arith, e, low, high))
    (pushed_so_far two (omega arith) (omega arith)) (rw drop-drop at are.third) in
    pushed_so_far all (omega arith) (omega (arith, are.count))
