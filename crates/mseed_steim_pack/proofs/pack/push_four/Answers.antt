use Rattle.std.proofs.Common.{◌+◌, arith}
use Rattle.std.proofs.lemmas.List.{drop-drop}
use Rattle.mseed_steim_pack.proofs.Coding.{pushed_so_far}
use Rattle.mseed_steim_pack.proofs.pack.push_four.Goals as goal

pub returns : goal.returns
returns c = λ s ds head used low high f are.
    let four = c.args.four.now in
    let three = c.push_three-codes.ensures s ds head used low (omega (arith, high)) f are.three in
    let all = c.push_word.ensures s ds head (used + four.three.count) four.fourth.2 (λ e. omega (arith, e, low, high))
    three (rw drop-drop at are.fourth) in
    pushed_so_far all (omega arith) (omega (arith, are.count))
