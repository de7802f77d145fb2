use Rattle.std.proofs.Common.{◌≡◌, ◌+ℤ◌, arith}
use Rattle.std.proofs.lemmas.Int.{ints, to_z-of_z}
use Rattle.mseed_time.proofs.btime.Btime.micros.Goals as goal

pub returns : goal.returns
returns c =
    let sum : c.within.result ≡ c.whole.result +ℤ c.shift.result +ℤ c.args.microseconds = omega (arith, ints) in
    let shift = rw (to_z-of_z _ c.args.correction c.ranges.correction) at c.shift.ensures.value in
    rw (c.whole.ensures.value, shift) at sum
