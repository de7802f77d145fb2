use Rattle.std.proofs.Common.{◌≡◌, ◌*◌, ◌%◌, ◌^◌, refl, arith}
use Rattle.mseed_pack.proofs.Recorded.{lengths_of}
use Rattle.mseed_pack.proofs.record.length_of.Goals as goal

pub returns : goal.returns
returns c =
    let e = c.args.options.now.exponent in
    let l = lengths_of c.args.options.now (2 ^ e) refl in
    let same : 1 * 2 ^ e % 18446744073709551616 ≡ 2 ^ e = omega (arith, l.1) in
    record { value = same; long = omega (arith, l.0); short = omega (arith, l.1); whole = omega (arith, l.2) }
