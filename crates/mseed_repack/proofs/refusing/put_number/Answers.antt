use Rattle.std.proofs.Common.{ap, arith, length, length-append, ℕ}
use Rattle.std.proofs.lemmas.Fmt.{decimal_digit}
use Rattle.mseed_repack.proofs.refusing.put_number.Goals as goal

pub returns-clause-most : goal.returns-clause-most
returns-clause-most c =
    let digit = ap length (decimal_digit c.misfit_number.result (omega (arith, c.misfit_number.ensures.bound))) in
    omega (arith, ap length c.put_count.ensures.text, length-append {A = ℕ}, digit)
