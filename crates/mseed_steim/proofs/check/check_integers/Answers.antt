use Rattle.std.proofs.Common.{◌≤◌, ◌/◌, rules, w32, FitsSigned, length}
use Rattle.std.proofs.lemmas.Int.{to_z-of_z}
use Rattle.mseed_steim.specs.Samples.{bytes_of}
use Rattle.mseed_steim.proofs.Integers.{integers_checked, whole_count}
use Rattle.mseed_steim.proofs.check.check_integers.Goals as goal

pub returns : goal.returns
returns c =
    let first_fits : FitsSigned w32 c.integer_at.result = search rules in
    let last_fits : FitsSigned w32 c.integer_at-2.result = search rules in
    let enough : c.args.samples ≤ length c.args.payload.now / bytes_of c.args.width =
    rw c.bytes.ensures.value at c.if-found-samples.false in
    let last = rw c.bytes-2.ensures.value at c.integer_at-2.ensures in
    integers_checked c.args.order c.args.width c.args.payload.now c.args.samples _ c.requires
    (λ i. (c.type_inv.payload i).fits) (whole_count c.args.width c.args.samples (length c.args.payload.now) enough)
    (rw to_z-of_z c.integer_at.ensures) (rw to_z-of_z last)
