use Rattle.std.proofs.Common.{◌≡◌, ◌∙◌, arith, get_or, length, of_z, pos, rules, sym, to_z, w32}
use Rattle.std.proofs.Common.{FitsSigned}
use Rattle.std.proofs.lemmas.Int.{to_z-of_z}
use Rattle.mseed_steim_pack.specs.private.Wrapped.{wrapped_from}
use Rattle.mseed_steim_pack.proofs.Firsts.{first_found}
use Rattle.mseed_steim_pack.proofs.Fullest.{none_after_seven, wide_alone}
use Rattle.mseed_steim_pack.proofs.Wrapped.{wrapped_at, wrapped_bits, wrapped_length}
use Rattle.mseed_steim_pack.proofs.pack.pack_sampled.Goals as goal

pub returns-then-is_wide-clause-fullest : goal.returns-then-is_wide-clause-fullest
returns-then-is_wide-clause-fullest c =
    let s = c.args.scheme in
    let before = c.args.before in
    let xs = c.args.samples.now in
    let ds = wrapped_from before xs in
    let x = get_or xs 0 (pos 0) in
    let fits : FitsSigned w32 x = search rules in
    let same : to_z w32 (of_z w32 before) ≡ before = to_z-of_z w32 before c.ranges.before in
    let first = wrapped_bits x before fits c.ranges.before ∙ sym (wrapped_at before xs 0 c.requires) in
    let wide = rw first at (c.is_wide.ensures.0 c.if-is_wide.true) in
    first_found s before xs 1 c.pack_first.result (omega (arith, c.requires))
    (rw (wrapped_length before xs) at (wide_alone s ds wide)) (rw same at c.pack_first.ensures.fullest)

pub returns-then-samples-lt-MOST-clause-fullest : goal.returns-then-samples-lt-MOST-clause-fullest
returns-then-samples-lt-MOST-clause-fullest c =
    let xs = c.args.samples.now in
    first_found c.args.scheme c.args.before xs (length xs) c.pack_first-then-samples-lt-MOST.result (omega arith)
    (λ k over low. omega (arith, over, low))
    (rw (to_z-of_z w32 c.args.before c.ranges.before) at c.pack_first-then-samples-lt-MOST.ensures.fullest)

pub returns-else-samples-lt-MOST-clause-fullest : goal.returns-else-samples-lt-MOST-clause-fullest
returns-else-samples-lt-MOST-clause-fullest c =
    let xs = c.args.samples.now in
    first_found c.args.scheme c.args.before xs 7 c.pack_first-else-samples-lt-MOST.result
    (omega (arith, c.if-samples-lt-MOST.false))
    (rw (wrapped_length c.args.before xs) at (none_after_seven c.args.scheme (wrapped_from c.args.before xs)))
    (rw (to_z-of_z w32 c.args.before c.ranges.before) at c.pack_first-else-samples-lt-MOST.ensures.fullest)

pub returns-else-samples-lt-MOST-clause-refused : goal.returns-else-samples-lt-MOST-clause-refused
returns-else-samples-lt-MOST-clause-refused c = search (arith, to_z-of_z)
