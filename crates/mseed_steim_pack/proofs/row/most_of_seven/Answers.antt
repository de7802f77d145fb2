use Rattle.std.proofs.Common.{arith, get_or, pos, rules, w32, FitsSigned}
use Rattle.std.proofs.lemmas.Int.{to_z-of_z}
use Rattle.mseed_steim_pack.specs.private.Rows.{row_for}
use Rattle.mseed_steim_pack.proofs.Fullest.{best_extends, wide_alone}
use Rattle.mseed_steim_pack.proofs.row.most_of_seven.Goals as goal

pub returns-then-is_wide-clause-best : goal.returns-then-is_wide-clause-best
returns-then-is_wide-clause-best c =
    let s = c.args.scheme in
    let ds = c.args.diffs.now in
    let fits : FitsSigned w32 (get_or ds 0 (pos 0)) = search rules in
    let wide = rw (to_z-of_z w32 (get_or ds 0 (pos 0)) fits) at (c.is_wide.ensures.0 c.if-is_wide.true) in
    best_extends s ds 1 7 (row_for s c.most_held.result) (omega arith)
    (λ k over low. wide_alone s ds wide k over (omega (arith, low, c.requires))) c.most_held.ensures.best
