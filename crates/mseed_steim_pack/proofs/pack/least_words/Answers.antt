use Rattle.std.proofs.Common.{◌<◌, ℕ, drop, arith, length, Some}
use Rattle.std.proofs.lemmas.List.{take_rest, take_all, length-drop}
use Rattle.mseed_steim.specs.declared.scheme.Scheme.TheVariants.{Two}
use Rattle.mseed_steim_pack.specs.private.Rows.{IsBestRow}
use Rattle.mseed_steim_pack.proofs.Packs.{least_more, first_large, none_large, refused_least, taken_not_large}
use Rattle.mseed_steim_pack.proofs.Rows.{row_is}
use Rattle.mseed_steim_pack.proofs.Fewest.{is_fewest}
use Rattle.mseed_steim_pack.proofs.pack.least_words.Goals as goal

pub loop-used-preserved : goal.loop-used-preserved
loop-used-preserved c =
    let ds = c.args.diffs.now in
    let used = c.loop-used.used in
    let best : IsBestRow Two (drop used ds) (length (drop used ds)) (Some c.in-Some.row) =
    rw (take_rest ds used) at c.in-Some.ensures.best in
    record {
      inside = omega (arith, best.1, length-drop used ds);
      few = omega (arith, (row_is Two c.in-Some.row.count c.in-Some.row best.0).0.some);
      run = least_more ds used c.loop-used.words c.in-Some.row c.loop-used.invariant.run best;
    }

pub returns-in-None-clause-refused : goal.returns-in-None-clause-refused
returns-in-None-clause-refused c =
    let ds = c.args.diffs.now in
    let used = c.loop-used.used in
    let none = rw (take_rest ds used) at c.in-None.ensures in
    let some : 0 < length (drop used ds) = omega (arith, length-drop used ds) in
    let run = c.loop-used.invariant.run in
    refused_least ℕ ds used (first_large Two run.0 ds used c.loop-used.invariant.inside run.1.1
    (none_large Two (drop used ds) some (none.fits some) none.best))

pub returns-clause-fewest : goal.returns-clause-fewest
returns-clause-fewest c = search (arith, is_fewest, take_all)

pub returns-clause-refused : goal.returns-clause-refused
returns-clause-refused c = search (arith, length-drop, taken_not_large)
