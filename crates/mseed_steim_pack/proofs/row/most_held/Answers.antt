use Rattle.std.proofs.Common.{refl, ◌≡◌, ◌<◌, ◌+◌, arith, length, get_or, pos, rules, w32, FitsSigned}
use Rattle.std.proofs.lemmas.Int.{to_z-of_z}
use Rattle.mseed_steim_pack.proofs.Bits.{fits_within}
use Rattle.mseed_steim_pack.specs.private.Rows.{row_for}
use Rattle.mseed_steim_pack.proofs.Fullest.{Sized, sized_none, sized_more, best_none, best_at, best_same}
use Rattle.mseed_steim_pack.proofs.row.most_held.Goals.{then-size-size_limit, else-size-size_limit}
use Rattle.mseed_steim_pack.proofs.row.most_held.Goals as goal

pub loop-index-init : goal.loop-index-init
loop-index-init c = record { known = sized_none c.args.diffs.now; best = best_none c.args.scheme c.args.diffs.now }

pub loop-index-preserved : goal.loop-index-preserved
loop-index-preserved c =
    let i = c.loop-index.index in
    let inside : i < length c.args.diffs.now = omega (arith, c.loop-index-test.true, c.requires) in
    let fits : FitsSigned w32 (get_or c.args.diffs.now i (pos 0)) = search rules in
    let one = rw to_z-of_z at c.size_of.ensures in
    let known : Sized c.args.diffs.now (i + 1) c.max-size.result =
    sized_more c.args.diffs.now i c.loop-index.size c.size_of.result c.max-size.result
    c.loop-index.invariant.known one ((one 32).1 (fits_within _ fits)) c.max-size.ensures in
    record {
      known = known;
      best = elim c.if-size-size_limit.branch [
        | then-size-size_limit w ↦ rw w.count-is
            (best_at c.args.scheme c.args.diffs.now (i + 1) c.max-size.result _ (omega (arith, inside)) refl known
            (omega (arith, w.if-size-size_limit.true, c.size_limit.ensures)))
        | else-size-size_limit w ↦ rw w.count-is (best_same c.args.scheme c.args.diffs.now i c.max-size.result
            (row_for c.args.scheme c.loop-index.count) inside known
            (omega (arith, w.if-size-size_limit.false, c.size_limit.ensures)) c.loop-index.invariant.best)
      ];
    }

all-seen : (c : goal.After-loop-index) → c.loop-index.index ≡ c.args.high
all-seen c = omega (arith, c.loop-index-test.false, c.loop-index.auto.index-end)

pub returns-clause-best : goal.returns-clause-best
returns-clause-best c = rw (all-seen c) at c.loop-index.invariant.best

pub returns-clause-fits : goal.returns-clause-fits
returns-clause-fits c = λ some.
    let known = c.loop-index.invariant.known in
    (known.by 32).0 known.small 0 (omega (arith, all-seen c, some))
