use Rattle.std.proofs.Common.{◌+◌, ◌≤◌, arith, length, rules}
use Rattle.std.proofs.lemmas.Bool.{false≢true}
use Rattle.std.proofs.lemmas.List.{take_rest}
use Rattle.std.proofs.lemmas.List.Sums.{count_by-le-length}
use Rattle.mseed_record.specs.Viewing.{view_of}
use Rattle.mseed_record.specs.Selection.{lacks_time}
use Rattle.mseed_repack.proofs.Untimed.{all_counted, at_most_one, counted_next, ended}
use Rattle.mseed_repack.proofs.asked.count_in_bytes.Goals as goal

pub returns-in-Err : goal.returns-in-Err
returns-in-Err g c =
    let ok = rw (take_rest c.args.bytes.now c.loop-offset.offset) at c.in-Err.ensures.ok in
    all_counted c.loop-offset.invariant (λ k few is. false≢true (ok.1 (k, (few, is))))

pub overflow_add-count : goal.overflow_add-count
overflow_add-count g c =
    let inv = c.loop-offset.invariant in
    let s = g.C.Choice.selection c.args.choice.now in
    let one = at_most_one (lacks_time s (view_of c.in-Ok.view)) c.count_one-count.result c.count_one-count.ensures in
    let most = count_by-le-length (lacks_time s) inv.views in
    let below : c.loop-offset.count + c.count_one-count.result ≤ length c.args.bytes.now =
    omega (arith, inv.count_is, one, most, inv.to.few, c.loop-offset-test.true) in
    search rules

pub loop-offset-preserved : goal.loop-offset-preserved
loop-offset-preserved g c = rw c.bytes.ensures.value
    (counted_next _ _ c.loop-offset.invariant c.loop-offset-test.true c.in-Ok.ensures.view (take_rest c.args.bytes.now
    c.loop-offset.offset) c.in-Ok.ensures.prefix c.count_one-count.ensures)

pub returns : goal.returns
returns g c = all_counted c.loop-offset.invariant
    (ended c.args.bytes.now c.loop-offset.offset (omega (arith, c.loop-offset-test.false)))
