use Rattle.mseed_audit.specs.Scope.{asked_of}
use Rattle.mseed_repack.proofs.AskedFor.{asked_few, asked_places, asked_whole, packed_asked}
use Rattle.mseed_repack.proofs.anew.pack_asked.Goals as goal

pub pack_records-outcome-requires : goal.pack_records-outcome-requires
pack_records-outcome-requires g c =
    rw c.deref-3.ensures.value (asked_few c.in_ok-views.field-0.views.items c.in_ok-views.ensures.asked)

pub returns-clause-packed : goal.returns-clause-packed
returns-clause-packed g c =
    let s = g.C.Choice.selection c.args.choice.now in
    let a = rw c.deref.ensures.value at c.in_ok-views.ensures.asked in
    let came = rw (c.deref-2.ensures.value, c.deref-3.ensures.value, a.count_is) at c.pack_records-outcome.ensures in
    rw (
      c.split_asked.ensures.read,
      ← c.in_ok-read_input.ensures.silent,
      ← c.in_ok-views.ensures.silent,
    )
    (packed_asked s c.args.options.now _ a.views a.whole _ _ c.args.cutting c.args.leave c.pack_records-outcome.result
    _ _ _ (came _ (λ _. asked_of s a.views) (asked_whole a) (asked_places a))
    (rw a.count_is at c.report_unless_left.ensures))
