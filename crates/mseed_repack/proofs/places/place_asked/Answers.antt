use Rattle.std.proofs.Common.{◌≡◌, ◌+◌, ◌<◌, arith, cond, refl, sym, ◌∙◌}
use Rattle.std.proofs.lemmas.Bool.{false≢true}
use Rattle.std.proofs.lemmas.List.{take_rest}
use Rattle.mseed_record.specs.Viewing.{view_of}
use Rattle.mseed_record.specs.Selection.{asks_for}
use Rattle.mseed_repack.proofs.Passed.{passed_next, passed_none, passed_to}
use Rattle.mseed_repack.proofs.Untimed.{ended}
use Rattle.mseed_repack.proofs.places.place_asked.Goals as goal
use Rattle.mseed_repack.proofs.places.place_asked.Goals.{then-is_asked+else-asked-finding, else-is_asked}

pub returns-in-Err-clause-placed : goal.returns-in-Err-clause-placed
returns-in-Err-clause-placed g c =
    let l = c.loop-offset in
    let ok = rw (take_rest c.args.bytes.now l.offset) at c.in-Err.ensures.ok in
    passed_none c.args.finding l.invariant.0 l.invariant.1 (λ k few is. false≢true (ok.1 (k, (few, is))))

pub returns-clause-placed : goal.returns-clause-placed
returns-clause-placed g c =
    let l = c.loop-offset in
    passed_none c.args.finding l.invariant.0 l.invariant.1
    (ended c.args.bytes.now l.offset (omega (arith, c.loop-offset-test.false)))

pub returns-then-asked-finding-clause-placed : goal.returns-then-asked-finding-clause-placed
returns-then-asked-finding-clause-placed g c = λ views index all inside at.
    let l = c.loop-offset in
    passed_to _ _ l.invariant.0 c.loop-offset-test.true c.in-Ok.ensures.view (take_rest c.args.bytes.now l.offset)
    c.in-Ok.ensures.prefix (sym c.is_asked.ensures ∙ c.if-is_asked.true) refl refl _ _ all (c.if-asked-finding.true ∙
    at)

pub loop-offset-preserved : goal.loop-offset-preserved
loop-offset-preserved g c =
    let l = c.loop-offset in
    let v = view_of c.in-Ok.view in
    let s = g.C.Choice.selection c.args.choice.now in
    let counted : (c.if-is_asked.asked ≡ l.asked + cond (asks_for s v) 1 0)
    × (c.if-is_asked.asked < c.args.finding.number) = elim c.if-is_asked.branch [
      | then-is_asked+else-asked-finding w ↦ (
        rw (← c.is_asked.ensures, w.if-is_asked.true) w.asked-is,
        omega (arith, w.asked-is, w.if-asked-finding.false, l.invariant.1),
      )
      | else-is_asked w ↦ (
        rw (← c.is_asked.ensures, w.if-is_asked.false) (omega (arith, w.asked-is)),
        omega (arith, w.asked-is, l.invariant.1),
      )
    ] in (
      rw c.bytes.ensures.value
          (passed_next c.if-is_asked.asked v l.invariant.0 c.loop-offset-test.true c.in-Ok.ensures.view
          (take_rest c.args.bytes.now l.offset) c.in-Ok.ensures.prefix counted.0),
      counted.1,
    )
