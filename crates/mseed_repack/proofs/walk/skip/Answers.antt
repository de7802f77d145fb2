use Rattle.std.proofs.Common.{◌∙◌, sym}
use Rattle.mseed_record.specs.Viewing.{view_of}
use Rattle.mseed_repack.proofs.Walks.{dropped_all, dropped_more}
use Rattle.mseed_repack.proofs.walk.skip.Goals as goal

pub returns-in-None-clause-left : goal.returns-in-None-clause-left
returns-in-None-clause-left g c =
    let l = c.loop-turn in
    c.in-None.ensures.next.1
    ∙ sym (dropped_all _ _ _ c.loop-turn-test.true (sym l.invariant.1 ∙ c.in-None.ensures.next.0))

pub loop-turn-preserved : goal.loop-turn-preserved
loop-turn-preserved g c =
    let l = c.loop-turn in (
      c.in-Some.ensures.leads,
      dropped_more l.turn (g.R.Walk.left c.args.records) (g.R.Walk.left c.next.new.self) (view_of c.in-Some.field-0)
          (sym l.invariant.1 ∙ c.in-Some.ensures.next),
    )
