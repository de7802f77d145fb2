use Rattle.std.proofs.Common.{◌∙◌, refl}
use Rattle.std.proofs.lemmas.Result.{err_from_is_err_and}
use Rattle.slink_feed.proofs.Deliveries.{all_delivered, fails_here, nothing_so_far, one_more, piece_of}
use Rattle.slink_feed.proofs.Noting.{notes_both}
use Rattle.slink_feed.proofs.Reporting.{reports_more, takes_cut, takes_event, noted_none}
use Rattle.slink_feed.proofs.Sendoffs.{passed_on}
use Rattle.slink_feed.proofs.fetching.read.Goals as goal

pub loop-offset-init : goal.loop-offset-init
loop-offset-init g c = record {
  so_far = nothing_so_far _ c.args.bytes.now;
  noted = noted_none _ _ _ _;
  beside = refl;
}

pub returns-in_err-incoming-clause-fault : goal.returns-in_err-incoming-clause-fault
returns-in_err-incoming-clause-fault g c =
    passed_on _ _ _ (err_from_is_err_and c.from_residual.result c.from_residual.ensures.1)
    (fails_here _ _ _ c.args.bytes.now c.loop-offset.offset c.in_err-incoming.ensures.fault.used
    c.in_err-incoming.ensures.fault.event c.loop-offset.counts c.loop-offset.invariant.so_far
    (piece_of _ _ _ _ _ _ c.if-not-is_linked.ensures.yes c.in_err-incoming.ensures.fault.comes)
    c.in_err-incoming.field-0.0 c.in_err-incoming.ensures.fault.cut)

pub returns-in_err-incoming-clause-noted : goal.returns-in_err-incoming-clause-noted
returns-in_err-incoming-clause-noted g c = record {
  received = notes_both _ _ _ _ _ _ c.loop-offset.invariant.so_far.output.failures
      c.loop-offset.invariant.noted.received c.take_next.ensures.received;
  reports = reports_more _ _ _ _ _ _ _ _ c.loop-offset.invariant.noted.reports
      c.loop-offset.invariant.so_far.output.failures c.in_err-incoming.ensures.fault.comes.brings
      (takes_cut _ _ _ _ _ _ _ c.in_err-incoming.ensures.fault.cut) c.in_err-incoming.ensures.fault.reported;
}

pub loop-offset-preserved : goal.loop-offset-preserved
loop-offset-preserved g c = record {
  so_far = one_more _ _ _ c.args.bytes.now c.loop-offset.offset c.in_ok-incoming.incoming.used
      c.in_ok-incoming.ensures.ok.event c.loop-offset.counts c.loop-offset.invariant.so_far
      (piece_of _ _ _ _ _ _ c.if-not-is_linked.ensures.yes c.in_ok-incoming.ensures.ok.comes)
      c.in_ok-incoming.incoming.counts c.in_ok-incoming.ensures.ok.done;
  noted = record {
    received = notes_both _ _ _ _ _ _ c.loop-offset.invariant.so_far.output.failures
        c.loop-offset.invariant.noted.received c.take_next.ensures.received;
    reports = reports_more _ _ _ _ _ _ _ _ c.loop-offset.invariant.noted.reports
        c.loop-offset.invariant.so_far.output.failures c.in_ok-incoming.ensures.ok.comes.brings
        (takes_event _ _ _ _ _ _ _ c.in_ok-incoming.ensures.ok.done) c.in_ok-incoming.ensures.ok.reported;
  };
  beside = c.take_next.ensures.beside ∙ c.loop-offset.invariant.beside;
}

pub returns-after-loop-offset-clause-ok : goal.returns-after-loop-offset-clause-ok
returns-after-loop-offset-clause-ok g c =
    all_delivered _ _ _ _ _ _ (λ linked. c.loop-offset-test.false) c.loop-offset.invariant.so_far

pub returns-then-not-is_linked-clause-ok : goal.returns-then-not-is_linked-clause-ok
returns-then-not-is_linked-clause-ok g c =
    all_delivered _ _ _ _ _ _ (λ linked. absurd (c.if-not-is_linked.ensures.no linked)) c.loop-offset.invariant.so_far
