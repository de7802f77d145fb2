use Rattle.std.proofs.Common.{arith}
use Rattle.std.proofs.lemmas.Result.{err_from_is_err_and}
use Rattle.slink_feed.specs.declared.dialogue.Event.TheVariants as events
use Rattle.slink_feed.proofs.Deliveries.{comes_to}
use Rattle.slink_feed.proofs.Sendoffs.{passed_on}
use Rattle.slink_feed.proofs.fetching.take_next.Goals as goal

pub returns-in_ok-counts-in-Some-clause-ok : goal.returns-in_ok-counts-in-Some-clause-ok
returns-in_ok-counts-in-Some-clause-ok g c = record {
  event = events.Record c.in-Some.index c.in-Some.number c.in-Some.record.now;
  comes = record { brings = c.in-Some.ensures.brings; some = omega arith; bound = c.in-Some.ensures.long };
  reported = c.deliver_record.ensures.reported;
  done = c.in_ok-counts-in-Some.ensures.ok (g.L.Sink.written c.args.link.now);
}

pub returns-in_err-counts-in-Some-clause-fault : goal.returns-in_err-counts-in-Some-clause-fault
returns-in_err-counts-in-Some-clause-fault g c =
    passed_on c.from_residual.result c.in_err-counts-in-Some.field-0.0 _
    (err_from_is_err_and c.from_residual.result c.from_residual.ensures.1)
    (record {
      event = events.Record c.in-Some.index c.in-Some.number c.in-Some.record.now;
      used = 520;
      comes = record { brings = c.in-Some.ensures.brings; some = omega arith; bound = c.in-Some.ensures.long };
      reported = c.deliver_record.ensures.reported;
      cut = c.in_err-counts-in-Some.ensures.fault (g.L.Sink.written c.args.link.now);
    })

pub returns-in_ok-after-in-None-clause-ok : goal.returns-in_ok-after-in-None-clause-ok
returns-in_ok-after-in-None-clause-ok g c = record {
  event = c.take-used.result.1;
  comes = comes_to _ _ _ _ _ _ c.in-None.ensures.none c.requires.linked c.requires.some c.take-used.ensures.brings
      c.take-used.ensures.some c.take-used.ensures.bound;
  reported = record { reporting = c.deliver.ensures.reporting; lines = c.deliver.ensures.lines };
  done = c.in_ok-after-in-None.ensures.ok;
}

pub returns-in_err-after-in-None-clause-fault : goal.returns-in_err-after-in-None-clause-fault
returns-in_err-after-in-None-clause-fault g c =
    passed_on c.from_residual-in_err-after-in-None.result c.in_err-after-in-None.field-0.0 _
    (err_from_is_err_and c.from_residual-in_err-after-in-None.result c.from_residual-in_err-after-in-None.ensures.1)
    (record {
      event = c.take-used.result.1;
      used = c.take-used.result.0;
      comes = comes_to c.args.client.now c.take_record.new.self c.take-used.new.self c.args.bytes.now
          c.take-used.result.0 c.take-used.result.1 c.in-None.ensures.none c.requires.linked c.requires.some
          c.take-used.ensures.brings c.take-used.ensures.some c.take-used.ensures.bound;
      reported = record { reporting = c.deliver.ensures.reporting; lines = c.deliver.ensures.lines };
      cut = c.in_err-after-in-None.ensures.fault;
    })
