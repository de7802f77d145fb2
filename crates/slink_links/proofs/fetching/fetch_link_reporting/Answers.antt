use Rattle.std.proofs.Common.{◌≡◌, ◌∙◌, arith, inl, refl, sym}
use Rattle.slink_links.specs.Fetched.{by_turns, unwritten}
use Rattle.slink_feed.proofs.Reporting.{reports_none}
use Rattle.slink_links.proofs.Fetches.{connected, emitted_as, emitted_prefix_as, fetched_reporting, read_link}
use Rattle.slink_links.proofs.Fetches.{turned_none, turned_out}
use Rattle.slink_links.proofs.fetching.fetch_link_reporting.Goals as goal

pub take_turns-requires-clause-linked : goal.take_turns-requires-clause-linked
take_turns-requires-clause-linked g c = (connected c.args.client.now.talk _ _ c.connect-line.ensures.written).linked

pub returns-in-Ok : goal.returns-in-Ok
returns-in-Ok g c =
    let now = c.connect-line.new.self in
    let written = c.connect-line.ensures.written in
    let turns = c.take_turns.ensures in
    let same : g.S.Source.read c.write_all_of.new.sink ≡ g.S.Source.read c.args.link.now =
    sym (g.met.S.Duplex.writes_apart c.write_all_of.new.sink)
    ∙ (c.write_all_of.ensures.beside ∙ g.met.S.Duplex.writes_apart c.args.link.now) in record {
      fetched = fetched_reporting _ _ now _ _ _ _ _ _ written turns.turned turns.noted.reports;
      read = rw (← same) (read_link _ _ now _ _ _ _ _ _ written c.connect-line.ensures.reads turns.turned);
      turns = by_turns _ now _ _ _ _ (record { says = written; kept = c.connect-line.ensures.dropped })
          (emitted_as _ _ c.as_slice.result.now _ c.in-Ok.ensures.ok c.in-Ok.ensures.fine c.as_slice.ensures.value)
          (rw same at turns.taken);
      received = turns.noted.received;
    }

pub returns-in-Err : goal.returns-in-Err
returns-in-Err g c =
    let now = c.connect-line.new.self in
    let written = c.connect-line.ensures.written in
    let same : g.S.Source.read c.write_all_of.new.sink ≡ g.S.Source.read c.args.link.now =
    sym (g.met.S.Duplex.writes_apart c.write_all_of.new.sink)
    ∙ (c.write_all_of.ensures.beside ∙ g.met.S.Duplex.writes_apart c.args.link.now) in
    let none = turned_out _ _ _ _ _ _ (turned_none now (g.S.Source.read c.args.link.now)
    (g.W.Sink.written c.args.output.now) (connected c.args.client.now.talk now.talk _ written).linked) in record {
      fetched = fetched_reporting _ _ now _ _ _ _ _ _ written none (reports_none _ _);
      read = rw same (read_link _ _ now _ _ _ _ _ _ written c.connect-line.ensures.reads none);
      turns = rw same (unwritten now _ _ c.in-Err.field-0
          (record { says = written; kept = c.connect-line.ensures.dropped })
          (emitted_prefix_as _ _ c.as_slice.result.now _ c.in-Err.field-0 c.in-Err.ensures.err c.in-Err.ensures.within
          c.in-Err.ensures.failed c.as_slice.ensures.value));
      received = record { yes = λ is. inl is; no = λ is. is; none = λ is fine. refl; grows = omega arith };
    }
