use Rattle.std.proofs.Common.{◌≡◌, ◌∙◌, ap, arith}
use Rattle.std.proofs.lemmas.Result.{err_from_is_err_and}
use Rattle.mseed_stream.specs.Device.{BytesWritten}
use Rattle.slink_feed.specs.Fetching.{fetching}
use Rattle.slink_feed.specs.Listening.{Listening}
use Rattle.slink_feed.proofs.Attended.{stays}
use Rattle.slink_feed.proofs.Deliveries.{closed_turn, front_cut, front_delivered}
use Rattle.slink_feed.proofs.Reporting.{noted_none}
use Rattle.slink_feed.proofs.Sendoffs.{not_ok, passed_on}
use Rattle.slink_feed.proofs.fetching.fetch_turn_in.Goals as goal

same_link : (client : Listening) (output : BytesWritten) {a b : BytesWritten} → a ≡ b
    → fetching client a output ≡ fetching client b output
same_link client output same = ap (λ written. fetching client written output) same

pub returns-then-count-eq0 : goal.returns-then-count-eq0
returns-then-count-eq0 g c = record {
  turn = record {
    ok = closed_turn _ _ _ _ (same_link _ _ c.read_once.ensures.written)
        (rw c.if-count-eq0.true at c.in-Ok.ensures.read) (omega (arith, c.lack-lack.ensures.lack));
    fault = tt;
    reading = c.kept_reads_as_begun.ensures;
  };
  reported = noted_none _ _ _ _;
}

pub returns-in-Err : goal.returns-in-Err
returns-in-Err g c = record {
  turn = record {
    ok = tt;
    fault = (same_link _ _ c.read_once.ensures.written, c.in-Err.ensures.failed);
    reading = c.kept_reads_as_begun.ensures;
  };
  reported = noted_none _ _ _ _;
}

pub returns : goal.returns
returns g c = record {
  turn = record {
    ok = front_delivered _ _ _ _ _ c.in-Ok.count c.lack-lack.result c.read_once.new.room _ c.args.room.now
        (same_link _ _ c.read_once.ensures.written) (stays
        (g.met.S.Duplex.writes_apart c.read.new.link) c.read.ensures.beside
        (g.met.S.Duplex.writes_apart c.read_once.new.link) ∙ c.in-Ok.ensures.read) c.if-count-eq0.false
        c.in-Ok.ensures.within c.read_once.auto.room c.lack-lack.ensures.lack c.turn.result c.in_ok-read.ensures.ok
        c.turn.ensures;
    fault = tt;
    reading = c.kept_reads_as_begun.ensures;
  };
  reported = c.read.ensures.noted;
}

pub returns-in_err-read : goal.returns-in_err-read
returns-in_err-read g c =
    let e = err_from_is_err_and c.from_residual.result c.from_residual.ensures.1 in
    record {
      turn = record {
        ok = not_ok _ _ e;
        fault = passed_on _ c.in_err-read.field-0.0 _ e
            (front_cut _ _ _ _ _ c.in-Ok.count c.lack-lack.result c.read_once.new.room _ c.args.room.now
            (same_link _ _ c.read_once.ensures.written) (stays
            (g.met.S.Duplex.writes_apart c.read.new.link) c.read.ensures.beside
            (g.met.S.Duplex.writes_apart c.read_once.new.link) ∙ c.in-Ok.ensures.read) c.if-count-eq0.false
            c.in-Ok.ensures.within c.read_once.auto.room c.lack-lack.ensures.lack c.in_err-read.field-0.0
            c.in_err-read.ensures.fault);
        reading = c.kept_reads_as_begun.ensures;
      };
      reported = c.read.ensures.noted;
    }
