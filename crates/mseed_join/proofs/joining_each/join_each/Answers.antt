use Rattle.std.proofs.Common.{◌≡◌, Err, List, [], refl, rules, subst, sym, ℕ}
use Rattle.mseed_stream.specs.Device.{BytesWritten}
use Rattle.mseed_stream.specs.Gathered.{AreGathered}
use Rattle.mseed_stream.proofs.Calls.{writes_none, writes_on}
use Rattle.mseed_stream.proofs.Gathered.{gathered_all}
use Rattle.mseed_join.proofs.Each.{each_cut_off, each_no_memory, each_unread, each_written}
use Rattle.mseed_join.proofs.joining_each.join_each.Goals as goal

pub read_with-requires-clause-report : goal.read_with-requires-clause-report
read_with-requires-clause-report g c =
    let first : BytesWritten = g.W.Sink.written c.args.sink.now in (
      record {
        lines = subst (λ (xs : List ℕ). AreGathered first first xs []) (sym c.new-text.ensures.items)
            (gathered_all first []);
        fine = refl;
      },
      writes_none _ _ _,
    )

pub returns-in_err-part : goal.returns-in_err-part
returns-in_err-part g c =
    let same : c.from_residual.result ≡ Err c.in_err-part.field-0.0 = search rules in
    let unread = each_unread c.in_err-part.field-0.0 c.args.past_faults c.args.expected
    (g.R.Source.read c.read_with.new.source) (g.W.Sink.written c.args.sink.now)
    (g.W.Sink.written c.read_with.new.output) _ _ _ c.in_err-part.ensures.outcome in
    record { outcome = rw same unread.0; reads = c.in_err-part.ensures.reads; writes = unread.1 }

pub returns-in-Err-clause-outcome : goal.returns-in-Err-clause-outcome
returns-in-Err-clause-outcome g c = each_no_memory c.in_ok-part.ensures.outcome

pub returns-in-Ok-write_all_of : goal.returns-in-Ok-write_all_of
returns-in-Ok-write_all_of g c =
    let write = c.in-Ok-write_all_of.ensures in
    let all = c.in_ok-part.ensures.outcome in
    record {
      outcome = each_written all c.in-Ok.ensures.text c.deref.ensures.value c.in-Ok.ensures.answer write.ok write.fine;
      reads = c.in_ok-part.ensures.reads;
      writes = writes_on _ _ _ _ _ _ _ _ _ all.1.1.1 write.writes;
    }

pub returns : goal.returns
returns g c =
    let write = c.in-Err-write_all_of.ensures in
    let all = c.in_ok-part.ensures.outcome in
    record {
      outcome = each_cut_off all (g.W.Sink.written c.write_all_of.new.sink) c.in-Ok.ensures.text
          c.deref.ensures.value write.err write.within write.failed;
      reads = c.in_ok-part.ensures.reads;
      writes = writes_on _ _ _ _ _ _ _ _ _ all.1.1.1 write.writes;
    }
