use Rattle.mseed_stream.specs.Device.{BytesRead}
use Rattle.mseed_stream.proofs.Calls.{writes_none}
use Rattle.mseed_join.proofs.Parting.{part_cut_off, part_written}
use Rattle.mseed_join.proofs.auditing.audit_part.Goals as goal

pub returns-in-Ok-write_all_of-clause-outcome : goal.returns-in-Ok-write_all_of-clause-outcome
returns-in-Ok-write_all_of-clause-outcome g c =
    let found = c.in-Ok.ensures.gathered in
    let read : BytesRead = g.R.Source.read c.gather.new.source in
    let write = c.in-Ok-write_all_of.ensures in
    part_written c.in-Ok-push_audited.summary found.0 c.new-text.result.items c.push_audited.new.text.items
    c.deref.result.now (g.W.Sink.written c.args.sink.now) (g.W.Sink.written c.write_all_of.new.sink)
    (c.in-Ok-push_audited.ensures read found.0 found.1) c.new-text.ensures.items c.deref.ensures.value write.ok
    write.fine

pub returns-clause-outcome : goal.returns-clause-outcome
returns-clause-outcome g c =
    let found = c.in-Ok.ensures.gathered in
    let read : BytesRead = g.R.Source.read c.gather.new.source in
    let write = c.in-Err-write_all_of.ensures in
    part_cut_off c.in-Ok-push_audited.summary c.in-Err-write_all_of.taken found.0 c.new-text.result.items
    c.push_audited.new.text.items (g.W.Sink.written c.args.sink.now) (g.W.Sink.written c.write_all_of.new.sink)
    (c.in-Ok-push_audited.ensures read found.0 found.1) c.new-text.ensures.items (record {
      text = rw c.deref.ensures.value at write.err;
      part = rw c.deref.ensures.value at write.within;
      failed = write.failed;
    })

pub returns-in-Err-clause-writes : goal.returns-in-Err-clause-writes
returns-in-Err-clause-writes g c = writes_none _ _ _

pub returns-in-Err-push_audited-clause-writes : goal.returns-in-Err-push_audited-clause-writes
returns-in-Err-push_audited-clause-writes g c = writes_none _ _ _
