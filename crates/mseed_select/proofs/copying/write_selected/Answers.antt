use Rattle.mseed_select.proofs.Copied.{end_err, written_all, written_short}
use Rattle.mseed_select.proofs.copying.write_selected.Goals as goal

pub returns-clause-written : goal.returns-clause-written
returns-clause-written g c =
    let copied = c.in_ok-found.ensures.copied in
    let write = c.in-Err.ensures in
    written_short _ _ _ _ _ _ (g.W.Sink.written c.write_all_of.new.sink) _ _ _ _ copied.1 c.in_ok-push_end.ensures
    (record {
      text = rw c.deref.ensures.value at write.err;
      part = rw c.deref.ensures.value at write.within;
      failed = write.failed;
    })

pub returns-in_err-push_end-clause-written : goal.returns-in_err-push_end-clause-written
returns-in_err-push_end-clause-written g c =
    let copied = c.in_ok-found.ensures.copied in
    end_err _ _ c.from_residual-in_err-push_end.result _ _ _ _ _ _ c.from_residual-in_err-push_end.ensures.1 copied.1

pub returns-in-Ok-clause-written : goal.returns-in-Ok-clause-written
returns-in-Ok-clause-written g c =
    let copied = c.in_ok-found.ensures.copied in
    written_all _ _ _ _ _ _ _ _ _ _ copied.1 c.in_ok-push_end.ensures (rw c.deref.ensures.value at c.in-Ok.ensures.ok)
    c.in-Ok.ensures.fine
