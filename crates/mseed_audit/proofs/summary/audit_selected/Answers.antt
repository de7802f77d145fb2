use Rattle.std.proofs.Common.{arith}
use Rattle.mseed_audit.proofs.Outcomes.{added_length, cut_off, timed}
use Rattle.mseed_stream.proofs.Calls.{writes_none}
use Rattle.mseed_audit.proofs.summary.audit_selected.Goals as goal

pub returns-in-Ok-write_all_of-clause-outcome : goal.returns-in-Ok-write_all_of-clause-outcome
returns-in-Ok-write_all_of-clause-outcome g c =
    let found = c.in-Ok.ensures.gathered in
    let f = c.in-Ok-push_finished.ensures _ _ found.0 found.1.0 in
    let wrote = rw c.deref.ensures.value at c.in-Ok-write_all_of.ensures.ok in
    let bytes = rw (f.text_is, c.new-text.ensures.items) at wrote in
    (f.audited, ((f.summary, record { bytes = bytes; fine = c.in-Ok-write_all_of.ensures.fine }), timed f))

pub returns-clause-outcome : goal.returns-clause-outcome
returns-clause-outcome g c =
    let found = c.in-Ok.ensures.gathered in
    cut_off (c.in-Ok-push_finished.ensures _ _ found.0 found.1.0) _ _ _ c.new-text.ensures.items (record {
      text = rw c.deref.ensures.value at c.in-Err-write_all_of.ensures.err;
      part = rw c.deref.ensures.value at c.in-Err-write_all_of.ensures.within;
      failed = c.in-Err-write_all_of.ensures.failed;
    })

pub returns-in-Err-clause-writes : goal.returns-in-Err-clause-writes
returns-in-Err-clause-writes g c = writes_none _ _ _

pub returns-in-Err-push_finished-clause-writes : goal.returns-in-Err-push_finished-clause-writes
returns-in-Err-push_finished-clause-writes g c = writes_none _ _ _

pub push_finished-requires : goal.push_finished-requires
push_finished-requires g c =
    let found = c.in-Ok.ensures.gathered in
    omega (arith, found.1.0.passed.all, found.1.0.all.audit.number, added_length 0 found.0)
