use Rattle.std.proofs.Common.{length}
use Rattle.mseed_audit.specs.Channels.{numbered}
use Rattle.mseed_audit.proofs.More.{audit_all}
use Rattle.mseed_audit.proofs.audits.Audit.add_judged.Goals as goal

pub returns-in-Ok : goal.returns-in-Ok
returns-in-Ok g c = let more = c.in-Ok.ensures.added c.args.offset in record {
  adds = audit_all _ _ _ _ _ more;
  among = more.among;
  found = λ added. more.found (numbered 1 added) (length added);
  found_among = more.found;
  number = more.number;
  unchanged = more.unchanged;
  memory = more.memory;
}

pub returns-in-Err : goal.returns-in-Err
returns-in-Err g c = let more = rw c.in-Err.ensures.unchanged at c.add_learnt.ensures in record {
  adds = audit_all _ _ _ _ _ more;
  among = more.among;
  found = λ added. more.found (numbered 1 added) (length added);
  found_among = more.found;
  number = more.number;
  unchanged = more.unchanged;
  memory = more.memory;
}
