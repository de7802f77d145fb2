use Rattle.std.proofs.Common.{append-nil, append_assoc}
use Rattle.mseed_audit.proofs.text.push_audit.Goals as goal

pub returns-in-None : goal.returns-in-None
returns-in-None g c =
    rw (c.in-None.is, c.in_ok-push_total_line.ensures.ok, c.in_ok-push_verdicts.ensures, append-nil)
    (append_assoc c.args.text.now.items _ _)
