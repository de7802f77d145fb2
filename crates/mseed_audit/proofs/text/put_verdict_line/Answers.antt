use Rattle.std.proofs.Common.{append_assoc}
use Rattle.mseed_audit.proofs.text.put_verdict_line.Goals as goal

pub returns-in-Continuous : goal.returns-in-Continuous
returns-in-Continuous c =
    rw (c.in-Continuous.is, c.put_continuous.ensures, c.put_name.ensures.text) (append_assoc c.args.line.now _ _)

pub returns-in-Broken : goal.returns-in-Broken
returns-in-Broken c =
    rw (c.in-Broken.is, c.put_broken.ensures, c.put_name.ensures.text) (append_assoc c.args.line.now _ _)
