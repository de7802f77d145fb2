use Rattle.std.proofs.Common.{append_assoc}
use Rattle.mseed_audit.proofs.text.put_why.Goals as goal

pub returns-in-Time-clause-text : goal.returns-in-Time-clause-text
returns-in-Time-clause-text c =
    rw (c.in-Time.is, c.put_field.ensures.text, c.put.ensures.text) (append_assoc c.args.line.now _ _)

pub returns-in-Gap-clause-text : goal.returns-in-Gap-clause-text
returns-in-Gap-clause-text c =
    rw (c.in-Gap.is, c.put_wide.ensures.text, c.put-in-Gap.ensures.text) (append_assoc c.args.line.now _ _)

pub returns-in-Overlap-clause-text : goal.returns-in-Overlap-clause-text
returns-in-Overlap-clause-text c =
    rw (c.in-Overlap.is, c.put_wide-in-Overlap.ensures.text, c.put-in-Overlap.ensures.text)
    (append_assoc c.args.line.now _ _)
