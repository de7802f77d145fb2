use Rattle.std.proofs.Common.{append_assoc}
use Rattle.std.proofs.lemmas.Int.{to_z-of_z}
use mir.Syntax.{w32}
use Rattle.mseed_audit.proofs.text.put_last_differs.Goals as goal

pub returns-clause-text : goal.returns-clause-text
returns-clause-text c =
    rw (c.put_sample-2.ensures.text, c.put-2.ensures.text, c.put_sample.ensures.text, c.put.ensures.text)
    (rw (to_z-of_z w32 c.args.found c.ranges.found, to_z-of_z w32 c.args.constant c.ranges.constant)
    (simp append_assoc))
