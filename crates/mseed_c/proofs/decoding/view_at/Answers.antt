use Rattle.mseed_c.proofs.decoding.view_at.Goals as goal

pub returns-in-Err-Not-clause-stop : goal.returns-in-Err-Not-clause-stop
returns-in-Err-Not-clause-stop c = (
  rw c.in-Err-Not.field-0-is at c.in-Err-Not.ensures.decides,
  c.of.ensures.refused c.in-Err-Not.fault (rw c.in-Err-Not.field-0-is at c.in-Err-Not.is),
)
