use Rattle.std.proofs.Common.{append_assoc}
use Rattle.mseed_repack.proofs.misfit.put_time_outside.Goals as goal

pub returns : goal.returns
returns c = simp (
  c.put-4.ensures.text,
  c.put-3.ensures.text,
  c.show_time.ensures,
  c.put-2.ensures.text,
  c.put_sample_number.ensures.text,
  c.put.ensures.text,
  append_assoc,
)
