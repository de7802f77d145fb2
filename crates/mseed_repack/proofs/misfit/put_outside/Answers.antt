use Rattle.std.proofs.Common.{append_assoc, w64}
use Rattle.std.proofs.lemmas.Int.{to_z-of_z}
use Rattle.mseed_repack.proofs.misfit.put_outside.Goals as goal

pub returns : goal.returns
returns c = simp (
  c.put-5.ensures.text,
  c.put-4.ensures.text,
  c.encoding_name.ensures.text,
  c.put-3.ensures.text,
  c.put_range.ensures.text,
  c.put-2.ensures.text,
  c.put_signed.ensures.text,
  to_z-of_z w64 c.args.value c.ranges.value,
  c.put.ensures.text,
  c.put_sample_number.ensures.text,
  append_assoc,
)
