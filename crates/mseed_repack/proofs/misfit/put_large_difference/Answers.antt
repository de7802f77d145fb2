use Rattle.std.proofs.Common.{append_assoc, w64}
use Rattle.std.proofs.lemmas.Int.{to_z-of_z}
use Rattle.mseed_repack.proofs.misfit.put_large_difference.Goals as goal

pub returns-in-Some : goal.returns-in-Some
returns-in-Some c = simp (
  ← c.in-Some.ensures.value,
  c.put_outside.ensures,
  c.put.ensures.text,
  to_z-of_z w64 c.args.difference c.ranges.difference,
  append_assoc,
)
