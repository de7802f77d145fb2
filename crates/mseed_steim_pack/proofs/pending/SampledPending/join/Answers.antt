use Rattle.std.proofs.Common.{arith}
use Rattle.std.proofs.lemmas.List.{length-drop}
use Rattle.mseed_steim_pack.proofs.Wrapped.{wrapped_length}
use Rattle.mseed_steim_pack.proofs.pending.SampledPending.join.Goals as goal

pub after-rest-requires : goal.after-rest-requires
after-rest-requires c = search (arith, wrapped_length)

pub join_samples-requires-clause-eight : goal.join_samples-requires-clause-eight
join_samples-requires-clause-eight c = search (arith, length-drop, wrapped_length)
