use Rattle.std.proofs.Common.{◌+◌, ◌*◌, ◌/◌, ◌≤◌, ℕ, arith}
use Rattle.std.proofs.lemmas.Int.{to_z-of_z}
use Rattle.std.proofs.lemmas.List.{length-take-le}
use Rattle.mseed_steim.proofs.Summed.{padded, padded_span, padded_total, whole_put}
use Rattle.mseed_steim.proofs.adding.put_sums.Goals as goal

-- the turns end after the differences, and where the zeros do at the latest
turns_more : (count : ℕ) → count ≤ 4 + 8 * ((count + 3) / 8)
turns_more count = omega arith

turns_less : (count : ℕ) → 4 + 8 * ((count + 3) / 8) ≤ count + 8
turns_less count = omega arith

pub put_turns-requires-clause-near : goal.put_turns-requires-clause-near
put_turns-requires-clause-near c = search (arith, padded, padded_span, to_z-of_z, turns_less, turns_more)

pub returns : goal.returns
returns c = search (arith, length-take-le, padded, padded_total, to_z-of_z, turns_less, turns_more, whole_put)
