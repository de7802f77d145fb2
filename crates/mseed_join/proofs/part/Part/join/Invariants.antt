use Rattle.std.proofs.Common.{◌<◌, length}
use Rattle.std.specs.List.{All}
use Rattle.std.specs.Map.{values_of}
use Rattle.mseed_audit.proofs.ByKey.{itself}
use Rattle.mseed_audit.proofs.Rosters.{made_at}
use Rattle.mseed_join.proofs.Turns.{InTurn}
use Rattle.mseed_join.proofs.part.Part.join.Given as goal

abbrev pub invariant-loop-codes : goal.invariant-loop-codes
invariant-loop-codes g l =
    InTurn l.fn.self l.other l.joint (made_at itself l.channels l.codes-iterator)
    × All (λ i. i < length l.channels) (values_of l.codes-iterator)
