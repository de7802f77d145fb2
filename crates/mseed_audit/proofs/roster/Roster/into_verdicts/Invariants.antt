use Rattle.std.specs.Vec.{vec_capacity}
use Rattle.mseed_audit.specs.Audit.{verdict_of}
use Rattle.mseed_audit.proofs.Rosters.{IsMaking}
use Rattle.mseed_audit.proofs.roster.Roster.into_verdicts.Given as goal

abbrev pub invariant-loop-codes : goal.invariant-loop-codes
invariant-loop-codes g l =
    IsMaking verdict_of l.fn.self l.initial.codes-iterator l.codes-iterator l.verdicts.items (vec_capacity l.verdicts)
