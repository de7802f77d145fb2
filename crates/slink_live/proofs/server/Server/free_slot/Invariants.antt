use Rattle.std.proofs.Common.{◌≢◌, ◌<◌, ℕ, None, get_or}
use Rattle.slink_live.proofs.server.Server.free_slot.Given as goal

abbrev pub invariant-loop-slot : goal.invariant-loop-slot
invariant-loop-slot l = record {
  taken : (j : ℕ) → j < l.slot → get_or l.self.links j None ≢ None;
}
