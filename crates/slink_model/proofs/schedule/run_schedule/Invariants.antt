use Rattle.std.proofs.Common.{ℕ, ◌<◌, ◌≤◌, [], drop, get_or, length}
use Rattle.slink_model.specs.declared.world.Step.TheVariants.{Append}
use Rattle.slink_model.specs.Running.{IsRunning}
use Rattle.slink_model.proofs.Pushed.{IsShown}
use Rattle.slink_model.specs.Slice.{IsSound}
use Rattle.slink_model.specs.World.{AllHappen, WorldState, opening, seen}
use Rattle.slink_model.proofs.schedule.run_schedule.Given as goal

-- what the rest of the steps makes of this world, all steps make of the opening
abbrev pub invariant-loop-step : goal.invariant-loop-step
invariant-loop-step l = record {
  running : IsRunning (seen l.world);
  shown : IsShown l.setup (seen l.world);
  few : (k : ℕ) → length (get_or (seen l.world).pushed k []) ≤ l.step-index;
  sound : (k : ℕ) → k < l.step-index → IsSound (get_or l.steps k (Append 0 []));
  rest : (last : WorldState) → AllHappen (seen l.world) (drop l.step-index l.steps) last
      → AllHappen (opening l.setup) l.steps last;
}
