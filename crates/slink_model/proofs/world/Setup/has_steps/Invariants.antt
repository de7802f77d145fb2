use Rattle.std.proofs.Common.{ℕ, ◌<◌, get_or}
use Rattle.slink_model.specs.declared.world.Step.{Step}
use Rattle.slink_model.specs.World.{IsOf}
use Rattle.slink_model.proofs.world.Setup.has_steps.Given as goal

-- the steps so far are
abbrev pub invariant-loop-step : goal.invariant-loop-step
invariant-loop-step l = ((k : ℕ) (d : Step) → k < l.step-index → IsOf l.self.places.items (get_or l.steps k d))
