-- What the steps of a schedule push.
use Rattle.std.specs.Prelude.{ℕ, ◌==◌, List, [], ◌∷◌, flat_map, if◌then◌else◌}
use Rattle.slink_model.specs.declared.world.Step.{Step}
use Rattle.slink_model.specs.declared.world.Step.TheVariants.{Append}

-- the records that a step pushes to a station: one, or none
abbrev pub appended_by : ℕ → Step → List (List ℕ)
appended_by k (Append j bytes) = if j == k then bytes ∷ [] else []
appended_by k step = []

-- those of all steps, in order
abbrev pub appended : ℕ → List Step → List (List ℕ)
appended k steps = flat_map (appended_by k) steps
