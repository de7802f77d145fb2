use Rattle.std.proofs.Common.{◌≡◌, ℕ, ◌<◌, Option, Some, slice_get}
use Rattle.slink_wire.specs.Place.{Fields, IsField}
use Rattle.slink_model.proofs.schedule.have_codes.Given as goal

-- the stations so far have them
abbrev pub invariant-loop-place : goal.invariant-loop-place
invariant-loop-place l =
    ((k : ℕ) (p : Fields × Option ℕ) → k < l.place-index → slice_get l.setup.places.items k ≡ Some p
    → IsField 5 p.0.station × IsField 2 p.0.network)
