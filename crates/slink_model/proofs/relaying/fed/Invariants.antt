use Rattle.std.proofs.Common.{◌≡◌, ◌++◌, drop}
use Rattle.slink_model.specs.Relay.{fed}
use Rattle.slink_model.proofs.relaying.fed.Given as goal

-- what is there and what the rest of the steps make of the records that are left are what all make of all
abbrev pub invariant-loop-step : goal.invariant-loop-step
invariant-loop-step l = (l.all.items ++ fed (drop l.step-index l.steps) l.rest ≡ fed l.fn.steps l.fn.records)
