use Rattle.std.proofs.Common.{◌∙◌, ◌++◌, ◌∷◌, [], ap, refl}
use Rattle.slink_live.specs.Happening.{Next}
use Rattle.slink_live.proofs.Updating.{awake_same}
use Rattle.slink_live.specs.declared.ready.Event.{Event}
use Rattle.slink_live.proofs.server.Server.step.Goals as goal

pub returns-in-Input-clause-called : goal.returns-in-Input-clause-called
returns-in-Input-clause-called g c = rw c.in-Input.is c.on_input.ensures.called

pub returns-in-Gone-clause-keeps_awake : goal.returns-in-Gone-clause-keeps_awake
returns-in-Gone-clause-keeps_awake g c earlier handled =
    c.on_gone.ensures.keeps_awake earlier (handled ∙ ap (λ (e : Event). earlier ++ Next e ∷ []) c.in-Gone.is)

pub returns-in-Dialled-clause-called : goal.returns-in-Dialled-clause-called
returns-in-Dialled-clause-called g c = rw c.in-Dialled.is (c.on_dialled.ensures.called, refl)

pub returns-in-Nothing-clause-keeps_awake : goal.returns-in-Nothing-clause-keeps_awake
returns-in-Nothing-clause-keeps_awake g c earlier handled = awake_same
