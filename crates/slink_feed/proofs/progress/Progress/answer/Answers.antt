use Rattle.std.proofs.Common.{◌≡◌, ◌∙◌, List, ap, refl, rules, subst, sym}
use Rattle.slink_wire.specs.declared.command.Command.{Command}
use Rattle.slink_wire.specs.declared.reply.Reply.{Reply}
use Rattle.slink_feed.specs.declared.session.Phase.{Phase}
use Rattle.slink_feed.specs.Session.{IsChosenOf, State, answered, answered_in}
use Rattle.slink_feed.specs.Window.{Window}
use Rattle.slink_feed.proofs.progress.Progress.answer.Goals as goal

-- where a session is, a command is answered as there
answered_at : (p : Phase) (feed : List Window) (r s : State) (command : Command) (x : State × Reply) → r ≡ s
    → r.phase ≡ p → answered_in p feed s command ≡ x → answered feed s command ≡ x
answered_at p feed r s command x same is answer =
    ap (λ (q : Phase). answered_in q feed s command) (sym (ap (λ (t : State). t.phase) same) ∙ is) ∙ answer

-- the station that is chosen there is one of the feed
chosen_at : (p : Phase) (feed : List Window) (r s : State) → r ≡ s → r.phase ≡ p → IsChosenOf feed s.phase
    → IsChosenOf feed p
chosen_at p feed r s same is chosen =
    subst (IsChosenOf feed) (sym (ap (λ (t : State). t.phase) same) ∙ is) chosen

pub returns-in-Fresh : goal.returns-in-Fresh
returns-in-Fresh g c =
    record { answered = answered_at _ _ _ _ _ _ c.self.view_is c.in-Fresh.is c.answer_fresh.ensures.answered }

pub returns-in-Chosen : goal.returns-in-Chosen
returns-in-Chosen g c =
    record { answered = answered_at _ _ _ _ _ _ c.self.view_is c.in-Chosen.is c.answer_chosen.ensures.answered }

pub returns-in-Granted : goal.returns-in-Granted
returns-in-Granted g c =
    record { answered = answered_at _ _ _ _ _ _ c.self.view_is c.in-Granted.is c.answer_granted.ensures.answered }

pub returns-in-Streaming : goal.returns-in-Streaming
returns-in-Streaming g c =
    record { answered = answered_at _ _ _ _ _ _ c.self.view_is c.in-Streaming.is c.answer_streaming.ensures.answered }

pub returns-in-Closed : goal.returns-in-Closed
returns-in-Closed g c = record { answered = answered_at _ _ _ _ _ _ c.self.view_is c.in-Closed.is refl }

pub answer_chosen-requires : goal.answer_chosen-requires
answer_chosen-requires g c =
    (search rules, chosen_at _ _ _ _ c.self.view_is c.in-Chosen.is c.requires.0)

pub answer_granted-requires : goal.answer_granted-requires
answer_granted-requires g c =
    (search rules, chosen_at _ _ _ _ c.self.view_is c.in-Granted.is c.requires.0)
