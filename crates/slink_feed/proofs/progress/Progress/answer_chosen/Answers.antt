use Rattle.std.proofs.Common.{◌≡◌, ◌⊎◌, ℕ, List, ap, inl, inr}
use Rattle.slink_wire.specs.declared.command.Command.{Command}
use Rattle.slink_wire.specs.declared.command.Command.TheVariants.{End, Other}
use Rattle.slink_wire.specs.declared.reply.Reply.TheVariants.{Error}
use Rattle.slink_feed.specs.Session.{State, answer_chosen}
use Rattle.slink_feed.specs.Window.{Window}
use Rattle.slink_feed.proofs.progress.Progress.answer_chosen.Goals as goal

-- END and unknown commands are refused
refused : (feed : List Window) (k : ℕ) (s : State) (command : Command) → (command ≡ End) ⊎ (command ≡ Other)
    → answer_chosen feed k s command ≡ (s, Error)
refused feed k s command (inl is) = ap (answer_chosen feed k s) is
refused feed k s command (inr is) = ap (answer_chosen feed k s) is

pub returns-in-End : goal.returns-in-End
returns-in-End g c = record { answered = refused _ _ _ _ c.in-End.is }
