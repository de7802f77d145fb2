use Rattle.std.proofs.Common.{◌≡◌, ◌⊎◌, ℕ, List, Option, ap, inl, inr}
use Rattle.slink_wire.specs.declared.command.Command.{Command}
use Rattle.slink_wire.specs.declared.command.Command.TheVariants.{Data, End, Fetch, Other}
use Rattle.slink_wire.specs.declared.reply.Reply.TheVariants.{Error}
use Rattle.slink_feed.specs.Session.{State, answer_fresh}
use Rattle.slink_feed.specs.Window.{Window}
use Rattle.slink_feed.proofs.progress.Progress.answer_fresh.Goals as goal

-- what needs a station is refused, and what isn't known
refused : (feed : List Window) (s : State) (command : Command)
    → ((n : Option ℕ) × (command ≡ Data n)) ⊎ (((n : Option ℕ) × (command ≡ Fetch n))
    ⊎ ((command ≡ End) ⊎ (command ≡ Other)))
    → answer_fresh feed s command ≡ (s, Error)
refused feed s command (inl is) = ap (answer_fresh feed s) is.1
refused feed s command (inr (inl is)) = ap (answer_fresh feed s) is.1
refused feed s command (inr (inr (inl is))) = ap (answer_fresh feed s) is
refused feed s command (inr (inr (inr is))) = ap (answer_fresh feed s) is

pub returns-in-Data : goal.returns-in-Data
returns-in-Data g c = record { answered = refused _ _ _ c.in-Data.is }
