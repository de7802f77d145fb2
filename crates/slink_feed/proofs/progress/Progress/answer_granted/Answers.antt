use Rattle.std.proofs.Common.{◌≡◌, ℕ, List, refl}
use Rattle.slink_wire.specs.declared.command.Command.{Command}
use Rattle.slink_wire.specs.declared.command.Command.TheVariants.{End}
use Rattle.slink_wire.specs.declared.reply.Reply.{Reply}
use Rattle.slink_feed.specs.Session.{State, answer_chosen, answer_granted}
use Rattle.slink_feed.specs.Window.{Window}
use Rattle.slink_feed.proofs.progress.Progress.answer_granted.Goals as goal

-- any other command than END is answered as where there is no grant
but_end : (feed : List Window) (k : ℕ) (s : State) (command : Command) (x : State × Reply) → (command ≡ End → ⊥)
    → answer_chosen feed k s command ≡ x → answer_granted feed k s command ≡ x
but_end feed k s End x other is = absurd (other refl)
but_end feed k s command x other is = is

pub returns-in_default : goal.returns-in_default
returns-in_default g c = record {
  answered = but_end c.args.feed.now c.args.k c.args.self.now c.args.command (
    c.answer_chosen.new.self,
    c.answer_chosen.result,
  )
      c.in_default.not-End c.answer_chosen.ensures.answered;
}
