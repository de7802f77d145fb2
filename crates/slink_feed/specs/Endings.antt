-- Why a client takes nothing more of its link.
use Rattle.std.specs.Prelude.{Option, Some, None}
use Rattle.slink_feed.specs.declared.dialogue.Ending.{Ending}
use Rattle.slink_feed.specs.declared.dialogue.Stage.{Stage}
use Rattle.slink_feed.specs.declared.dialogue.Stage.TheVariants.{Ended}

-- the end that a client has come to, if it has
abbrev pub ending_at : Stage → Option Ending
ending_at (Ended ending) = Some ending
ending_at stage = None
