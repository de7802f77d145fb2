use Rattle.std.proofs.Common.{◌≡◌, drop}
use Rattle.std.specs.Prelude.{find, nat_le}
use Rattle.mseed_words.specs.Names.{all_commands, edits_to, within}
use Rattle.mseed_words.proofs.command_name.within.Given as goal

abbrev pub invariant-loop-name : goal.invariant-loop-name
invariant-loop-name l =
    find (λ name. nat_le (edits_to l.word name) l.edits) (drop l.name-index all_commands) ≡ within l.edits l.word
