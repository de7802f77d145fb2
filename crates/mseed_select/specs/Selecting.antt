-- What contracts read of a `Selector`.
use Rattle.std.specs.Prelude.{List, ℕ, Option, Some, None}
use Rattle.mseed_select.specs.declared.patterns.Patterns.{Patterns}
use Rattle.mseed_select.specs.declared.selector.Selector.{Selector}
use Rattle.mseed_record.specs.Selection.{Selection}

-- the text of some patterns
abbrev pub text_of : Option Patterns → Option (List ℕ)
text_of (Some patterns) = Some patterns.text.now
text_of None = None

-- what it asks for
abbrev pub selection_of : Selector → Selection
selection_of s = record { channels = text_of s.channels; from = s.from; until = s.until }
