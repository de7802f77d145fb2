-- What is found of a channel, as it is written after how the channel ends.
use Rattle.std.specs.Prelude.{ℕ, List, ◌++◌, codes, decimal}
use Rattle.mseed_audit.specs.declared.channel.Findings.{Findings}
use Rattle.mseed_audit.specs.declared.channel.Findings.TheVariants.{Nothing, Counted}
use Rattle.mseed_join.specs.Lines.{first_text}

abbrev pub found_text : Findings → List ℕ
found_text (Nothing head tail) = codes " findings 0"
found_text (Counted count first head tail) = codes " findings " ++ decimal count ++ codes " " ++ first_text first
