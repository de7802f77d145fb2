use Rattle.std.proofs.Common.{◌≡◌, length, map, string_bytes}
use Rattle.mseed_words.proofs.GivenWords.{AreBefore}
use Rattle.mseed_words.proofs.WordTexts.{AreTexts}
use Rattle.mseed_words.proofs.arguments.CommandLine.of.Given as goal

abbrev pub invariant-loop-index : goal.invariant-loop-index
invariant-loop-index g l =
    AreBefore (g.G.Arguments.given l.arguments) l.index (map (λ word. word.items) l.words.items)
    × AreTexts (map (λ word. word.items) l.words.items) (map (λ text. string_bytes text) l.texts.items) l.have_ended
    × (l.index ≡ length l.words.items)
