use Rattle.std.proofs.Common.{map, take}
use Rattle.mseed.specs.Effect.{AreWordsOf}
use Rattle.mseed.proofs.files.names_of.Given as goal

abbrev pub invariant-loop-text : goal.invariant-loop-text
invariant-loop-text l =
    AreWordsOf (map (λ word. word.items) l.words) (map (λ text. text.now) (take l.text-index l.texts))
    (map (λ name. name.now) l.names.items)
