use Rattle.std.proofs.Common.{◌≡◌, drop, map}
use Rattle.mseed_words.specs.Files.{file_mistake}
use Rattle.mseed_words.proofs.files.file_mistake.Given as goal

abbrev pub invariant-loop-index : goal.invariant-loop-index
invariant-loop-index l =
    file_mistake (map (λ w. w.now) (drop l.index l.words)) ≡ file_mistake (map (λ w. w.now) l.words)
