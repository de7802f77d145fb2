use Rattle.std.proofs.Common.{◌≡◌, ◌≤◌, ◌++◌, length, List}
use Rattle.mseed_steim.specs.Frames.{DataWord}
use Rattle.mseed_steim.specs.private.Items.{items_of}
use Rattle.mseed_steim.specs.private.Sums.{Continues, places_for}
use Rattle.mseed_steim.proofs.walk.keep_words.Given as goal

abbrev pub invariant-loop-word : goal.invariant-loop-word
invariant-loop-word g l = record {
  places : length l.out ≡ places_for g.K.Keeper.kept l.samples;
  met : l.sum.met ≤ l.samples;
  walked : (rest : List DataWord) → Continues g.K.Keeper.kept l.samples l.fn.sum l.fn.out
      (items_of l.scheme (l.fn.words ++ rest)) (items_of l.scheme (l.word-iterator ++ rest)) l.out l.sum;
}
