use Rattle.std.proofs.Common.{◌≡◌, ◌<◌, ◌++◌, List, map, length, ℤ, Ok}
use Rattle.mseed_steim.specs.Frames.{data_words}
use Rattle.mseed_steim.specs.private.Items.{items_of}
use Rattle.mseed_steim.proofs.walk.find_lack.Given as goal

abbrev pub invariant-loop-word : goal.invariant-loop-word
invariant-loop-word l = record {
  met : l.met < l.samples;
  same : (ds : List ℤ)
      × ((items_of l.scheme (data_words l.payload) ≡ map Ok ds ++ items_of l.scheme l.word-iterator)
      × (length ds ≡ l.met));
}
