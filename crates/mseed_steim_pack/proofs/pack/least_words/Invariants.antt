use Rattle.std.proofs.Common.{◌≡◌, ◌-◌, ◌≤◌, length, drop, List}
use Rattle.mseed_steim.specs.declared.scheme.Scheme.TheVariants.{Two}
use Rattle.mseed_steim.specs.Frames.{DataWord}
use Rattle.mseed_steim_pack.specs.Packing.{PacksRun}
use Rattle.mseed_steim_pack.proofs.pack.least_words.Given as goal

abbrev pub invariant-loop-used : goal.invariant-loop-used
invariant-loop-used l = record {
  inside : l.used ≤ length l.diffs;
  few : l.words ≤ l.used;
  run : (ws : List DataWord) × ((length ws ≡ l.words) × PacksRun Two ws l.diffs (drop l.used l.diffs));
}

abbrev pub decreases-loop-used : goal.decreases-loop-used
decreases-loop-used l = length l.diffs - l.used
