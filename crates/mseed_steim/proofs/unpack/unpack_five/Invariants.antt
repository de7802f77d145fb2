use Rattle.std.proofs.Common.{◌≡◌, ℕ, ◌+◌, ◌*◌, ◌<◌, ◌≤◌, ◌++◌, take, List, map}
use Rattle.mseed_steim.specs.private.Lanes.{row_at, word_at, words}
use Rattle.mseed_steim.specs.private.Unpacked.{AreGood, FitIn, row_of, unpacked}
use Rattle.mseed_steim.proofs.unpack.unpack_five.Given as goal

abbrev pub invariant-loop-index : goal.invariant-loop-index
invariant-loop-index l = record {
  few : l.met ≤ l.fn.met + 8 * l.index;
  so_far : (frame : List ℕ) (from : ℕ) → l.bits ≡ map (word_at frame) words
      → ((word : ℕ) → word < 16 → row_of l.rows word ≡ row_at frame from word)
      → AreGood l.scheme frame from → FitIn l.scheme frame from l.lanes
      → take l.met l.differences ≡ take l.fn.met l.fn.differences ++ unpacked l.scheme frame from l.first l.index;
}
