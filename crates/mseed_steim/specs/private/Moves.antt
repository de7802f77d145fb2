-- What is added up at once.
use Rattle.std.specs.Prelude.{◌≡◌, ◌<◌, ◌≤◌, ◌+◌, ◌-◌, ◌*◌, ◌%◌, ℕ, List, [], ◌++◌, map}
use Rattle.std.specs.Prelude.{length, slice_index, ℤ, pos, ◌+ℤ◌, Ok}
use Rattle.std.specs.Prelude.{drop, take, slice_index_or}
use Rattle.std.specs.Simd.Lanes.{sum_l}
use Rattle.mseed_steim.specs.declared.scheme.Scheme.{Scheme}
use Rattle.mseed_steim.specs.declared.frame.MovedLanes.{MovedLanes}
use Rattle.mseed_steim.specs.declared.frame.Run.{Run}
use Rattle.mseed_steim.specs.declared.frame.TheConstants.{REACH}
use Rattle.mseed_steim.specs.Frames.{DataWord, words_from}
use Rattle.mseed_steim.specs.private.Items.{items_of}
use Rattle.mseed_steim.specs.private.Lanes.{Begins, counts_of, moved, row_at, span, sum_z, total, words}

-- the differences are so many, and their sum is this; none of their sums is further from 0 than that
pub record Moves (count : ℕ) (by : ℤ) (reach : ℕ) (ds : List ℤ) : Type 0 where
  pub count_is : length ds ≡ count
  pub by_is : total ds ≡ by
  pub near : span ds ≤ reach

-- these words have such differences, and none of the words is bad
abbrev pub MovesBy : Scheme → List DataWord → ℕ → ℤ → ℕ → Type 0
MovesBy scheme words count by reach =
    (ds : List ℤ)
    × (Moves count by reach ds × ((rest : List DataWord)
    → items_of scheme (words ++ rest) ≡ map Ok ds ++ items_of scheme rest))

-- 128 times the number, modulo 2^32
abbrev pub Raises : ℕ → ℤ → Type 0
Raises x by = (w : ℕ) × ((l : ℕ) × ((pos w ≡ by +ℤ pos l) × ((x + 128 * l) % 4294967296 ≡ 128 * w % 4294967296)))

-- the differences of the frame's words are as many as it counts, and their sum is its own; 128 and more are counted
-- where a word is bad or has one of 30 or 32 bits
pub record Adds (scheme : Scheme) (frame : List ℕ) (from : ℕ) (lanes : MovedLanes) : Type 0 where
  pub count : lanes.count ≡ sum_l (map (λ w. slice_index (counts_of scheme) (row_at frame from w)) words)
  pub by : lanes.count < 128 → Raises (sum_l lanes.by) (sum_z (map (moved scheme frame from) words))

-- the lanes tell what the words move by; given where none of them is bad or holds a difference of 30 or 32 bits
abbrev pub Tells : Scheme → List DataWord → MovedLanes → Type 0
Tells scheme words lanes =
    lanes.count < 128 → (by : ℤ) × (Raises (sum_l lanes.by) by × MovesBy scheme words lanes.count by REACH)

-- the frames are those of a payload from frame k on
abbrev pub AreFrames : List (List ℕ) → List ℕ → ℕ → Type 0
AreFrames frames payload k =
    (i : ℕ) → i < length frames → slice_index_or frames i [] ≡ take 64 (drop (64 * (k + i)) payload)

-- the run is what the first of the frames, from a word of the first one on, move by: at most so many differences
pub record IsRun (scheme : Scheme) (frames : List (List ℕ)) (begin : List ℕ) (most : ℕ) (run : Run) : Type 0 where
  pub inside : run.frames ≤ length frames
  pub few : run.count ≤ most
  pub moves : (p : List ℕ) (k from : ℕ) → Begins begin from → AreFrames frames p k
      → MovesBy scheme (words_from p (16 * k + from) (16 * run.frames - from)) run.count run.by (REACH * run.frames)
