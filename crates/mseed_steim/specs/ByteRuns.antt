-- Runs of words of code 01, which are four differences of 8 bits each.
use Rattle.std.specs.Prelude.{◌≡◌, ◌≢◌, ℕ, ◌==◌, Bool, false, if◌then◌else◌, List, [], ◌∷◌, length, drop, map, ℤ}
use Rattle.std.specs.Prelude.{Result, Ok, Err}
use Rattle.mseed_steim.specs.declared.scheme.Scheme.{Scheme}
use Rattle.mseed_steim.specs.declared.differences.BadWordAt.{BadWordAt}
use Rattle.mseed_steim.specs.Frames.{DataWord}
use Rattle.mseed_steim.specs.Runs.{SpellsRun}

-- a word of a frame, with code 01
abbrev pub is_byte_word : ℕ → DataWord → Bool
is_byte_word frame w = if w.frame == frame then w.code == 1 else false

-- of a frame's words, those of code 01 that are next
abbrev pub run_in : ℕ → List DataWord → List DataWord
run_in frame [] = []
run_in frame (w ∷ ws) = if is_byte_word frame w then w ∷ run_in frame ws else []

-- the words of code 01 that are next, as far as they stand in one frame
abbrev pub byte_run : List DataWord → List DataWord
byte_run [] = []
byte_run (w ∷ ws) = run_in w.frame (w ∷ ws)

-- whether a word of code 00 is next
abbrev pub begins_empty : List DataWord → Bool
begins_empty [] = false
begins_empty (w ∷ ws) = w.code == 0

-- the words after those of code 00 that are next
abbrev pub past_empty : List DataWord → List DataWord
past_empty [] = []
past_empty (w ∷ ws) = if w.code == 0 then past_empty ws else w ∷ ws

-- the words after a run that begins them; where it is empty, after the first
abbrev pub after_run : List DataWord → List DataWord → List DataWord
after_run [] words = drop 1 words
after_run (w ∷ ws) words = drop (length (w ∷ ws)) words

-- The words that aren't unpacked yet once an item has come of them: those after a run that is next, or after one
-- word; after a bad word none.
abbrev pub words_after : Result ℤ BadWordAt → List DataWord → List DataWord
words_after (Ok d) words = after_run (byte_run (past_empty words)) (past_empty words)
words_after (Err at) words = []

-- Where a run is what comes next of the words, the item is the first of the differences that it spells, and the
-- others are ready.
abbrev pub UnpacksRun : List DataWord → Result ℤ BadWordAt → List ℤ → Type 0
UnpacksRun words item ready =
    byte_run (past_empty words) ≢ [] → (scheme : Scheme) (ds : List ℤ)
    → SpellsRun scheme (byte_run (past_empty words)) ds → map Ok ds ≡ item ∷ map Ok ready
