-- The differences of a frame's words, unpacked word by word.
use Rattle.std.specs.Prelude.{◌≡◌, ◌⊎◌, ℕ, zero, suc, ◌+◌, ◌-◌, ◌*◌, ◌/◌, ◌%◌, ◌^◌, ◌<◌, ◌≤◌, List, [], ◌++◌, ℤ}
use Rattle.std.specs.Prelude.{slice_index, slice_index_or, take, drop, map, Ok}
use Rattle.mseed_steim.specs.declared.scheme.Scheme.{Scheme}
use Rattle.mseed_steim.specs.declared.scheme.Scheme.TheVariants.{One, Two}
use Rattle.mseed_steim.specs.declared.frame.TheConstants.{REACH}
use Rattle.mseed_steim.specs.declared.unpack.Unpacking.{Unpacking}
use Rattle.mseed_steim.specs.declared.unpack.Widest.{Widest}
use Rattle.mseed_steim.specs.declared.unpack.Widest.TheVariants.{Bits16, Bits32}
use Rattle.mseed_steim.specs.Frames.{DataWord, word_count, words_from}
use Rattle.mseed_steim.specs.private.Items.{items_of}
use Rattle.mseed_steim.specs.private.Lanes.{Begins, all_counts, all_widths, counts_of, differences_by, row_at}
use Rattle.mseed_steim.specs.private.Lanes.{span}

-- no fewer than the differences of a word, as far as they have at most 16 bits
abbrev pub lanes_of : Scheme → ℕ
lanes_of One = 4
lanes_of Two = 8

-- the row of a word, of two numbers that hold eight rows each, the first lowest
abbrev pub row_of : List ℕ → ℕ → ℕ
row_of rows word = slice_index rows (word / 8) / 2 ^ (8 * (word % 8)) % 16

-- Each difference of a word of so many of this width is lifted to the top of 32 bits, and let down by what is above
-- its width.
pub record Unpacks (count width : ℕ) (by : Unpacking) : Type 0 where
  pub as_many : by.count ≡ count
  pub fits : width * count ≤ 32
  pub fall : 0 < count → by.fall ≡ 32 - width
  pub positive : 0 < count → 0 < width
  pub lifts : (i : ℕ) → i < count → slice_index_or by.lifts i 0 ≡ 2 ^ (32 - width * (count - i))

-- no word is bad
abbrev pub AreGood : Scheme → List ℕ → ℕ → Type 0
AreGood scheme frame from = (word : ℕ) → word < 16 → slice_index (all_counts scheme) (row_at frame from word) < 128

-- no word has more differences than lanes are taken for it
abbrev pub FitIn : Scheme → List ℕ → ℕ → ℕ → Type 0
FitIn scheme frame from lanes =
    (lanes_of scheme ≤ lanes)
    ⊎ ((word : ℕ) → word < 16 → slice_index (all_counts scheme) (row_at frame from word) ≤ lanes)

-- the differences of a word, those of 30 and 32 bits too
abbrev pub differences_at : Scheme → List ℕ → ℕ → ℕ → List ℤ
differences_at scheme frame from word = differences_by (all_counts scheme) (all_widths scheme) frame from word

-- the differences of n words, one after another
unfoldable pub unpacked : Scheme → List ℕ → ℕ → ℕ → ℕ → List ℤ
unpacked scheme frame from word zero = []
unpacked scheme frame from word (suc n) =
    differences_at scheme frame from word ++ unpacked scheme frame from (word + 1) n

-- so many differences are those of a frame's words from word 1, 3 or 4 on, wherever it stands in a payload
pub record AreUnpacked (scheme : Scheme) (begin frame : List ℕ) (differences : List ℤ) (count : ℕ) : Type 0 where
  pub few : count ≤ 120
  pub items : (p : List ℕ) (k from : ℕ) (rest : List DataWord) → Begins begin from → frame ≡ take 64 (drop (64 * k) p)
      → items_of scheme (words_from p (16 * k + from) (16 - from) ++ rest) ≡ map Ok differences ++ items_of scheme rest

-- how many differences a word of a row has; 128 where it is bad, or has one that is wider
abbrev pub counts_up_to : Widest → Scheme → List ℕ
counts_up_to Bits16 scheme = counts_of scheme
counts_up_to Bits32 scheme = all_counts scheme

-- so many of these are the differences of a frame, of which none is wider
pub record AreUpTo (widest : Widest) (scheme : Scheme) (begin frame : List ℕ) (differences : List ℤ) (count : ℕ)
    : Type 0 where
  pub unpacked : AreUnpacked scheme begin frame (take count differences) count
  pub near : widest ≡ Bits16 → span (take count differences) ≤ REACH

-- The first data word of a frame that isn't taken yet, once so many samples have been met. The first frame has the
-- payload's constants in front; its first data word may be taken alone.
abbrev pub data_in : ℕ → ℕ → ℕ
data_in zero zero = 3
data_in (suc met) zero = 4
data_in met (suc frame) = 1

-- the data words of a payload that aren't taken yet, from a frame on
abbrev pub left_from : List ℕ → ℕ → ℕ → List DataWord
left_from payload met frame =
    words_from payload (16 * frame + data_in met frame) (word_count payload - (16 * frame + data_in met frame))
