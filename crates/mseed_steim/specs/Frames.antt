-- The frames of a Steim payload (SEED manual, appendix B): 64 bytes, 16 words of 32 bits, the highest byte
-- first. The payload's words are counted from 0, so word k is word k % 16 of frame k / 16.
use Rattle.std.specs.Prelude.{ℕ, ◌-◌, ◌*◌, ◌/◌, ◌%◌, ◌^◌, ◌<◌, ◌==◌, not, Bool, List, length, drop, map, slice_index_or}
use Rattle.std.specs.Prelude.{ℤ}
use Rattle.std.specs.List.{filter, range_with_len}
use Rattle.byteorder.specs.Endian.{big_number, twos_complement}

-- a word of data: where it stands, its code and its bits
pub record DataWord : Type 0 where
  pub frame : ℕ
  pub place : ℕ
  pub code : ℕ
  pub bits : ℕ

-- the numbers are bytes
abbrev pub AreOctets : List ℕ → Type 0
AreOctets bytes = (i : ℕ) → slice_index_or bytes i 0 < 256

-- the bits of word k
abbrev pub word_at : List ℕ → ℕ → ℕ
word_at payload k = big_number 4 (drop (4 * k) payload)

-- the code of word k, which is word j of its frame: bits 31 - 2j and 30 - 2j of the frame's word 0
abbrev pub code_at : List ℕ → ℕ → ℕ
code_at payload k = word_at payload (16 * (k / 16)) / 2 ^ (30 - 2 * (k % 16)) % 4

abbrev pub data_word : List ℕ → ℕ → DataWord
data_word payload k =
    record { frame = k / 16; place = k % 16; code = code_at payload k; bits = word_at payload k }

-- a frame's word 0 holds its codes, and is no data
abbrev pub is_data : ℕ → Bool
is_data k = not (k % 16 == 0)

-- the data words among the n words from word k on
unfoldable pub words_from : List ℕ → ℕ → ℕ → List DataWord
words_from payload k n = map (data_word payload) (filter is_data (range_with_len k n))

-- the number of words in the whole frames
abbrev pub word_count : List ℕ → ℕ
word_count payload = 16 * (length payload / 64)

-- the data words of the whole frames, in their order; those of the first begin after X0 and Xn, its words 1 and 2
abbrev pub data_words : List ℕ → List DataWord
data_words payload = words_from payload 3 (word_count payload - 3)

-- X0, the first sample
abbrev pub first_constant : List ℕ → ℤ
first_constant payload = twos_complement 4 (word_at payload 1)

-- Xn, the last sample
abbrev pub last_constant : List ℕ → ℤ
last_constant payload = twos_complement 4 (word_at payload 2)
