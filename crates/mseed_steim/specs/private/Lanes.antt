-- The sixteen words of a frame, as they stand in lanes: what a word adds by its row, and by which parts of its bytes.
use Rattle.std.specs.Prelude.{◌≡◌, ◌⊎◌, ℕ, ℤ, pos, ◌+ℤ◌, ◌+◌, ◌-◌, ◌*◌, ◌/◌, ◌%◌, ◌^◌, nat_lt, if◌then◌else◌, nat_abs}
use Rattle.std.specs.Prelude.{List, [], ◌∷◌, map, slice_index, bit_and, bit_xor}
use Rattle.std.specs.Simd.Lanes.{sum_l}
use Rattle.mseed_steim.specs.declared.scheme.Scheme.{Scheme}
use Rattle.mseed_steim.specs.declared.scheme.Scheme.TheVariants.{One, Two}
use Rattle.mseed_steim.specs.private.Digits.{digits}

-- the word of four bytes
abbrev pub word_of : ℕ → ℕ → ℕ → ℕ → ℕ
word_of a b c d = a * 16777216 + b * 65536 + c * 256 + d

-- the sum of some differences
abbrev pub total : List ℤ → ℤ
total [] = pos 0
total (x ∷ xs) = x +ℤ total xs

-- the sum of what they are without their signs: no sum of some of them is further from 0
abbrev pub span : List ℤ → ℕ
span [] = 0
span (x ∷ xs) = nat_abs x + span xs

-- the places of a frame's words
unfoldable pub words : List ℕ
words = 0 ∷ 1 ∷ 2 ∷ 3 ∷ 4 ∷ 5 ∷ 6 ∷ 7 ∷ 8 ∷ 9 ∷ 10 ∷ 11 ∷ 12 ∷ 13 ∷ 14 ∷ 15 ∷ []

-- a byte of a word
abbrev pub byte_at : List ℕ → ℕ → ℕ → ℕ
byte_at frame place word = slice_index frame (4 * word + place)

abbrev pub word_at : List ℕ → ℕ → ℕ
word_at frame word = word_of (byte_at frame 0 word) (byte_at frame 1 word) (byte_at frame 2 word) (byte_at frame 3 word)

-- the code of a word: two bits of the first word
abbrev pub code_at : List ℕ → ℕ → ℕ
code_at frame word = word_at frame 0 / 2 ^ (30 - 2 * word) % 4

-- the same, where the words before the first that is added have none
abbrev pub code_from : List ℕ → ℕ → ℕ → ℕ
code_from frame from word = if nat_lt word from then 0 else code_at frame word

-- the row of a word: its code, and its top two bits
abbrev pub row_at : List ℕ → ℕ → ℕ → ℕ
row_at frame from word = 4 * code_from frame from word + word_at frame word / 2 ^ 30

-- which bits of the codes count, by the word that is the first to be added: word 1, word 4 or word 3
abbrev pub Begins : List ℕ → ℕ → Type 0
Begins begin from =
    ((from ≡ 1) × (begin ≡ 0 ∷ 48 ∷ 12 ∷ 3 ∷ 192 ∷ 48 ∷ 12 ∷ 3 ∷ 192 ∷ 48 ∷ 12 ∷ 3 ∷ 192 ∷ 48 ∷ 12 ∷ 3 ∷ []))
    ⊎ (((from ≡ 4) × (begin ≡ 0 ∷ 0 ∷ 0 ∷ 0 ∷ 192 ∷ 48 ∷ 12 ∷ 3 ∷ 192 ∷ 48 ∷ 12 ∷ 3 ∷ 192 ∷ 48 ∷ 12 ∷ 3 ∷ []))
    ⊎ ((from ≡ 3) × (begin ≡ 0 ∷ 0 ∷ 0 ∷ 3 ∷ 192 ∷ 48 ∷ 12 ∷ 3 ∷ 192 ∷ 48 ∷ 12 ∷ 3 ∷ 192 ∷ 48 ∷ 12 ∷ 3 ∷ [])))

-- the numbers of a table that holds the groups of Steim-2 alone
abbrev pub table_two : ℕ → ℕ → ℕ → ℕ → ℕ → ℕ → List ℕ
table_two a b c d e f = 0 ∷ 0 ∷ 0 ∷ 0 ∷ a ∷ a ∷ a ∷ a ∷ 0 ∷ 0 ∷ b ∷ c ∷ d ∷ e ∷ f ∷ 0 ∷ []

-- how many differences a word of a row has; 128 where it is bad or has one of 30 bits
unfoldable pub counts_two : List ℕ
counts_two = 0 ∷ 0 ∷ 0 ∷ 0 ∷ 4 ∷ 4 ∷ 4 ∷ 4 ∷ 128 ∷ 128 ∷ 2 ∷ 3 ∷ 5 ∷ 6 ∷ 7 ∷ 128 ∷ []

-- and of how many bits
unfoldable pub widths_two : List ℕ
widths_two = table_two 8 15 10 6 5 4

-- what a byte's part counts for
abbrev pub kept : List ℕ → List ℕ → ℕ → ℕ → ℕ
kept mask weight row byte = bit_and byte (slice_index mask row) * slice_index weight row

abbrev pub kept_by : List ℕ → ℕ → ℕ → ℕ → ℕ
kept_by mask weight row byte = bit_and byte (slice_index mask row) * weight

-- a byte with some bits turned over
abbrev pub turned : List ℕ → ℕ → ℕ → ℕ
turned table row byte = bit_xor byte (slice_index table row)

abbrev pub turned_at : List ℕ → List ℕ → ℕ → ℕ → ℕ → ℕ
turned_at table frame from place word = turned table (row_at frame from word) (byte_at frame place word)

-- Five planes: of each word its row, and what stands for each of its four bytes.
pub record AreLanes (row byte_a byte_b byte_c byte_d : ℕ → ℕ) (rows a b c d : List ℕ) : Type 0 where
  pub rows_are : rows ≡ map row words
  pub first : a ≡ map byte_a words
  pub second : b ≡ map byte_b words
  pub third : c ≡ map byte_c words
  pub fourth : d ≡ map byte_d words

-- The sums come, modulo 2^32, to what a part of each word counts for, by its row and bytes.
abbrev pub AddsUp : (ℕ → ℕ → ℕ → ℕ → ℕ → ℕ) → List ℕ → List ℕ → List ℕ → List ℕ → List ℕ → List ℕ → Type 0
AddsUp part rows a b c d sums =
    (row byte_a byte_b byte_c byte_d : ℕ → ℕ) → AreLanes row byte_a byte_b byte_c byte_d rows a b c d
    → sum_l sums % 4294967296
    ≡ sum_l (map (λ w. part (row w) (byte_a w) (byte_b w) (byte_c w) (byte_d w)) words) % 4294967296

-- by a word's row and bytes: what counts for less than 1, 128-fold
unfoldable pub fine_two : ℕ → ℕ → ℕ → ℕ → ℕ → ℕ
fine_two row a b c d =
    kept_by (table_two 0 0 0 0 62 0) 64 row a + kept (table_two 0 0 240 252 240 240) (table_two 0 0 8 32 8 8) row b
    + kept (table_two 0 0 252 240 124 240) (table_two 0 0 32 8 32 8) row c + kept_by (table_two 0 128 0 0 128 0) 1 row c
    + kept (table_two 0 0 0 192 224 240) (table_two 0 0 0 2 4 8) row d

unfoldable pub ones_two : ℕ → ℕ → ℕ → ℕ → ℕ → ℕ
ones_two row a b c d =
    kept (table_two 255 0 63 63 1 15) (table_two 1 0 16 1 16 1) row a + kept (table_two 255 255 15 3 15 15)
    (table_two 1 2 64 16 2 1) row b
    + kept (table_two 255 0 0 15 3 15) (table_two 1 0 0 4 8 1) row c + kept_by (table_two 255 255 255 63 31 15) 1 row d

-- what counts 256-fold
unfoldable pub coarse_two : ℕ → ℕ → ℕ → ℕ → ℕ → ℕ
coarse_two row a b c d = kept_by (table_two 0 63 0 0 0 0) 2 row a + kept_by (table_two 0 127 3 0 0 0) 1 row c

-- the sum over some words
abbrev pub sum_z : List ℤ → ℤ
sum_z [] = pos 0
sum_z (x ∷ xs) = x +ℤ sum_z xs

-- a table of 4x8, and of 2x16
abbrev pub table_one : ℕ → ℕ → List ℕ
table_one a b = 0 ∷ 0 ∷ 0 ∷ 0 ∷ a ∷ a ∷ a ∷ a ∷ b ∷ b ∷ b ∷ b ∷ 0 ∷ 0 ∷ 0 ∷ 0 ∷ []

-- how many differences a word of a row has; 128 where it has one of 32 bits
unfoldable pub counts_one : List ℕ
counts_one = 0 ∷ 0 ∷ 0 ∷ 0 ∷ 4 ∷ 4 ∷ 4 ∷ 4 ∷ 2 ∷ 2 ∷ 2 ∷ 2 ∷ 128 ∷ 128 ∷ 128 ∷ 128 ∷ []

unfoldable pub widths_one : List ℕ
widths_one = table_one 8 16

-- the same by the scheme
abbrev pub counts_of : Scheme → List ℕ
counts_of One = counts_one
counts_of Two = counts_two

abbrev pub widths_of : Scheme → List ℕ
widths_of One = widths_one
widths_of Two = widths_two

-- The same where words with a difference of 30 or 32 bits count too: 128 where a word is bad.
unfoldable pub all_counts_two : List ℕ
all_counts_two = 0 ∷ 0 ∷ 0 ∷ 0 ∷ 4 ∷ 4 ∷ 4 ∷ 4 ∷ 128 ∷ 1 ∷ 2 ∷ 3 ∷ 5 ∷ 6 ∷ 7 ∷ 128 ∷ []

unfoldable pub all_widths_two : List ℕ
all_widths_two = 0 ∷ 0 ∷ 0 ∷ 0 ∷ 8 ∷ 8 ∷ 8 ∷ 8 ∷ 0 ∷ 30 ∷ 15 ∷ 10 ∷ 6 ∷ 5 ∷ 4 ∷ 0 ∷ []

unfoldable pub all_counts_one : List ℕ
all_counts_one = 0 ∷ 0 ∷ 0 ∷ 0 ∷ 4 ∷ 4 ∷ 4 ∷ 4 ∷ 2 ∷ 2 ∷ 2 ∷ 2 ∷ 1 ∷ 1 ∷ 1 ∷ 1 ∷ []

unfoldable pub all_widths_one : List ℕ
all_widths_one = 0 ∷ 0 ∷ 0 ∷ 0 ∷ 8 ∷ 8 ∷ 8 ∷ 8 ∷ 16 ∷ 16 ∷ 16 ∷ 16 ∷ 32 ∷ 32 ∷ 32 ∷ 32 ∷ []

abbrev pub all_counts : Scheme → List ℕ
all_counts One = all_counts_one
all_counts Two = all_counts_two

abbrev pub all_widths : Scheme → List ℕ
all_widths One = all_widths_one
all_widths Two = all_widths_two

-- the differences of a word by its row, where one table has how many they are and another of how many bits
abbrev pub differences_by : List ℕ → List ℕ → List ℕ → ℕ → ℕ → List ℤ
differences_by counts widths frame from word =
    digits (slice_index widths (row_at frame from word)) (word_at frame word)
    (slice_index counts (row_at frame from word))

-- their sum, where none has 30 or 32 bits
abbrev pub moved : Scheme → List ℕ → ℕ → ℕ → ℤ
moved scheme frame from word = total (differences_by (counts_of scheme) (widths_of scheme) frame from word)

unfoldable pub low_one : ℕ → ℕ → ℕ → ℕ → ℕ → ℕ
low_one row a b c d =
    kept_by (table_one 255 0) 1 row a + kept_by (table_one 255 255) 1 row b + kept_by (table_one 255 0) 1 row c
    + kept_by (table_one 255 255) 1 row d

unfoldable pub high_one : ℕ → ℕ → ℕ → ℕ → ℕ → ℕ
high_one row a b c d = kept_by (table_one 0 255) 1 row a + kept_by (table_one 0 255) 1 row c
