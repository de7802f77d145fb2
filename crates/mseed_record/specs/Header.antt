-- The fixed section of a data header, 48 bytes (SEED manual, chapter 8, "Fixed section of data header").
use Rattle.std.specs.Prelude.{ℕ, ◌==◌, ◌&&◌, ◌||◌, nat_le, Bool, if◌then◌else◌, List, [], ◌∷◌, ◌++◌}
use Rattle.std.specs.Prelude.{slice_index, slice_range, take, ℤ}
use Rattle.std.specs.List.{list_all}
use Rattle.byteorder.specs.Endian.{twos_complement}
use Rattle.mseed_time.specs.declared.order.Order.{Order}
use Rattle.mseed_time.specs.Fields.{number_at}
use Rattle.mseed_time.specs.Btime.{Parts, parts_at}

-- a byte of the sequence number: a digit, a space or NUL
abbrev pub is_sequence_byte : ℕ → Bool
is_sequence_byte c = (nat_le 48 c && nat_le c 57) || (c == 32) || (c == 0)

-- the quality indicator: D, R, Q or M
abbrev pub is_quality : ℕ → Bool
is_quality c = (c == 68) || (c == 82) || (c == 81) || (c == 77)

abbrev pub quality_at : List ℕ → ℕ
quality_at b = slice_index b 6

-- the reserved byte: a space or NUL
abbrev pub is_blank : ℕ → Bool
is_blank c = (c == 32) || (c == 0)

-- a code without its trailing spaces and NULs
abbrev pub trimmed : List ℕ → List ℕ
trimmed [] = []
trimmed (c ∷ cs) = if list_all is_blank (c ∷ cs) then [] else c ∷ trimmed cs

-- the bytes that each header has before its station: the sequence number, the quality, the reserved byte
abbrev pub has_fixed_bytes : List ℕ → Bool
has_fixed_bytes b = list_all is_sequence_byte (take 6 b) && is_quality (slice_index b 6) && is_blank (slice_index b 7)

-- The channel's key, 12 bytes: network at 18, station at 8, location at 13, channel at 15.
abbrev pub key_at : List ℕ → List ℕ
key_at b = slice_range b 18 20 ++ slice_range b 8 13 ++ slice_range b 13 15 ++ slice_range b 15 18

-- the BTIME of the start
abbrev pub time_at : Order → List ℕ → Parts
time_at order b = parts_at order 20 b

-- the number of samples
abbrev pub samples_at : Order → List ℕ → ℕ
samples_at order b = number_at order 2 30 b

-- the sample rate's factor and multiplier
abbrev pub factor_at : Order → List ℕ → ℤ
factor_at order b = twos_complement 2 (number_at order 2 32 b)

abbrev pub multiplier_at : Order → List ℕ → ℤ
multiplier_at order b = twos_complement 2 (number_at order 2 34 b)

-- the activity flags
abbrev pub activity_at : List ℕ → ℕ
activity_at b = slice_index b 36

-- the time correction, in ten-thousandths of a second
abbrev pub correction_at : Order → List ℕ → ℤ
correction_at order b = twos_complement 4 (number_at order 4 40 b)

-- where the data begins
abbrev pub data_at : Order → List ℕ → ℕ
data_at order b = number_at order 2 44 b

-- where the first blockette begins
abbrev pub blockette_at : Order → List ℕ → ℕ
blockette_at order b = number_at order 2 46 b
