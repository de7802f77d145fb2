-- A channel's name as it is printed.
use Rattle.std.specs.Prelude.{ℕ, ◌&&◌, nat_le, if◌then◌else◌, List, ◌++◌, map, slice_range, codes}
use Rattle.mseed_record.specs.Header.{trimmed}

-- a byte of a name as it is printed: what is no printable character, or a space, is `?`
abbrev pub printed : ℕ → ℕ
printed c = if nat_le 33 c && nat_le c 126 then c else 63

-- a code as it is printed
abbrev pub code_text : List ℕ → List ℕ
code_text code = map printed (trimmed code)

-- a channel's name: network, station, location and channel
abbrev pub name_text : List ℕ → List ℕ
name_text key =
    code_text (slice_range key 0 2) ++ codes "_" ++ code_text (slice_range key 2 7) ++ codes "_"
    ++ code_text (slice_range key 7 9) ++ codes "_" ++ code_text (slice_range key 9 12)
