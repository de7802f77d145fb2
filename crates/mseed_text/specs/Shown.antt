-- What was given to the program, as a line shows it.
use Rattle.std.specs.Prelude.{ℕ, ◌&&◌, nat_le, if◌then◌else◌, List, ◌++◌, codes, length, map, take}

-- a byte as it is shown: one that isn't a printable character of ASCII as `?`
abbrev pub shown_byte : ℕ → ℕ
shown_byte b = if nat_le 32 b && nat_le b 126 then b else 63

-- of more than 60 bytes the first 57, and three dots
abbrev pub shown : List ℕ → List ℕ
shown given =
    if nat_le (length given) 60 then map shown_byte given else map shown_byte (take 57 given) ++ codes "..."
