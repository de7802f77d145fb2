-- Numbers in hexadecimal digits, as packets and commands give the number of a record (SeedLink 3, sequence numbers).
use Rattle.std.specs.Prelude.{◌≡◌, ℕ, zero, suc, ◌+◌, ◌/◌, ◌%◌, ◌^◌, ◌<◌, List, [], ◌∷◌, ◌++◌, length, map, nat_lt}
use Rattle.std.specs.Prelude.{if◌then◌else◌}
use Rattle.std.specs.Char.{to_ascii_uppercase}

-- the byte that writes a digit: 0-9, then A-F
abbrev pub digit_byte : ℕ → ℕ
digit_byte d = if nat_lt d 10 then 48 + d else 55 + d

-- a number in this many digits to the base sixteen, the lowest last
unfoldable pub hexadecimal : ℕ → ℕ → List ℕ
hexadecimal zero n = []
hexadecimal (suc k) n = hexadecimal k (n / 16) ++ digit_byte (n % 16) ∷ []

-- digits, in either case, that say a number
abbrev pub SpellsNumber : List ℕ → ℕ → Type 0
SpellsNumber digits n = (n < 16 ^ length digits) × (map to_ascii_uppercase digits ≡ hexadecimal (length digits) n)
