-- Numbers as the arguments of the command line spell them.
use Rattle.std.specs.Prelude.{ℕ, Bool, ◌+◌, ◌-◌, ◌*◌, ◌^◌, ◌==◌, ◌&&◌, not, nat_le, [], ◌∷◌, length, if◌then◌else◌}
use Rattle.std.specs.Prelude.{Option, Some, None}
use Rattle.std.specs.List.{list_all}
use Rattle.std.specs.Char.{is_ascii_hexdigit}
use Rattle.std.specs.Str.Parse.{digits_value, without_leading_plus}
use Rattle.clap.specs.ValueTests.{is_unsigned_in}
use Rattle.clap.specs.Walk.{Text}

-- decimal digits as a number, the highest first
abbrev pub value_of : Text → ℕ
value_of [] = 0
value_of (c ∷ cs) = (c - 48) * 10 ^ length cs + value_of cs

abbrev pub is_digit : ℕ → Bool
is_digit c = nat_le 48 c && nat_le c 57

-- the number of decimal digits, one to `most`, which may begin with zeros
abbrev pub number_within : ℕ → Text → Option ℕ
number_within most text =
    if not (length text == 0) && nat_le (length text) most && list_all is_digit text then Some (value_of text) else None

-- one to seven
abbrev pub number_in : Text → Option ℕ
number_in text = number_within 7 text

-- one to six hexadecimal digits, in either case
abbrev pub hexadecimal_in : Text → Option ℕ
hexadecimal_in text =
    if nat_le 1 (length text) && (nat_le (length text) 6 && list_all is_ascii_hexdigit text) then Some
    (digits_value 16 text) else None

-- a number from 1 to `most`, as `clap` reads it: decimal digits, of any count and with a plus before it or none
abbrev pub counted_in : ℕ → Text → Option ℕ
counted_in most text = if is_unsigned_in 1 most text then Some (digits_value 10 (without_leading_plus text)) else None
