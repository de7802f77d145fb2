-- The digits of a word, one by one. What they are is stated in Spelling; a test of a word's differences
-- goes by these, and each public contract by what is spelled.
use Rattle.std.specs.Prelude.{ℕ, zero, suc, ◌-◌, ◌*◌, ◌/◌, ◌%◌, ◌^◌, ◌==◌, nat_lt, if◌then◌else◌, List, [], ◌∷◌, ℤ, pos}
use Rattle.std.specs.Prelude.{negsuc, Option, Some, None}
use Rattle.mseed_steim.specs.declared.scheme.Scheme.{Scheme}
use Rattle.mseed_steim.specs.Groups.{Group, group_of}

-- what a digit stands for in two's complement
abbrev pub signed : ℕ → ℕ → ℤ
signed width digit = if nat_lt digit (2 ^ (width - 1)) then pos digit else negsuc (2 ^ width - 1 - digit)

-- the digit at a place, counted from the last
abbrev pub digit_at : ℕ → ℕ → ℕ → ℤ
digit_at width word place = signed width (word / 2 ^ (width * place) % 2 ^ width)

-- the last digits of the word
unfoldable pub digits : ℕ → ℕ → ℕ → List ℤ
digits width word zero = []
digits width word (suc count) = digit_at width word count ∷ digits width word count

-- the differences of a group of the table
abbrev pub differences_in : ℕ → Option Group → Option (List ℤ)
differences_in word None = None
differences_in word (Some g) = Some (digits g.width word g.count)

-- the differences of a word, by its code and its top two bits
unfoldable pub differences_of : Scheme → ℕ → ℕ → Option (List ℤ)
differences_of scheme code word =
    if code == 0 then Some [] else differences_in word (group_of scheme code (word / 2 ^ 30))
