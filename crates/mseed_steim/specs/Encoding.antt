-- How samples stand in a record: encodings, and their codes.
use Rattle.std.specs.Prelude.{ℕ, ◌==◌, if◌then◌else◌, Option, Some, None}
use Rattle.mseed_steim.specs.declared.encoding.Encoding.{Encoding}
use Rattle.mseed_steim.specs.declared.encoding.Encoding.TheVariants.{Int16, Int32, Steim1, Steim2}

-- the code of an encoding (SEED manual, chapter 8, blockette 1000, field 3)
abbrev pub code_of : Encoding → ℕ
code_of Int16 = 1
code_of Int32 = 3
code_of Steim1 = 10
code_of Steim2 = 11

-- the encoding of a code, where it's one that is written
abbrev pub encoding_of : ℕ → Option Encoding
encoding_of code =
    if code == 1 then Some Int16
    else if code == 3 then Some Int32
    else if code == 10 then Some Steim1
    else if code == 11 then Some Steim2
    else None
