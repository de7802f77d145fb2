-- How a series is packed.
use Rattle.std.specs.Prelude.{⊤, ℕ, nat_lt, not, is_some, if◌then◌else◌, Option, Some, None}
use Rattle.mseed_time.specs.Btime.{is_within}
pub use Rattle.mseed_steim.specs.Encoding.{code_of, encoding_of}
use Rattle.mseed_steim.specs.declared.encoding.Encoding.{Encoding}
use Rattle.mseed_steim.specs.declared.encoding.Encoding.TheVariants.{Int16, Int32, Steim1, Steim2}
use Rattle.mseed_pack.specs.declared.options.BadOption.{BadOption}
use Rattle.mseed_pack.specs.declared.options.BadOption.TheVariants.{Exponent, Encoding as NoEncoding, Sequence}

-- an encoding of differences in frames: either Steim
abbrev pub IsSteim : Encoding → Type 0
IsSteim Int16 = ⊥
IsSteim Int32 = ⊥
IsSteim Steim1 = ⊤
IsSteim Steim2 = ⊤

-- the first option that can't be
abbrev pub first_bad_option : ℕ → ℕ → ℕ → Option BadOption
first_bad_option exponent encoding sequence =
    if not (is_within 7 12 exponent) then Some Exponent
    else if not (is_some (encoding_of encoding)) then Some NoEncoding
    else if nat_lt 999_999 sequence then Some Sequence
    else None
