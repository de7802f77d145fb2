-- How many links are out.
use Rattle.std.specs.Prelude.{◌≡◌, ℕ, ◌+◌, List, length}
use Rattle.mseed_stream.specs.Exchanges.{Exchange}

-- Of the calls for a link some failed, the links of others were given back, and those of `n` are out.
abbrev pub AreOut : ℕ → ℕ → ℕ → List Exchange → Type 0
AreOut n calls failures given_back = failures + length given_back + n ≡ calls
