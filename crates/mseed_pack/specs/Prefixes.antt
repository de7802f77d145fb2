-- What two packings of one series that were broken off have in common.
use Rattle.std.specs.Prelude.{◌≡◌, ◌⊎◌, ℕ, List, ◌++◌}
use Rattle.mseed_stream.specs.Device.{BytesWritten, IsPrefixOf}

-- of two lists of records one is a prefix of the other
abbrev pub ArePrefixes : List (List ℕ) → List (List ℕ) → Type 0
ArePrefixes records others =
    ((rest : List (List ℕ)) × (others ≡ records ++ rest)) ⊎ ((rest : List (List ℕ)) × (records ≡ others ++ rest))

-- each sink accepted some bytes more, and those of one are a prefix of those of the other
pub record HaveTakenPrefixes (old new before after : BytesWritten) : Type 0 where
  pub here : List ℕ
  pub there : List ℕ
  pub bytes : new.bytes ≡ old.bytes ++ here
  pub others : after.bytes ≡ before.bytes ++ there
  pub prefixes : IsPrefixOf here there ⊎ IsPrefixOf there here
