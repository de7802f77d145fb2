-- The letters of a pattern, by name.
use Rattle.std.specs.Prelude.{◌≡◌, ◌≤◌, ℕ, List, ◌++◌, codes, length}
use Rattle.std.specs.List.{All, Contains, join_with_byte}

-- what a field is made of
abbrev pub letters : List ℕ
letters = codes "ABCDEFGHIJKLMNOPQRSTUVWXYZabcdefghijklmnopqrstuvwxyz0123456789-*?"

abbrev pub AreLetters : List ℕ → Type 0
AreLetters field = All (λ c. Contains letters c) field

-- four fields, between which `_` stands
pub record IsFourFields (pattern : List ℕ) : Type 0 where
  pub network : List ℕ
  pub station : List ℕ
  pub location : List ℕ
  pub channel : List ℕ
  pub pattern_is : pattern ≡ network ++ codes "_" ++ station ++ codes "_" ++ location ++ codes "_" ++ channel
  pub network_is : AreLetters network
  pub station_is : AreLetters station
  pub location_is : AreLetters location
  pub channel_is : AreLetters channel

-- one or more of them, between which `,` stands
pub record AreFourFields (text : List ℕ) : Type 0 where
  pub patterns : List (List ℕ)
  pub some : 1 ≤ length patterns
  pub text_is : text ≡ join_with_byte 44 patterns
  pub each : All IsFourFields patterns
