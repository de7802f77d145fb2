-- Patterns of channels, and when one matches a channel.
use Rattle.std.specs.Prelude.{◌≡◌, ◌⊎◌, ℕ, ◌==◌, ◌&&◌, ◌||◌, nat_le, Bool, true, false, if◌then◌else◌, List, [], ◌∷◌}
use Rattle.std.specs.Prelude.{◌++◌, length, slice_range, codes, Option, Some, None, ⊤}
use Rattle.std.specs.List.{Any, list_all, list_any, slice_split}
use Rattle.mseed_record.specs.Header.{trimmed}

-- a character that stands for itself: a letter, a digit or `-`
abbrev pub is_literal : ℕ → Bool
is_literal c =
    (nat_le 48 c && nat_le c 57) || (nat_le 65 c && nat_le c 90) || (nat_le 97 c && nat_le c 122) || (c == 45)

-- a character of a pattern: one that stands for itself, `*`, `?`, or the `_` between two fields
abbrev pub is_character : ℕ → Bool
is_character c = is_literal c || (c == 42) || (c == 63) || (c == 95)

-- the patterns of a text stand between its commas, and the fields of a pattern between its `_`
abbrev pub patterns_in : List ℕ → List (List ℕ)
patterns_in text = slice_split (λ c. c == 44) text

abbrev pub fields_in : List ℕ → List (List ℕ)
fields_in pattern = slice_split (λ c. c == 95) pattern

-- a pattern has four fields
abbrev pub is_pattern : List ℕ → Bool
is_pattern pattern = list_all is_character pattern && (length (fields_in pattern) == 4)

-- a text of patterns
abbrev pub are_patterns : List ℕ → Bool
are_patterns text = list_all is_pattern (patterns_in text)

-- what a character of a pattern takes: itself, `?` any one, and `*` any number of them, none too
abbrev pub Takes : ℕ → List ℕ → Type 0
Takes c taken = (taken ≡ c ∷ []) ⊎ (((c ≡ 63) × (length taken ≡ 1)) ⊎ (c ≡ 42))

-- a field fits a code where its characters take the whole code, one after another
abbrev pub Fits : List ℕ → List ℕ → Type 0
Fits [] code = code ≡ []
Fits (c ∷ cs) code = (taken : List ℕ) × ((rest : List ℕ) × ((code ≡ taken ++ rest) × Takes c taken × Fits cs rest))

-- `--` as location is the empty one too
abbrev pub FitsLocation : List ℕ → List ℕ → Type 0
FitsLocation field code = ((field ≡ codes "--") × (code ≡ [])) ⊎ Fits field code

-- the codes of a channel by its key, without their trailing spaces and NULs, as an audit prints them
abbrev pub network_of : List ℕ → List ℕ
network_of key = trimmed (slice_range key 0 2)

abbrev pub station_of : List ℕ → List ℕ
station_of key = trimmed (slice_range key 2 7)

abbrev pub location_of : List ℕ → List ℕ
location_of key = trimmed (slice_range key 7 9)

abbrev pub channel_of : List ℕ → List ℕ
channel_of key = trimmed (slice_range key 9 12)

-- a pattern matches a channel where each of its four fields fits the channel's code
pub record Matches (pattern key : List ℕ) : Type 0 where
  pub network : List ℕ
  pub station : List ℕ
  pub location : List ℕ
  pub channel : List ℕ
  pub fields : fields_in pattern ≡ network ∷ station ∷ location ∷ channel ∷ []
  pub fits_network : Fits network (network_of key)
  pub fits_station : Fits station (station_of key)
  pub fits_location : FitsLocation location (location_of key)
  pub fits_channel : Fits channel (channel_of key)

-- one of these patterns matches it; without patterns each channel is asked for
abbrev pub IsOfChannels : Option (List ℕ) → List ℕ → Type 0
IsOfChannels None key = ⊤
IsOfChannels (Some text) key = Any (λ (pattern : List ℕ). Matches pattern key) (patterns_in text)

-- ---- the same, computed
-- the test holds of the code or of what is left of it after some characters
abbrev pub any_rest : (List ℕ → Bool) → List ℕ → Bool
any_rest test [] = test []
any_rest test (x ∷ xs) = test (x ∷ xs) || any_rest test xs

-- the character takes the first of the code, and the test holds of the rest
abbrev pub after_one : ℕ → (List ℕ → Bool) → List ℕ → Bool
after_one c test [] = false
after_one c test (x ∷ xs) = ((c == 63) || (c == x)) && test xs

abbrev pub fits : List ℕ → List ℕ → Bool
fits [] code = length code == 0
fits (c ∷ cs) code = if c == 42 then any_rest (λ rest. fits cs rest) code else after_one c (λ rest. fits cs rest) code

abbrev pub is_dashes : List ℕ → Bool
is_dashes [] = false
is_dashes (a ∷ []) = false
is_dashes (a ∷ b ∷ []) = (a == 45) && (b == 45)
is_dashes (a ∷ b ∷ c ∷ cs) = false

abbrev pub fits_location : List ℕ → List ℕ → Bool
fits_location field code = (is_dashes field && (length code == 0)) || fits field code

abbrev pub fits_fields : List (List ℕ) → List ℕ → Bool
fits_fields [] key = false
fits_fields (network ∷ []) key = false
fits_fields (network ∷ station ∷ []) key = false
fits_fields (network ∷ station ∷ location ∷ []) key = false
fits_fields (network ∷ station ∷ location ∷ channel ∷ []) key = fits network (network_of key)
    && (fits station (station_of key) && (fits_location location (location_of key) && fits channel (channel_of key)))
fits_fields (network ∷ station ∷ location ∷ channel ∷ more ∷ others) key = false

abbrev pub matches : List ℕ → List ℕ → Bool
matches pattern key = fits_fields (fields_in pattern) key

abbrev pub is_of_channels : Option (List ℕ) → List ℕ → Bool
is_of_channels None key = true
is_of_channels (Some text) key = list_any (λ pattern. matches pattern key) (patterns_in text)
