-- A pattern, held against a channel's name as it is printed.
use Rattle.std.specs.Prelude.{◌≡◌, ℕ, List, [], ◌∷◌, slice_range}
use Rattle.mseed_record.specs.Pattern.{Fits, FitsLocation, fields_in}
use Rattle.mseed_text.specs.Name.{code_text}

-- the four codes of a channel as they are printed
abbrev pub printed_codes : List ℕ → List (List ℕ)
printed_codes key = code_text (slice_range key 0 2) ∷ code_text (slice_range key 2 7) ∷ code_text (slice_range key 7 9)
    ∷ code_text (slice_range key 9 12) ∷ []

-- a pattern matches a channel's printed codes where each of its four fields fits one
pub record MatchesPrinted (pattern : List ℕ) (codes : List (List ℕ)) : Type 0 where
  pub network : List ℕ
  pub station : List ℕ
  pub location : List ℕ
  pub channel : List ℕ
  pub network_code : List ℕ
  pub station_code : List ℕ
  pub location_code : List ℕ
  pub channel_code : List ℕ
  pub fields : fields_in pattern ≡ network ∷ station ∷ location ∷ channel ∷ []
  pub codes_are : codes ≡ network_code ∷ station_code ∷ location_code ∷ channel_code ∷ []
  pub fits_network : Fits network network_code
  pub fits_station : Fits station station_code
  pub fits_location : FitsLocation location location_code
  pub fits_channel : Fits channel channel_code
