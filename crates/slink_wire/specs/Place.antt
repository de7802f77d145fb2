-- Stations and their networks, as commands spell them and as a header's fields have them (SEED manual, chapter 8,
-- "Fixed section of data header").
use Rattle.std.specs.Prelude.{◌≡◌, ℕ, Bool, ◌-◌, ◌≤◌, ◌==◌, ◌&&◌, IsTrue, Option, Some, None, bytes_eq, List, ◌∷◌, ◌++◌}
use Rattle.std.specs.Prelude.{◌<◌, ◌^◌, All, IfSome, length, replicate, slice_range}
use Rattle.std.specs.List.{list_all, before_first}
use Rattle.std.specs.Char.{is_ascii_alphanumeric}

-- the two fields of a header, at their full width
pub record Fields : Type 0 where
  pub station : List ℕ
  pub network : List ℕ

-- a code: 1 to `width` ASCII letters or digits
abbrev pub IsCode : ℕ → List ℕ → Type 0
IsCode width code = (1 ≤ length code) × (length code ≤ width) × IsTrue (list_all is_ascii_alphanumeric code)

-- a code as a field has it: filled with spaces
abbrev pub filled : ℕ → List ℕ → List ℕ
filled width code = code ++ replicate (width - length code) 32

-- the fields of a station and its network
abbrev pub fields_of : List ℕ → List ℕ → Fields
fields_of sta net = record { station = filled 5 sta; network = filled 2 net }

-- what a field holds before its first space
abbrev pub code_in : List ℕ → List ℕ
code_in field = before_first (λ b. b == 32) field

-- a field that a code fills
abbrev pub IsField : ℕ → List ℕ → Type 0
IsField width field = IsCode width (code_in field) × (filled width (code_in field) ≡ field)

-- The record's header has these fields: the station at 8, the network at 18.
abbrev pub Bears : List ℕ → Fields → Type 0
Bears bytes fields = (slice_range bytes 8 13 ≡ fields.station) × (slice_range bytes 18 20 ≡ fields.network)

-- The text is the network's code, an underscore, and the station's code.
abbrev pub SpellsPlace : List ℕ → Fields → Type 0
SpellsPlace text fields = (sta net : List ℕ) × IsCode 5 sta × IsCode 2 net × (text ≡ net ++ 95 ∷ sta)
    × (fields ≡ fields_of sta net)

-- the text that spells a station
abbrev pub label_of : Fields → List ℕ
label_of fields = code_in fields.network ++ 95 ∷ code_in fields.station

-- the station has this station, in this network or in any
abbrev pub matches : Fields → List ℕ → Option (List ℕ) → Bool
matches place sta None = bytes_eq place.station sta
matches place sta (Some net) = bytes_eq place.station sta && bytes_eq place.network net

-- The numbers of the records that are wanted first of stations have 24 bits, where they are given.
abbrev pub AreNumbers : List (Fields × Option ℕ) → Type 0
AreNumbers places = All (λ p. IfSome p.1 (λ n. n < 2 ^ 24)) places
