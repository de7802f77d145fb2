-- A pattern matches a channel exactly where the test says so.
use Rattle.std.proofs.Common.{◌≡◌, ℕ, refl, arith, true, ◌&&◌, List, [], ◌∷◌, length, eqb}
use Rattle.std.proofs.Common.{Option, Some, None, codes}
use Rattle.std.specs.Bool.{Decides}
use Rattle.std.specs.List.{Any}
use Rattle.std.proofs.lemmas.Bool.{and_parts, eqb-true}
use Rattle.std.proofs.lemmas.Bool.Decides.{Decides-and, Decides-or, nat_tests}
use Rattle.std.proofs.lemmas.List.Folds.{Any-from_list_any, list_any-from_Any}
use Rattle.mseed_record.specs.Pattern.{FitsLocation, IsOfChannels, Matches, channel_of, fields_in, fits, fits_fields}
use Rattle.mseed_record.specs.Pattern.{fits_location, is_dashes, is_of_channels, location_of, matches, network_of}
use Rattle.mseed_record.specs.Pattern.{patterns_in, station_of}
use Rattle.mseed_select.proofs.Fitting.{fits_decides}
use Rattle.std.proofs.lemmas.List.{nil_from_length}

dashes_decides : (field : List ℕ) → Decides (is_dashes field) (field ≡ codes "--")
dashes_decides field = (λ e. grind (arith, nat_tests, e), λ e. rw e refl)

none_decides : (code : List ℕ) → Decides (eqb (length code) 0) (code ≡ [])
none_decides code = (λ e. nil_from_length code (eqb-true (length code) 0 e), λ e. rw e refl)

location_decides : (field code : List ℕ) → Decides (fits_location field code) (FitsLocation field code)
location_decides field code = Decides-or (is_dashes field && eqb (length code) 0) (fits field code)
    (Decides-and (is_dashes field) (eqb (length code) 0) (dashes_decides field) (none_decides code))
    (fits_decides field code)

matches_by : (parts : List (List ℕ)) (pattern key : List ℕ) → fields_in pattern ≡ parts → fits_fields parts key ≡ true
    → Matches pattern key
matches_by (n ∷ s ∷ l ∷ c ∷ []) pattern key e h =
    let one = and_parts (fits n (network_of key)) _ h in
    let two = and_parts (fits s (station_of key)) _ one.1 in
    let three = and_parts (fits_location l (location_of key)) _ two.1 in record {
      network = n;
      station = s;
      location = l;
      channel = c;
      fields = e;
      fits_network = (fits_decides n (network_of key)).0 one.0;
      fits_station = (fits_decides s (station_of key)).0 two.0;
      fits_location = (location_decides l (location_of key)).0 three.0;
      fits_channel = (fits_decides c (channel_of key)).0 three.1;
    }
matches_by parts pattern key e h = cc (h)

matches_back : (pattern key : List ℕ) → Matches pattern key → matches pattern key ≡ true
matches_back pattern key m = rw (
  m.fields,
  (fits_decides m.network (network_of key)).1 m.fits_network,
  (fits_decides m.station (station_of key)).1 m.fits_station,
  (location_decides m.location (location_of key)).1 m.fits_location,
) ((fits_decides m.channel (channel_of key)).1 m.fits_channel)

pub channels_yes : (o : Option (List ℕ)) (key : List ℕ) → is_of_channels o key ≡ true → IsOfChannels o key
channels_yes None key e = tt
channels_yes (Some text) key e =
    let a : Any (λ (pattern : List ℕ). matches pattern key ≡ true) (patterns_in text) =
    Any-from_list_any (λ (pattern : List ℕ). matches pattern key) (patterns_in text) e in
    (a.0, a.1, a.2, a.3, matches_by (fields_in a.1) a.1 key refl a.4)

pub channels_back : (o : Option (List ℕ)) (key : List ℕ) → IsOfChannels o key → is_of_channels o key ≡ true
channels_back None key t = refl
channels_back (Some text) key a = list_any-from_Any (λ (pattern : List ℕ). matches pattern key) (patterns_in text)
    (a.0, a.1, a.2, a.3, matches_back a.1 key a.4)
