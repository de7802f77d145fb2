-- A pattern that fits a channel's codes fits them as they are printed, and the other way round.
use Rattle.std.proofs.Common.{◌≡◌, ℕ, refl, sym, ap, ◌∙◌, arith, true}
use Rattle.std.proofs.Common.{eqb}
use Rattle.std.proofs.Common.{List, [], ◌∷◌, ◌++◌, drop, length, map, take, inl, inr}
use Rattle.std.specs.Prelude.{slice_range}
use Rattle.std.specs.List.{join_with_byte, list_all}
use Rattle.std.proofs.lemmas.Bool.{and_parts}
use Rattle.std.proofs.lemmas.Bool.Decides.{nat_tests}
use Rattle.std.proofs.lemmas.List.{drop-map, drop_at, length-map, map-append, take-append-drop, take-map, take_at}
use Rattle.std.proofs.lemmas.List.Folds.{list_all-append}
use Rattle.std.proofs.lemmas.List.Splits.{join_with_byte-slice_split}
use Rattle.mseed_record.specs.Pattern.{Fits, FitsLocation, Matches, Takes, channel_of, fields_in, is_character}
use Rattle.mseed_record.specs.Pattern.{is_pattern}
use Rattle.mseed_record.specs.Pattern.{location_of, network_of, station_of}
use Rattle.mseed_text.specs.Name.{code_text, printed}
use Rattle.mseed_audit.specs.Printed.{MatchesPrinted, printed_codes}

-- ---- a character
-- what a pattern may have is printed as itself
printed_itself : (c : ℕ) → is_character c ≡ true → printed c ≡ c
printed_itself c e = grind (arith, nat_tests, e)

takes_printed : (c : ℕ) (taken : List ℕ) → is_character c ≡ true → Takes c taken → Takes c (map printed taken)
takes_printed c taken e (inl same) = inl (rw (same, printed_itself c e) refl)
takes_printed c taken e (inr (inl one)) = inr (inl (one.0, length-map taken printed ∙ one.1))
takes_printed c taken e (inr (inr star)) = inr (inr star)

takes_back : (c : ℕ) (taken : List ℕ) → Takes c (map printed taken) → Takes c taken
takes_back c (x ∷ []) (inl same) = grind (arith, nat_tests, same)
takes_back c taken (inl same) = absurd (cc (same))
takes_back c taken (inr (inl one)) = inr (inl (one.0, sym (length-map taken printed) ∙ one.1))
takes_back c taken (inr (inr star)) = inr (inr star)

-- ---- a field
pub fits_printed : (field code : List ℕ) → list_all is_character field ≡ true → Fits field code
    → Fits field (map printed code)
fits_printed [] code all fits = ap (λ (xs : List ℕ). map printed xs) fits
fits_printed (c ∷ cs) code all (taken, (rest, (whole, takes, more))) =
    let both = and_parts (is_character c) (list_all is_character cs) all in
    let same : map printed code ≡ map printed taken ++ map printed rest =
    rw (whole, map-append printed taken rest) refl in
    let first = takes_printed c taken both.0 takes in
    let later = fits_printed cs rest both.1 more in
    (map printed taken, (map printed rest, (same, first, later)))

nothing_printed : (code : List ℕ) → map printed code ≡ [] → code ≡ []
nothing_printed [] e = refl
nothing_printed (x ∷ xs) e = absurd (cc e)

-- what is printed in two parts is in two parts
pub fits_back : (field code : List ℕ) → Fits field (map printed code) → Fits field code
fits_back [] code fits = nothing_printed code fits
fits_back (c ∷ cs) code (taken, (rest, (whole, takes, more))) =
    let n = length taken in
    let front = sym (take-map printed n code) ∙ ap (take n) whole ∙ take_at taken rest n refl in
    let back = sym (drop-map printed n code) ∙ ap (drop n) whole ∙ drop_at taken rest n refl in
    let first = takes_back c (take n code) (rw front takes) in
    let later = fits_back cs (drop n code) (rw back more) in
    (take n code, (drop n code, (sym (take-append-drop n code), first, later)))

location_printed : (field code : List ℕ) → list_all is_character field ≡ true → FitsLocation field code
    → FitsLocation field (map printed code)
location_printed field code all (inl dashes) = inl (dashes.0, rw dashes.1 refl)
location_printed field code all (inr fits) = inr (fits_printed field code all fits)

location_back : (field code : List ℕ) → FitsLocation field (map printed code) → FitsLocation field code
location_back field code (inl dashes) = inl (dashes.0, nothing_printed code dashes.1)
location_back field code (inr fits) = inr (fits_back field code fits)

-- ---- a pattern
part : (a rest : List ℕ) → list_all is_character (a ++ 95 ∷ rest) ≡ true
    → (list_all is_character a ≡ true) × (list_all is_character rest ≡ true)
part a rest e = and_parts (list_all is_character a) _ (rw (list_all-append is_character a (95 ∷ rest)) at e)

pub pattern_printed : (pattern key : List ℕ) → is_pattern pattern ≡ true → Matches pattern key
    → MatchesPrinted pattern (printed_codes key)
pattern_printed pattern key e m =
    let characters = (and_parts (list_all is_character pattern) (eqb (length (fields_in pattern)) 4) e).0 in
    let joins : pattern ≡ join_with_byte 95 (m.network ∷ m.station ∷ m.location ∷ m.channel ∷ []) =
    sym (join_with_byte-slice_split 95 pattern) ∙ ap (λ (ps : List (List ℕ)). join_with_byte 95 ps) m.fields in
    let one = part m.network (m.station ++ 95 ∷ (m.location ++ 95 ∷ m.channel)) (rw joins at characters) in
    let two = part m.station (m.location ++ 95 ∷ m.channel) one.1 in
    let three = part m.location m.channel two.1 in record {
      network = m.network;
      station = m.station;
      location = m.location;
      channel = m.channel;
      network_code = code_text (slice_range key 0 2);
      station_code = code_text (slice_range key 2 7);
      location_code = code_text (slice_range key 7 9);
      channel_code = code_text (slice_range key 9 12);
      fields = m.fields;
      codes_are = refl;
      fits_network = fits_printed m.network (network_of key) one.0 m.fits_network;
      fits_station = fits_printed m.station (station_of key) two.0 m.fits_station;
      fits_location = location_printed m.location (location_of key) three.0 m.fits_location;
      fits_channel = fits_printed m.channel (channel_of key) three.1 m.fits_channel;
    }

pub pattern_back : (pattern key : List ℕ) → MatchesPrinted pattern (printed_codes key) → Matches pattern key
pattern_back pattern key m =
    let network : m.network_code ≡ map printed (network_of key) = sym (cc m.codes_are) in
    let station : m.station_code ≡ map printed (station_of key) = sym (cc m.codes_are) in
    let location : m.location_code ≡ map printed (location_of key) = sym (cc m.codes_are) in
    let channel : m.channel_code ≡ map printed (channel_of key) = sym (cc m.codes_are) in record {
      network = m.network;
      station = m.station;
      location = m.location;
      channel = m.channel;
      fields = m.fields;
      fits_network = fits_back m.network (network_of key) (rw network at m.fits_network);
      fits_station = fits_back m.station (station_of key) (rw station at m.fits_station);
      fits_location = location_back m.location (location_of key)
          (rw location at m.fits_location);
      fits_channel = fits_back m.channel (channel_of key) (rw channel at m.fits_channel);
    }
