-- The line of a request stands in a stream as it is.
use Rattle.std.proofs.Common.{◌≡◌, ℕ, ◌+◌, ◌≤◌, refl, ap, ◌∙◌, arith, not, ◌==◌}
use Rattle.std.proofs.Common.{◌&&◌, List, [], ◌∷◌, ◌++◌, length, length-append, codes, Option, Some, None}
use Rattle.std.specs.List.{list_all}
use Rattle.std.proofs.lemmas.List.Folds.{list_all-append}
use Rattle.slink_wire.specs.declared.request.Request.{Request}
use Rattle.slink_wire.specs.declared.request.Request.TheVariants.{Station, Data, Fetch, End}
use Rattle.slink_wire.specs.Command.{IsCommand}
use Rattle.slink_wire.specs.Place.{Fields, IsField, code_in}
use Rattle.slink_wire.specs.Request.{HasPlace, IsSpelled, number_bytes, request_line, requested}
use Rattle.slink_wire.specs.Lines.{stripped}
use Rattle.slink_wire.specs.Written.{IsLine}
use Rattle.slink_wire.proofs.Codes.{without}
use Rattle.slink_wire.proofs.Cuts.{Lacks}
use Rattle.slink_wire.proofs.Digits.{digit_above, digits_lack, length-hexadecimal}
use Rattle.slink_wire.proofs.Requests.{data_written, end_written, fetch_written, station_written}

lacks_both : (xs ys : List ℕ) → Lacks 13 xs → Lacks 13 ys → Lacks 13 (xs ++ ys)
lacks_both xs ys p q = list_all-append (λ b. not (b == 13)) xs ys
    ∙ (ap (λ t. t && list_all (λ b. not (b == 13)) ys) p ∙ q)

number_lacks : (number : Option ℕ) → Lacks 13 (number_bytes number)
number_lacks None = refl
number_lacks (Some n) = digits_lack 13 (λ d small e. omega (arith, digit_above d, e)) 6 n

number_long : (number : Option ℕ) → length (number_bytes number) ≤ 7
number_long None = omega arith
number_long (Some n) = omega (arith, length-hexadecimal 6 n)

pub station_line : (place : Fields) → IsField 5 place.station → IsField 2 place.network
    → IsLine (request_line (Station place))
station_line place p q =
    let sta : List ℕ = code_in place.station in
    let net : List ℕ = code_in place.network in
    let long : length ((sta ++ 32 ∷ []) ++ net) ≡ length sta + 1 + length net = length-append (sta ++ 32 ∷ []) net
    ∙ ap (λ n. n + length net) (length-append sta (32 ∷ [])) in
    record {
      some = omega arith;
      short = omega (arith, long, p.0.1, q.0.1);
      no_cr = lacks_both (codes "STATION ") ((sta ++ 32 ∷ []) ++ net) refl
          (lacks_both (sta ++ 32 ∷ []) net (lacks_both sta (32 ∷ []) (without 13 refl sta p.0.2) refl)
          (without 13 refl net q.0.2));
      no_lf = refl;
    }

-- a keyword, with a number after it
numbered_line : (word : List ℕ) (number : Option ℕ) → 1 ≤ length word → length word ≤ 8 → Lacks 13 word
    → stripped (word ++ number_bytes number) ≡ word ++ number_bytes number → IsLine (word ++ number_bytes number)
numbered_line word number some short lacks no_lf =
    let long : length (word ++ number_bytes number) ≡ length word + length (number_bytes number) =
    length-append word (number_bytes number) in
    record {
      some = omega (arith, long, some);
      short = omega (arith, long, short, number_long number);
      no_cr = lacks_both word (number_bytes number) lacks (number_lacks number);
      no_lf = no_lf;
    }

pub data_line : (number : Option ℕ) → IsLine (request_line (Data number))
data_line number = numbered_line (codes "DATA") number (omega arith) (omega arith) refl refl

pub fetch_line : (number : Option ℕ) → IsLine (request_line (Fetch number))
fetch_line number = numbered_line (codes "FETCH") number (omega arith) (omega arith) refl refl

pub end_line : IsLine (request_line End)
end_line = record { some = omega arith; short = omega arith; no_cr = refl; no_lf = refl }

pub line_of_request : (r : Request) → IsSpelled r → HasPlace r → IsLine (request_line r)
line_of_request (Station place) spelled has = station_line place has.0 has.1
line_of_request (Data number) spelled has = data_line number
line_of_request (Fetch number) spelled has = fetch_line number
line_of_request End spelled has = end_line

pub command_of_request : (r : Request) → IsSpelled r → HasPlace r → IsCommand (request_line r) (requested r)
command_of_request (Station place) spelled has = station_written place.station place.network has.0 has.1
command_of_request (Data number) spelled has = data_written number spelled
command_of_request (Fetch number) spelled has = fetch_written number spelled
command_of_request End spelled has = end_written
