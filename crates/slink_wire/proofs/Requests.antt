-- The line of a request is its command.
use Rattle.std.proofs.Common.{◌≡◌, ℕ, ◌≤◌, ◌<◌, ◌^◌, inl, refl, sym, subst, ap, ◌∙◌, arith, Option, Some, None, List}
use Rattle.std.proofs.Common.{[], ◌∷◌, ◌++◌, length, append_assoc, codes}
use Rattle.slink_wire.specs.declared.command.Command.TheVariants.{Station, Data, Fetch, End}
use Rattle.slink_wire.specs.Hexadecimal.{hexadecimal}
use Rattle.slink_wire.specs.Command.{IsCommand, IsRow, IsNumber, folded, words}
use Rattle.slink_wire.specs.Place.{IsField, code_in}
use Rattle.slink_wire.specs.Request.{IsShort, number_bytes}
use Rattle.slink_wire.proofs.Codes.{without}
use Rattle.slink_wire.proofs.Cuts.{Lacks}
use Rattle.slink_wire.proofs.Digits.{digit_above, digits_lack, length-hexadecimal}
use Rattle.slink_wire.proofs.Packets.{spells_itself}
use Rattle.slink_wire.proofs.Worded.{words_last, words_then}

is_number : (n : ℕ) → n < 2 ^ 24 → IsNumber (hexadecimal 6 n) n
is_number n h = (omega (arith, length-hexadecimal 6 n), omega (arith, length-hexadecimal 6 n), spells_itself n h)

two_words : (keyword : List ℕ) (n : ℕ) → 1 ≤ length keyword → Lacks 32 keyword
    → words (keyword ++ 32 ∷ hexadecimal 6 n) ≡ keyword ∷ hexadecimal 6 n ∷ []
two_words keyword n h lacks = words_then keyword (hexadecimal 6 n) h lacks
    ∙ ap (λ ws. keyword ∷ ws) (words_last (hexadecimal 6 n) (omega (arith, length-hexadecimal 6 n))
    (digits_lack 32 (λ d small e. omega (arith, digit_above d, e)) 6 n))

pub data_written : (number : Option ℕ) → IsShort number → IsCommand (codes "DATA" ++ number_bytes number) (Data number)
data_written None h = rw (words_last (codes "DATA") (omega arith) refl) (inl refl)
data_written (Some n) h = subst (λ ws. IsRow (Data (Some n)) (folded ws))
    (sym (two_words (codes "DATA") n (omega arith) refl)) (inl (hexadecimal 6 n, is_number n h, refl))

pub fetch_written : (number : Option ℕ) → IsShort number
    → IsCommand (codes "FETCH" ++ number_bytes number) (Fetch number)
fetch_written None h = rw (words_last (codes "FETCH") (omega arith) refl) (inl refl)
fetch_written (Some n) h = subst (λ ws. IsRow (Fetch (Some n)) (folded ws))
    (sym (two_words (codes "FETCH") n (omega arith) refl)) (inl (hexadecimal 6 n, is_number n h, refl))

pub end_written : IsCommand (codes "END") End
end_written = subst (λ ws. IsRow End (folded ws)) (sym (words_last (codes "END") (omega arith) refl)) (inl refl)

pub station_written : (station network : List ℕ) → IsField 5 station → IsField 2 network
    → IsCommand (codes "STATION " ++ code_in station ++ codes " " ++ code_in network) (Station station (Some network))
station_written station network p q =
    let sta : List ℕ = code_in station in
    let net : List ℕ = code_in network in
    let beyond : words (sta ++ 32 ∷ net) ≡ sta ∷ net ∷ [] = words_then sta net p.0.0 (without 32 refl sta p.0.2)
    ∙ ap (λ ws. sta ∷ ws) (words_last net q.0.0 (without 32 refl net q.0.2)) in
    let line : words (codes "STATION " ++ sta ++ codes " " ++ net) ≡ codes "STATION" ∷ sta ∷ net ∷ [] =
    ap (λ x. words (codes "STATION " ++ x)) (append_assoc sta (32 ∷ []) net)
    ∙ (words_then (codes "STATION") (sta ++ 32 ∷ net) (omega arith) refl
    ∙ ap (λ ws. codes "STATION" ∷ ws) beyond) in
    rw line (inl (sta, net, p.0, q.0, sym p.1, sym q.1, refl))
