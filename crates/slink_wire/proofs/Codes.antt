-- A code fills its field, and is what stands there before the first space.
use Rattle.std.proofs.Common.{◌≡◌, ℕ, ◌-◌, zero, suc, refl, sym, ap, ◌∙◌, subst, arith, true, false, not, ◌==◌, ◌&&◌}
use Rattle.std.proofs.Common.{List, [], ◌∷◌, ◌++◌, length, replicate}
use Rattle.std.specs.List.{list_all, position_or_len}
use Rattle.std.specs.Char.{is_ascii_alphanumeric}
use Rattle.std.proofs.lemmas.List.{take_at}
use Rattle.std.specs.Prelude.{Result, Ok, Err, IsOk, IfOk, IsOkAnd, OnErr}
use Rattle.std.proofs.lemmas.Bool.{and_parts, both_ways, ne_eqb}
use Rattle.slink_wire.specs.declared.place.BadPlace.{BadPlace}
use Rattle.slink_wire.specs.Place.{Fields, IsCode, IsField, SpellsPlace, filled, fields_of, code_in}
use Rattle.slink_wire.proofs.Cuts.{Lacks, one_cut, place_after}

-- a byte of a code is neither of these
other_byte : (c : ℕ) → is_ascii_alphanumeric c ≡ false → (b : ℕ) → is_ascii_alphanumeric b ≡ true → not (b == c) ≡ true
other_byte c f b h = ap not (ne_eqb b c (λ same. both_ways _ f (rw same at h)))

-- no byte of a code is this one
pub without : (c : ℕ) → is_ascii_alphanumeric c ≡ false → (code : List ℕ) → list_all is_ascii_alphanumeric code ≡ true
    → list_all (λ b. not (b == c)) code ≡ true
without c f [] h = refl
without c f (b ∷ bs) h =
    let parts : (is_ascii_alphanumeric b ≡ true) × (list_all is_ascii_alphanumeric bs ≡ true) =
    and_parts (is_ascii_alphanumeric b) (list_all is_ascii_alphanumeric bs) h in
    ap (λ v. v && list_all (λ x. not (x == c)) bs) (other_byte c f b parts.0) ∙ without c f bs parts.1

no_code : (n : ℕ) → position_or_len (λ b. b == 32) (replicate n 32) ≡ 0
no_code zero = refl
no_code (suc n) = refl

pub code_in-filled : (width : ℕ) (code : List ℕ) → IsCode width code → code_in (filled width code) ≡ code
code_in-filled width code h = take_at code (replicate (width - length code) 32) _
    (omega (
      arith,
      place_after (λ b. b == 32) code (replicate (width - length code) 32) (without 32 refl code h.2),
      no_code (width - length code),
    ))

pub fills : (width : ℕ) (code : List ℕ) → IsCode width code → IsField width (filled width code)
fills width code h = (
  subst (IsCode width) (sym (code_in-filled width code h)) h,
  ap (filled width) (code_in-filled width code h),
)

pub field_of : (width : ℕ) (field code : List ℕ) → code ≡ code_in field → IsCode width code → filled width code ≡ field
    → IsField width field
field_of width field code is p q = (subst (IsCode width) is p, ap (filled width) (sym is) ∙ q)

-- a text spells the station of its parts around the first underscore, or none
spelled_parts : (text sta net : List ℕ) → text ≡ net ++ 95 ∷ sta → Lacks 95 net → (p : Fields) → SpellsPlace text p
    → IsCode 5 sta × IsCode 2 net × (p ≡ fields_of sta net)
spelled_parts text sta net e lacks p h =
    let same = one_cut 95 h.1 h.0 net sta (without 95 refl h.1 h.3.2) lacks (sym h.4 ∙ e) in (
      subst (IsCode 5) same.1 h.2,
      subst (IsCode 2) same.0 h.3,
      h.5
          ∙ (ap (λ s. fields_of s h.1) same.1 ∙ ap (fields_of sta) same.0),
    )

-- what is answered for those parts is every station that is spelled
pub all_spelled : (r : Result Fields BadPlace) (text sta net : List ℕ) → text ≡ net ++ 95 ∷ sta → Lacks 95 net
    → ((IsCode 5 sta × IsCode 2 net) → IsOk r) → IfOk r (λ q. q ≡ fields_of sta net)
    → (p : Fields) → SpellsPlace text p → IsOkAnd r (λ q. q ≡ p)
all_spelled (Ok q) text sta net e lacks accepted value p h = value ∙ sym (spelled_parts text sta net e lacks p h).2
all_spelled (Err b) text sta net e lacks accepted value p h =
    let parts : IsCode 5 sta × IsCode 2 net × (p ≡ fields_of sta net) = spelled_parts text sta net e lacks p h in
    absurd (let k : false ≡ true = accepted (parts.0, parts.1) in cc k)

-- so nothing is spelled where there is no answer
pub none_spelled : (r : Result Fields BadPlace) (text : List ℕ)
    → ((p : Fields) → SpellsPlace text p → IsOkAnd r (λ q. q ≡ p)) → OnErr r ((p : Fields) → ¬ (SpellsPlace text p))
none_spelled (Ok q) text h = tt
none_spelled (Err b) text h = h
