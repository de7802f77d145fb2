-- A field's piece up to its first `*` is best put as far to the front as it fits.
use Rattle.std.proofs.Common.{◌≡◌, ◌≢◌, ℕ, refl, sym, ◌∙◌, arith, Bool, true, ◌&&◌, ◌||◌}
use Rattle.std.proofs.Common.{List, [], ◌∷◌, length, get_or, drop, eqb, inl, inr, ◌≤◌}
use Rattle.std.proofs.lemmas.Bool.{and_parts, or_cases}
use Rattle.mseed_record.specs.Pattern.{any_rest, after_one, fits}
use Rattle.mseed_select.specs.declared.matching.Piece.{Piece}
use Rattle.mseed_select.specs.declared.matching.Piece.TheVariants.{Whole, Fails, Star}
use Rattle.mseed_select.specs.private.Pieces.{IsLeft, IsPiece}
use Rattle.mseed_select.proofs.Fitting.{any_first, fits_one, other_star, two_stars}
use Rattle.std.proofs.Math.Bool.{or-true}

any_more : (test : List ℕ → Bool) (x : ℕ) (xs : List ℕ) → any_rest test xs ≡ true → any_rest test (x ∷ xs) ≡ true
any_more test x xs e = rw e (or-true (test (x ∷ xs)))

-- what holds after a later character holds of a rest
later_one : (c : ℕ) (test : List ℕ → Bool) (xs : List ℕ) → any_rest (λ rest. after_one c test rest) xs ≡ true
    → any_rest test xs ≡ true
later_one c test [] e = cc (e)
later_one c test (x ∷ xs) e =
    elim (or_cases ((eqb c 63 || eqb c x) && test xs) (any_rest (λ rest. after_one c test rest) xs) e) [
      | inl here ↦ any_more test x xs (any_first test xs (and_parts (eqb c 63 || eqb c x) (test xs) here).1)
      | inr there ↦ any_more test x xs (later_one c test xs there)
    ]

absorbs : (a q r : Bool) → a ≡ r → (q ≡ true → r ≡ true) → (a || q) ≡ r
absorbs a q r e h = grind (arith, e, h)

-- a `*` before a character that is none
star_on : (c : ℕ) (cs code : List ℕ) → c ≢ 42
    → fits (42 ∷ c ∷ cs) code ≡ any_rest (λ rest. after_one c (λ others. fits cs others) rest) code
star_on c cs code ne = rw (other_star c ne) refl

-- the first place is the best
first_place : (c x : ℕ) (cs xs : List ℕ) (r : Bool) → c ≢ 42 → (eqb c 63 || eqb c x) ≡ true → fits cs xs ≡ r
    → fits (42 ∷ cs) xs ≡ r → fits (42 ∷ c ∷ cs) (x ∷ xs) ≡ r
first_place c x cs xs r ne takes here later =
    let rests : Bool = any_rest (λ rest. after_one c (λ others. fits cs others) rest) xs in
    star_on c cs (x ∷ xs) ne ∙ rw takes
    (absorbs (fits cs xs) rests r here (λ e. sym later ∙ later_one c (λ others. fits cs others) xs e))

-- ---- a piece, character by character
one_on : (field code : List ℕ) → 1 ≤ length field → get_or field 0 0 ≢ 42 → 1 ≤ length code
    → (eqb (get_or field 0 0) 63 || eqb (get_or field 0 0) (get_or code 0 0)) ≡ true
    → fits field code ≡ fits (drop 1 field) (drop 1 code)
one_on field code h ne some takes = rw takes at (fits_one field code h ne some)

left_on : (after left field code : List ℕ) → 1 ≤ length field → get_or field 0 0 ≢ 42 → 1 ≤ length code
    → (eqb (get_or field 0 0) 63 || eqb (get_or field 0 0) (get_or code 0 0)) ≡ true
    → IsLeft after left (drop 1 field) (drop 1 code) → IsLeft after left field code
left_on after left [] code h ne some takes is = absurd (omega (arith, h))
left_on after left (c ∷ cs) [] h ne some takes is = absurd (omega (arith, some))
left_on after left (c ∷ cs) (x ∷ xs) h ne some takes is = record {
  here = one_on (c ∷ cs) (x ∷ xs) h ne some takes ∙ is.here;
  later = first_place c x cs xs (fits (42 ∷ after) left) ne takes is.here is.later;
  shorter = omega (arith, is.shorter);
  no_longer = omega (arith, is.no_longer);
}

pub piece_on : (p : Piece) (field code : List ℕ) → 1 ≤ length field → get_or field 0 0 ≢ 42 → 1 ≤ length code
    → (eqb (get_or field 0 0) 63 || eqb (get_or field 0 0) (get_or code 0 0)) ≡ true
    → IsPiece p (drop 1 field) (drop 1 code) → IsPiece p field code
piece_on Whole field code h ne some takes is = one_on field code h ne some takes ∙ is
piece_on Fails field code h ne some takes is = one_on field code h ne some takes ∙ is
piece_on (Star after left) field code h ne some takes is =
    left_on after.now left.now field code h ne some takes is

pub piece_star : (field code : List ℕ) → 1 ≤ length field → get_or field 0 0 ≡ 42
    → IsLeft (drop 1 field) code field code
piece_star [] code h star = absurd (omega (arith, h))
piece_star (c ∷ cs) code h star = record {
  here = rw star refl;
  later = rw star (two_stars cs code);
  shorter = omega arith;
  no_longer = omega arith;
}

-- ---- after a `*`
pub star_whole : (field code : List ℕ) → fits field code ≡ true → fits (42 ∷ field) code ≡ true
star_whole field code e = any_first (λ rest. fits field rest) code e
