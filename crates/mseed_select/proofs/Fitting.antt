-- A field fits a code exactly where the test says so.
use Rattle.std.proofs.Math.Bool.{or-true}
use Rattle.std.proofs.Common.{◌≡◌, ◌≢◌, ℕ, refl, ap, arith, Bool, true, false, ◌&&◌, ◌||◌}
use Rattle.std.proofs.Common.{List, [], ◌∷◌, ◌++◌, length, get_or, drop, eqb, inl, inr, eq-eqb, ◌≤◌}
use Rattle.std.proofs.lemmas.Bool.{and_parts, cases_Bool}
use Rattle.std.proofs.lemmas.Bool.Decides.{eqb_tells, nat_tests}
use Rattle.std.specs.Bool.{Decides}
use Rattle.mseed_record.specs.Pattern.{Fits, Takes, any_rest, after_one, fits}

-- a code that begins with some characters, after which a test holds
abbrev HoldsAfter : (List ℕ → Bool) → (List ℕ → Type 0) → List ℕ → Type 0
HoldsAfter test Q code = (taken : List ℕ) × ((rest : List ℕ) × ((code ≡ taken ++ rest) × Q taken × (test rest ≡ true)))

any_yes : (test : List ℕ → Bool) (code : List ℕ) → any_rest test code ≡ true
    → HoldsAfter test (λ taken. Unit {0}) code
any_yes test [] e = ([], ([], (refl, tt, e)))
any_yes test (x ∷ xs) e = elim (cases_Bool (test (x ∷ xs))) [
  | inl is ↦ ([], (x ∷ xs, (refl, tt, is)))
  | inr other ↦
      let r =
      any_yes test xs (rw other at e) in (x ∷ r.0, (r.1.0, (ap (λ (cs : List ℕ). x ∷ cs) r.1.1.0, tt, r.1.1.2)))
]

-- a test that holds of a code holds of some rest of it
pub any_first : (test : List ℕ → Bool) (code : List ℕ) → test code ≡ true → any_rest test code ≡ true
any_first test [] e = e
any_first test (x ∷ xs) e = rw e refl

any_back : (test : List ℕ → Bool) (taken rest : List ℕ) → test rest ≡ true → any_rest test (taken ++ rest) ≡ true
any_back test [] rest e = any_first test rest e
any_back test (x ∷ taken) rest e = rw (any_back test taken rest e) (or-true (test (x ∷ (taken ++ rest))))

one_yes : (c : ℕ) (test : List ℕ → Bool) (code : List ℕ) → after_one c test code ≡ true → HoldsAfter test (Takes c) code
one_yes c test [] e = cc (e)
one_yes c test (x ∷ xs) e =
    let h = and_parts (eqb c 63 || eqb c x) (test xs) e in
    let takes : Takes c (x ∷ []) = grind (arith, nat_tests, h.0) in (x ∷ [], (xs, (refl, takes, h.1)))

one_back : (c : ℕ) (test : List ℕ → Bool) (taken rest : List ℕ) → Takes c taken → c ≢ 42 → test rest ≡ true
    → after_one c test (taken ++ rest) ≡ true
one_back c test taken rest (inl same) ne e = rw (same, eq-eqb c c refl, or-true (eqb c 63)) e
one_back c test [] rest (inr (inl mark)) ne e = absurd (omega (arith, mark.1))
one_back c test (x ∷ []) rest (inr (inl mark)) ne e = rw (eq-eqb c 63 mark.0) e
one_back c test (x ∷ y ∷ ys) rest (inr (inl mark)) ne e = absurd (omega (arith, mark.1))
one_back c test taken rest (inr (inr star)) ne e = absurd (ne star)

pub fits_yes : (field code : List ℕ) → fits field code ≡ true → Fits field code
fits_yes [] [] e = refl
fits_yes [] (x ∷ xs) e = grind (arith, nat_tests, e)
fits_yes (c ∷ cs) code e = elim (eqb_tells c 42) [
  | inl star ↦
      let r = any_yes (λ rest. fits cs rest) code (rw star.0 at e) in
      (r.0, (r.1.0, (r.1.1.0, inr (inr star.1), fits_yes cs r.1.0 r.1.1.2)))
  | inr other ↦
      let r = one_yes c (λ rest. fits cs rest) code (rw other.0 at e) in
      (r.0, (r.1.0, (r.1.1.0, r.1.1.1, fits_yes cs r.1.0 r.1.1.2)))
]

pub fits_back : (field code : List ℕ) → Fits field code → fits field code ≡ true
fits_back [] code e = rw e refl
fits_back (c ∷ cs) code f =
    let holds : fits cs f.1.0 ≡ true = fits_back cs f.1.0 f.1.1.2 in
    elim (eqb_tells c 42) [
      | inl star ↦ rw (star.0, f.1.1.0) (any_back (λ rest. fits cs rest) f.0 f.1.0 holds)
      | inr other ↦ rw (other.0, f.1.1.0) (one_back c (λ rest. fits cs rest) f.0 f.1.0 f.1.1.1 other.1 holds)
    ]

pub fits_decides : (field code : List ℕ) → Decides (fits field code) (Fits field code)
fits_decides field code = (fits_yes field code, fits_back field code)

-- ---- a run of `*` is as one
any_any : (test : List ℕ → Bool) (code : List ℕ) → any_rest (λ rest. any_rest test rest) code ≡ any_rest test code
any_any test [] = refl
any_any test (x ∷ xs) = grind (arith, any_any test xs)

pub two_stars : (field code : List ℕ) → fits (42 ∷ 42 ∷ field) code ≡ fits (42 ∷ field) code
two_stars field code = any_any (λ rest. fits field rest) code

-- ---- by the first character of a field
pub other_star : (c : ℕ) → c ≢ 42 → eqb c 42 ≡ false
other_star c ne = elim (eqb_tells c 42) [ inl same ↦ absurd (ne same.1) | inr other ↦ other.0 ]

pub fits_one : (field code : List ℕ) → 1 ≤ length field → get_or field 0 0 ≢ 42 → 1 ≤ length code
    → fits field code ≡ ((eqb (get_or field 0 0) 63 || eqb (get_or field 0 0) (get_or code 0 0))
    && fits (drop 1 field) (drop 1 code))
fits_one [] code h ne some = absurd (omega (arith, h))
fits_one (c ∷ cs) [] h ne some = absurd (omega (arith, some))
fits_one (c ∷ cs) (x ∷ xs) h ne some = rw (other_star c ne) refl
