-- The leap seconds of a series, record by record.
use Rattle.std.proofs.Common.{◌≡◌, ℕ, ◌+◌, ◌<◌, ◌≤◌, ◌==◌, nat_lt, cond, List, [], ◌∷◌, ◌++◌, refl}
use Rattle.std.proofs.Common.{arith, pos, ◌+ℤ◌, Option, None, unwrap_or}
use Rattle.std.specs.Prelude.{option_map, find}
use Rattle.std.proofs.Common.{inl, inr}
use Rattle.std.proofs.lemmas.Bool.{cases_lt, eq-eqb, le-leb, le-ltb, lt-leb, lt-ltb, ne_eqb}
use Rattle.std.proofs.lemmas.Int.{ints}
use Rattle.mseed_time.specs.declared.outcome.LeapStep.{LeapStep}
use Rattle.mseed_time.specs.Join.{step_of}
use Rattle.mseed_audit.specs.Series.{AreStepsFrom, step_at}
use Rattle.mseed_pack.specs.Clock.{added_before}

-- the leap second at a place, and the next one's place after another
abbrev pub step_in : List (ℕ × LeapStep) → ℕ → Option LeapStep
step_in steps place = option_map (λ (step : ℕ × LeapStep). step.1)
    (find (λ (step : ℕ × LeapStep). step.0 == place) steps)

abbrev pub end_in : List (ℕ × LeapStep) → ℕ → ℕ → ℕ
end_in steps size first =
    unwrap_or (option_map (λ (step : ℕ × LeapStep). step.0)
    (find (λ (step : ℕ × LeapStep). nat_lt first step.0) steps)) size

-- the leap seconds with more than so many samples before them
abbrev pub later : List (ℕ × LeapStep) → ℕ → List (ℕ × LeapStep)
later [] place = []
later (t ∷ ts) place = cond (nat_lt place t.0) (t ∷ ts) (later ts place)

-- none of them stands at a place before them all
pub record Before (steps : List (ℕ × LeapStep)) (place : ℕ) : Type 0 where
  pub added : added_before steps place ≡ pos 0
  pub none : step_in steps place ≡ None
  pub all : later steps place ≡ steps

pub before : (low size : ℕ) (steps : List (ℕ × LeapStep)) (place : ℕ) → place ≤ low → AreStepsFrom low size steps
    → Before steps place
before low size [] place h are = record { added = refl; none = refl; all = refl }
before low size (t ∷ ts) place h are =
    let behind : place < t.0 = omega (arith, are.0, h) in
    let rest = before t.0 size ts place (omega (arith, behind)) are.2 in
    record {
      added = rw (lt-leb t.0 place behind, rest.added);
      none = rw (ne_eqb t.0 place (λ e. omega (arith, behind, e))) rest.none;
      all = rw (lt-ltb place t.0 behind);
    }

-- From one record's first sample to the next one's, of which there's no leap second between: the seconds that were
-- added are those of the one at its end, and of those that were left that one goes.
pub record Passes (steps : List (ℕ × LeapStep)) (first count : ℕ) : Type 0 where
  pub added : added_before steps (first + count) ≡ added_before steps first +ℤ step_of (step_in steps (first + count))
  pub left : later steps first ≡ step_at (first + count) (step_in steps (first + count)) ++ later steps (first + count)

pub passes : (low size : ℕ) (steps : List (ℕ × LeapStep)) (first count : ℕ) → AreStepsFrom low size steps → 0 < count
    → first + count ≤ end_in steps size first → Passes steps first count
passes low size [] first count are some h = record { added = refl; left = refl }
passes low size (t ∷ ts) first count are some h =
    let end = first + count in
    elim (cases_lt end t.0) [
      | inl less ↦
          let at_first = before end size (t ∷ ts) first (omega arith) (less, are.1, are.2) in
          let at_end = before end size (t ∷ ts) end (omega arith) (less, are.1, are.2) in
          record {
            added = rw (at_end.added, at_first.added, at_end.none);
            left = rw (at_first.all, at_end.none, at_end.all);
          }
      | inr more ↦ elim (cases_lt first t.0) [
        | inl next ↦
            let inside : end ≤ t.0 = rw (lt-ltb first t.0 next) at h in
            let here : t.0 ≡ end = omega arith in
            let at_first = before t.0 size ts first (omega arith) are.2 in
            let at_end = before t.0 size ts end inside are.2 in
            record {
              added = rw (le-leb t.0 end more, lt-leb t.0 first next, eq-eqb t.0 end here, at_end.added, at_first.added)
                  (omega (arith, ints));
              left = rw (lt-ltb first t.0 next, eq-eqb t.0 end here, le-ltb end t.0 more, at_end.all)
                  (λ i. (here i, t.1) ∷ ts);
            }
        | inr past ↦
            let not_eq = ne_eqb t.0 end (λ e. omega (arith, e)) in
            let rest = passes t.0 size ts first count are.2 some (rw (le-ltb first t.0 past) at h) in
            record {
              added = rw (le-leb t.0 end more, le-leb t.0 first past, not_eq) (omega (arith, ints, rest.added));
              left = rw (le-ltb first t.0 past, not_eq, le-ltb end t.0 more) rest.left;
            }
      ]
    ]

-- after the last sample none is left
pub none_left : (low size : ℕ) (steps : List (ℕ × LeapStep)) → AreStepsFrom low size steps → later steps size ≡ []
none_left low size [] are = refl
none_left low size (t ∷ ts) are = rw (le-ltb size t.0 are.1) (none_left t.0 size ts are.2)
