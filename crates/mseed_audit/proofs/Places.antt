-- The places of leap seconds.
use Rattle.std.proofs.Common.{◌≡◌, ℕ, ◌+◌, ◌<◌, ◌≤◌, List, [], ◌∷◌, ◌++◌, length, take, drop, get_or, refl, sym}
use Rattle.std.proofs.Common.{append_assoc, length-take-le, arith}
use Rattle.std.proofs.lemmas.List.{drop_more, take-append-drop, take_more}
use Rattle.mseed_time.specs.declared.outcome.LeapStep.{LeapStep}
use Rattle.mseed_audit.specs.Series.{AreStepsFrom, AreSteps, IsBadStep}

-- the place of the last one, or the place before the first
abbrev pub place_of : ℕ → List (ℕ × LeapStep) → ℕ
place_of place [] = place
place_of place (s ∷ ss) = place_of s.0 ss

-- those of two lists, one after another
steps_join : (place size : ℕ) (ss ts : List (ℕ × LeapStep)) → AreStepsFrom place size ss
    → AreStepsFrom (place_of place ss) size ts → AreStepsFrom place size (ss ++ ts)
steps_join place size [] ts first later = later
steps_join place size (s ∷ ss) ts first later = (first.0, first.1, steps_join s.0 size ss ts first.2 later)

steps_split : (place size : ℕ) (ss ts : List (ℕ × LeapStep)) → AreStepsFrom place size (ss ++ ts)
    → AreStepsFrom place size ss × AreStepsFrom (place_of place ss) size ts
steps_split place size [] ts all = (tt, all)
steps_split place size (s ∷ ss) ts all =
    let parts = steps_split s.0 size ss ts all.2 in ((all.0, all.1, parts.0), parts.1)

pub place_more : (place : ℕ) (ss : List (ℕ × LeapStep)) (s : ℕ × LeapStep) → place_of place (ss ++ s ∷ []) ≡ s.0
place_more place [] s = refl
place_more place (t ∷ ss) s = place_more t.0 ss s

-- the first that doesn't stand after the one before it
pub bad_step : (size : ℕ) (ss : List (ℕ × LeapStep)) (i : ℕ) (d : ℕ × LeapStep) (before : ℕ) → i < length ss
    → AreSteps size (take i ss) → before ≡ place_of 0 (take i ss)
    → ((before < (get_or ss i d).0) × ((get_or ss i d).0 ≤ size) → ⊥) → IsBadStep size ss i
bad_step size ss i d before lt good at refuses = record {
  prefix = take i ss;
  bad = get_or ss i d;
  back = drop (i + 1) ss;
  parts = rw (← drop_more ss i d lt) (sym (take-append-drop i ss));
  index_is = sym (length-take-le i ss (omega (arith, lt)));
  good = good;
  not_good = λ h. let last = (steps_split 0 size (take i ss) (get_or ss i d ∷ []) h).1 in
      refuses (rw at (last.0, last.1));
}

pub bad_steps : (size : ℕ) (ss : List (ℕ × LeapStep)) (i : ℕ) → IsBadStep size ss i → AreSteps size ss → ⊥
bad_steps size ss i bad all =
    bad.not_good (steps_split 0 size (bad.prefix ++ bad.bad ∷ []) bad.back (rw append_assoc (rw bad.parts at all))).0

pub more_steps : (size : ℕ) (ss : List (ℕ × LeapStep)) (i : ℕ) (d : ℕ × LeapStep) (before : ℕ) → i < length ss
    → AreSteps size (take i ss) → before ≡ place_of 0 (take i ss)
    → before < (get_or ss i d).0 → (get_or ss i d).0 ≤ size → AreSteps size (take (i + 1) ss)
    × ((get_or ss i d).0 ≡ place_of 0 (take (i + 1) ss))
more_steps size ss i d before lt good at low high =
    rw (take_more ss i d lt) (
      steps_join 0 size (take i ss) (get_or ss i d ∷ []) good (rw at at low, high, tt),
      sym (place_more 0 (take i ss) (get_or ss i d)),
    )

-- of more samples
steps_wider : (place m n : ℕ) (ss : List (ℕ × LeapStep)) → m ≤ n → AreStepsFrom place m ss → AreStepsFrom place n ss
steps_wider place m n [] le h = tt
steps_wider place m n (s ∷ ss) le h = (h.0, omega (arith, h.1, le), steps_wider s.0 m n ss le h.2)

last_within : (place size : ℕ) (ss : List (ℕ × LeapStep)) → place ≤ size → AreStepsFrom place size ss
    → place_of place ss ≤ size
last_within place size [] le h = le
last_within place size (s ∷ ss) le h = last_within s.0 size ss h.1 h.2

-- one more, just past some samples that are new
pub steps_after : (m n place : ℕ) (old new : List (ℕ × LeapStep)) (step : LeapStep) → m < n → place ≡ n
    → AreSteps m old → new ≡ old ++ (place, step) ∷ [] → AreSteps n new
steps_after m n place old new step lt at h e =
    let last : place_of 0 old < place = omega (arith, last_within 0 m old (omega arith) h, lt, at) in
    rw e (steps_join 0 n old ((place, step) ∷ []) (steps_wider 0 m n old (omega (arith, lt)) h)
    (last, omega (arith, at), tt))

-- those of fewer samples
pub steps_kept : (m n : ℕ) (old new : List (ℕ × LeapStep)) → m ≤ n → AreSteps m old → new ≡ old → AreSteps n new
steps_kept m n old new le h e = rw e (steps_wider 0 m n old le h)
