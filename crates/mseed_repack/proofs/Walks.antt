-- Records that a walk has gone over.
use Rattle.std.proofs.Common.{◌≡◌, ℕ, ◌+◌, ◌≤◌, List, [], ◌∷◌, ◌++◌, refl, sym, ap, ◌∙◌, arith, take, ℤ}
use Rattle.std.proofs.Common.{append_assoc, append-nil, drop, length, length-append, ◌*◌, ◌<◌, Bool, true}
use Rattle.std.specs.List.{AllByRecursion}
use Rattle.std.proofs.lemmas.List.{drop-drop, drop_all, length-drop}
use Rattle.mseed_time.specs.declared.outcome.LeapStep.{LeapStep}
use Rattle.mseed_record.specs.View.{View}
use Rattle.mseed_steim.specs.Reading.{count_of}
use Rattle.mseed_repack.specs.private.Reading.{samples_of, step_count, steps_of, IsRead}
use Rattle.mseed_repack.specs.private.Supplying.{IsUnpackable}
use Rattle.mseed_repack.specs.declared.outline.Nearness.{Nearness}
use Rattle.mseed_repack.specs.private.Outline.{IsOutline}
use Rattle.mseed_repack.proofs.ReadChannels.{steps_append}
use Rattle.mseed_repack.proofs.Runs.{samples_append}

-- something holds of the records before those that are left
pub record IsGone (P : List View → Type 0) (all left : List View) : Type 0 where
  pub gone : List View
  pub parts : all ≡ gone ++ left
  pub holds : P gone

-- and after them this is the next one
pub record IsNext (P : List View → Type 0) (all : List View) (v : View) (rest : List View) : Type 0 where
  pub gone : List View
  pub parts : all ≡ gone ++ v ∷ rest
  pub holds : P gone

pub gone_none : {P : List View → Type 0} {all : List View} → P [] → IsGone P all all
gone_none h = record { gone = []; parts = refl; holds = h }

pub next_gone : {P : List View → Type 0} {all left rest : List View} {v : View} → IsGone P all left → left ≡ v ∷ rest
    → IsNext P all v rest
next_gone h h2 = grind (arith)

-- one more record
pub gone_more : {P Q : List View → Type 0} {all rest : List View} {v : View} → (h : IsNext P all v rest)
    → Q (h.gone ++ v ∷ []) → IsGone Q all rest
gone_more h h' = grind (arith, append_assoc)

-- none is left
pub gone_all : {P : List View → Type 0} {all left : List View} → IsGone P all left → left ≡ [] → P all
gone_all h h2 = grind (arith, append-nil)

-- what holds of each holds of the next one
pub next_of : {P : List View → Type 0} {all rest : List View} {v : View} (Q : View → Type 0) → IsNext P all v rest
    → AllByRecursion Q all → Q v
next_of {rest = rest} {v = v} Q h every = behind h.gone (rw h.parts at every)
  where
    behind : (us : List View) → AllByRecursion Q (us ++ v ∷ rest) → Q v
    behind [] each = each.0
    behind (u ∷ us) each = behind us each.1

-- what adds up over records adds up over those before it, and it with those after
so_far : {P : List View → Type 0} {all rest : List View} {v : View} (f : List View → ℕ)
    → ((us vs : List View) → f (us ++ vs) ≡ f us + f vs) → (h : IsNext P all v rest) → f all ≡ f h.gone + f (v ∷ rest)
so_far {rest = rest} {v = v} f adds h = ap f h.parts ∙ adds h.gone (v ∷ rest)

-- those before it and itself have no more samples, and bear no more leap seconds, than all have
pub samples_so_far : {P : List View → Type 0} {all rest : List View} {v : View} → (h : IsNext P all v rest)
    → samples_of h.gone + count_of v ≤ samples_of all
samples_so_far h = omega (arith, so_far samples_of samples_append h)

pub steps_so_far : {P : List View → Type 0} {all rest : List View} {v : View} → (h : IsNext P all v rest)
    → steps_of h.gone + step_count v ≤ steps_of all
steps_so_far h = omega (arith, so_far steps_of steps_append h)

-- what is read, and what is known, of the records that were gone over
abbrev pub AreReadSo : ℕ → ℕ → List ℤ → List (ℕ × LeapStep) → List View → Type 0
AreReadSo m k samples steps vs = IsRead m k (take m samples) (take k steps) vs

abbrev pub AreOutlinedSo : ℕ → ℕ → Nearness → Bool → List (ℕ × LeapStep) → List View → Type 0
AreOutlinedSo m k nearness unpackable steps vs =
    (m ≤ 65_535 * length vs) × IsOutline vs m k nearness steps
    × (unpackable ≡ true → AllByRecursion IsUnpackable vs)

-- there are no more records before one that is left than there are in all
pub few_so_far : {P : List View → Type 0} {all rest : List View} {v : View} → (h : IsNext P all v rest)
    → length h.gone + 1 ≤ length all
few_so_far h = grind (arith, length-append)

-- what is left after so many records
pub dropped_more : (t : ℕ) (vs rest : List View) (v : View) → drop t vs ≡ v ∷ rest → rest ≡ drop (t + 1) vs
dropped_more t vs rest v e = ap (λ (ws : List View). drop 1 ws) (sym e) ∙ drop-drop 1 t vs

pub dropped_all : (t n : ℕ) (vs : List View) → t < n → drop t vs ≡ [] → drop n vs ≡ []
dropped_all t n vs lt e =
    drop_all n vs (omega (arith, lt, ap (λ (ws : List View). length ws) e, length-drop t vs))
