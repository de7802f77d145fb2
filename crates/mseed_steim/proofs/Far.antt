-- Differences that are added up at once, while the limits of 32 bits are out of reach.
use Rattle.mseed_steim.specs.private.Sums.{Keep}
use Rattle.std.proofs.Common.{◌≡◌, ℕ, ◌+◌, ◌<◌, ◌≤◌, ◌^◌, List, [], ◌∷◌, ◌++◌, map, drop, get_or, length, ℤ, pos}
use Rattle.std.proofs.Common.{negsuc, ◌+ℤ◌, nat_abs, w32, FitsSigned, arith, refl, ap, ◌∙◌, true, Ok}
use Rattle.std.proofs.lemmas.Int.{ints}
use Rattle.std.proofs.lemmas.Bool.{lt-ltb, ne_eqb}
use Rattle.mseed_steim.specs.private.Items.{Items}
use Rattle.mseed_steim.specs.declared.sum.Sum.{Sum}
use Rattle.mseed_steim.specs.private.Lanes.{total, span}
use Rattle.mseed_steim.specs.private.Sums.{IsCounted, fits, fold, kept_along, kept_at, kept_on, met_in, one_more}
use Rattle.mseed_steim.specs.private.Sums.{sums, the_difference, the_sample, used, with_first}
use Rattle.mseed_steim.proofs.Folds.{fold_add, met_add}
use Rattle.mseed_steim.proofs.Folded.{kept_one, next_cut, with_first_later}

pub abs_sum : (a b : ℤ) → nat_abs (a +ℤ b) ≤ nat_abs a + nat_abs b
abs_sum a b = search arith

pub near_fits : (z : ℤ) → nat_abs z < 2 ^ 31 → fits z ≡ true
near_fits (pos n) h = lt-ltb n (2 ^ 31) (omega (arith, h))
near_fits (negsuc n) h = lt-ltb n (2 ^ 31) (omega (arith, h))

pub total_near : (ds : List ℤ) → nat_abs (total ds) ≤ span ds
total_near [] = omega arith
total_near (d ∷ ds) = let later = total_near ds in omega (arith, later, abs_sum d (total ds))

-- a difference that counts
pub counted_later : (m : ℕ) (ds : List ℤ) → 0 < m → IsCounted m ds
counted_later m [] h = tt
counted_later m (d ∷ ds) h = λ e. absurd (omega (arith, e, h))

used_counted : (m : ℕ) (l d : ℤ) → (m ≡ 0 → d ≡ pos 0) → l +ℤ d ≡ l +ℤ used m d
used_counted m l d counts = search arith

same_last : (m : ℕ) (l d : ℤ) → (m ≡ 0 → d ≡ pos 0) → m ≡ 0 → l ≡ l +ℤ d
same_last m l d counts e = let none : d ≡ pos 0 = counts e in omega (arith, ints, none)

-- the sum after some differences
abbrev pub sum_after : Sum → List ℤ → Sum
sum_after s ds =
    record { met = s.met + length ds; last = s.last +ℤ total (with_first s.met (pos 0) ds) }

-- while the limits of 32 bits are out of reach, a walk goes on from the sum of the differences, and meets their sums
pub goes_far : (n : ℕ) (ds : List ℤ) (s : Sum) (more : Items) → s.met + length ds ≤ n
    → nat_abs s.last + span (with_first s.met (pos 0) ds) < 2 ^ 31
    → (fold n s (map Ok ds ++ more) ≡ fold n (sum_after s ds) more)
    × (met_in n s (map Ok ds ++ more) ≡ sums s.last (with_first s.met (pos 0) ds) ++ met_in n (sum_after s ds) more)
goes_far n [] s more room far = grind (arith, ints)
goes_far n (d ∷ ds) s more room far =
    let next : ℤ = s.last +ℤ used s.met d in
    let near = abs_sum s.last (used s.met d) in
    let met : s.met + 1 + length ds ≡ s.met + length (d ∷ ds) = omega arith in
    let last : next +ℤ total ds ≡ s.last +ℤ (used s.met d +ℤ total ds) = omega (arith, ints) in
    let within = near_fits next (omega (arith, near, far)) in
    let behind = with_first_later (s.met + 1) (pos 0) ds (omega arith) in
    let later = rw (behind, met, last) at (goes_far n ds (one_more s next) more (omega arith)
    (rw behind (omega (arith, near, far)))) in (
      fold_add n s d (map Ok ds ++ more) (omega arith) within ∙ later.0,
      met_add n s d (map Ok ds ++ more) (omega arith) within ∙ ap (λ (zs : List ℤ). next ∷ zs) later.1,
    )

-- what is kept of sums and the samples after them
pub sums_kept_on : (keep : Keep) (m : ℕ) (l : ℤ) (ds xs : List ℤ) → IsCounted m ds
    → kept_on keep m l (sums l ds ++ xs)
    ≡ kept_along keep m l ds ++ kept_on keep (m + length ds) (l +ℤ total ds) xs
sums_kept_on keep m l [] xs counted = grind (arith, ints)
sums_kept_on keep m l (d ∷ ds) xs counted =
    let met : m + 1 + length ds ≡ m + length (d ∷ ds) = omega arith in
    let last : (l +ℤ d) +ℤ total ds ≡ l +ℤ (d +ℤ total ds) = omega (arith, ints) in
    let later = rw (met, last) at (sums_kept_on keep (m + 1) (l +ℤ d) ds xs (counted_later (m + 1) ds (omega arith))) in
    kept_one keep m l d (l +ℤ d) _ (used_counted m l d counted)
    ∙ ap (λ (zs : List ℤ). kept_at keep m d (l +ℤ d) ∷ zs) later

-- what is kept of some differences, where that is each sample, and where it is each difference
sample_kept : (m : ℕ) (d s : ℤ) → kept_at the_sample m d s ≡ s
sample_kept m d s = search arith

pub sums_kept : (m : ℕ) (l : ℤ) (ds : List ℤ) → kept_along the_sample m l ds ≡ sums l ds
sums_kept m l [] = refl
sums_kept m l (d ∷ ds) = grind (arith, sample_kept, sums_kept (m + 1) (l +ℤ d) ds)

steps_later : (m : ℕ) (l : ℤ) (ds : List ℤ) → 0 < m → kept_along the_difference m l ds ≡ ds
steps_later m l [] some = refl
steps_later m l (d ∷ ds) some = grind (arith, ne_eqb, steps_later (m + 1) (l +ℤ d) ds (omega arith))

pub steps_kept : (m : ℕ) (l : ℤ) (ds : List ℤ) → IsCounted m ds → kept_along the_difference m l ds ≡ with_first m l ds
steps_kept m l ds counted = search (arith, same_last, steps_later)

pub near_signed : (z : ℤ) → nat_abs z < 2 ^ 31 → FitsSigned w32 z
near_signed (pos n) h = record { sfits = omega (arith, h) }
near_signed (negsuc n) h = record { sfits = omega (arith, h) }

-- the next of some differences, and those after it
pub span_step : (ds : List ℤ) (i : ℕ) (z : ℤ) → i < length ds
    → span (drop i ds) ≡ nat_abs (get_or ds i z) + span (drop (i + 1) ds)
span_step ds i z h = ap span (next_cut ds i z h)

pub total_step : (ds : List ℤ) (i : ℕ) (z : ℤ) → i < length ds
    → total (drop i ds) ≡ get_or ds i z +ℤ total (drop (i + 1) ds)
total_step ds i z h = ap total (next_cut ds i z h)
