-- The samples of a record are the sums of its differences.
use Rattle.std.proofs.Common.{◌≡◌, ℕ, zero, suc, List, [], ◌∷◌, take, drop, subst, arith, ℤ, ◌+ℤ◌}
use Rattle.std.proofs.Common.{◌-ℤ◌, Some}
use Rattle.std.specs.Prelude.{slice_get}
use Rattle.std.proofs.lemmas.Int.{ints}
use Rattle.mseed_steim.specs.Samples.{Adds, StartsAndAdds, differences_from}
use Rattle.mseed_pack.specs.Stretches.{differences}
use Rattle.mseed_pack.specs.private.KnownSamples.{sample_before}
use Rattle.mseed_pack.proofs.Differences.{drop_differences}

back : (x before : ℤ) → x ≡ before +ℤ (x -ℤ before)
back x before = omega (arith, ints)

-- each is the one before it plus its difference
adds : (before : ℤ) (xs : List ℤ) (n : ℕ) → Adds before (take n (differences_from before xs)) (take n xs)
adds before xs zero = tt
adds before [] (suc n) = tt
adds before (x ∷ xs) (suc n) = (back x before, adds x xs n)

starts_from : (before : ℤ) (xs : List ℤ) (n : ℕ) (first : ℤ) → slice_get xs 0 ≡ Some first
    → StartsAndAdds first (take n (differences_from before xs)) (take n xs)
starts_from before xs zero first e = tt
starts_from before [] (suc n) first e = tt
starts_from before (x ∷ xs) (suc n) first e =
    let same : x ≡ first = cc in
    (same, subst (λ (z : ℤ). Adds z (take n (differences_from x xs)) (take n xs)) same (adds x xs n))

-- So are those from any one on: it's the first, and its own difference isn't used.
pub starts : (xs : List ℤ) (k n : ℕ) (first : ℤ) → slice_get (drop k xs) 0 ≡ Some first
    → StartsAndAdds first (take n (drop k (differences xs))) (take n (drop k xs))
starts xs k n first e = rw (drop_differences xs k) (starts_from (sample_before xs k) (drop k xs) n first e)
