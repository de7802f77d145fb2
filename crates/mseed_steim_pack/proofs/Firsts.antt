-- The word of some differences, by the first of them: no word takes more than seven, nor another beside a wide one.
use Rattle.std.proofs.Common.{◌≡◌, ◌≤◌, ℕ, ℤ, List, length, take, arith}
use Rattle.std.proofs.Common.{Result, Ok, Err, IfOk}
use Rattle.std.proofs.lemmas.List.{length-take-le, take-take}
use Rattle.mseed_steim.specs.declared.scheme.Scheme.{Scheme}
use Rattle.mseed_steim_pack.specs.Packing.{IsFullest}
use Rattle.mseed_steim_pack.specs.private.Rows.{NoneSpelled}
use Rattle.mseed_steim_pack.specs.private.Wrapped.{wrapped_from}
use Rattle.mseed_steim_pack.proofs.Wrapped.{wrapped_length}
use Rattle.mseed_steim_pack.proofs.Fullest.{none_on}

-- what takes the largest number of the first differences takes it of all, where no word spells more than these
pub first_fullest : (s : Scheme) (ds : List ℤ) (n code word used : ℕ) → n ≤ length ds → NoneSpelled s ds n (length ds)
    → IsFullest s (take n ds) code word used → IsFullest s ds code word used
first_fullest s ds n code word used inside none full =
    let long : length (take n ds) ≡ n = length-take-le n ds inside in
    let few : used ≤ n = omega (arith, long, full.inside) in record {
      some = full.some;
      inside = omega (arith, few, inside);
      spelled = rw (take-take used n ds few) at full.spelled;
      plain = full.plain;
      largest = none_on s ds used n (length ds) (λ k over low can. full.largest k over (omega (arith, long, low))
          (rw (take-take k n ds low) can)) none;
    }

-- so is a word that is found of the differences of samples
pub first_found : {E : Type 0} (s : Scheme) (before : ℤ) (xs : List ℤ) (n : ℕ) (found : Result (ℕ × ℕ × ℕ) E)
    → n ≤ length xs → NoneSpelled s (wrapped_from before xs) n (length xs)
    → IfOk found (λ word. IsFullest s (take n (wrapped_from before xs)) word.0 word.1 word.2)
    → IfOk found (λ word. IsFullest s (wrapped_from before xs) word.0 word.1 word.2)
first_found s before xs n (Ok word) inside none full =
    let all = wrapped_length before xs in
    first_fullest s (wrapped_from before xs) n word.0 word.1 word.2 (rw all inside) (rw (← all) at none) full
first_found s before xs n (Err fault) inside none full = tt
