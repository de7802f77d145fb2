-- What is known ahead of the differences that are left.
use Rattle.std.proofs.Common.{◌≡◌, ◌∙◌, ℕ, ◌+◌, ◌-◌, ◌≤◌, List, ◌++◌, length, drop, sym, ap, arith, ℤ}
use Rattle.std.specs.Prelude.{slice_range}
use Rattle.std.proofs.lemmas.List.{drop-append-le, drop-drop}
use Rattle.std.proofs.lemmas.Simd.{chunk-drop}
use Rattle.mseed_steim.specs.declared.scheme.Scheme.{Scheme}
use Rattle.mseed_steim_pack.specs.declared.ahead.Lookahead.{Lookahead}
use Rattle.mseed_steim_pack.specs.Lookahead.{IsLookahead}
use Rattle.mseed_steim_pack.proofs.Lookaheads.{known_more}
use Rattle.std.proofs.Common.{All}
use Rattle.std.proofs.lemmas.List.Elements.{All-drop, All-take}
use Rattle.mseed_steim.specs.Spelling.{IsWithin}
use Rattle.mseed_pack.specs.Stretches.{differences}
use Rattle.mseed_pack.specs.private.Filling.{AreAhead, width_of}

-- some of a list from a place on, and those after them
pub parts : (xs : List ℤ) (first end : ℕ) → first ≤ end → slice_range xs first end ++ drop end xs ≡ drop first xs
parts xs first end order =
    let all : end ≡ first + (end - first) = omega (arith, order) in
    ap (λ (n : ℕ). slice_range xs first end ++ drop n xs) all ∙ sym (chunk-drop first (end - first) xs)

-- what is so of differences that are the samples' from one to another
module _ {s : Scheme} {known : Lookahead} {xs ds : List ℤ} {first : ℕ} (end : ℕ)
    (is : ds ≡ slice_range (differences xs) first end) (order : first ≤ end) (ahead : AreAhead known s xs first) where
  pub part_fits : All (IsWithin (width_of s)) ds
  part_fits = rw is (All-take (IsWithin (width_of s)) (end - first) (drop first (differences xs))
      (All-drop (IsWithin (width_of s)) first (differences xs) ahead.differences_fit))

  pub known_of : (more : List ℤ) × IsLookahead s known (ds ++ more)
  known_of = (drop end (differences xs), rw (is, parts (differences xs) first end order) ahead.known)

  -- after some that were used
  pub ahead_on : (next : Lookahead) (used : ℕ) → used ≤ length ds → IsLookahead s next (drop used ds)
      → AreAhead next s xs (first + used)
  ahead_on next used few h = record {
    fit = ahead.fit;
    differences_fit = ahead.differences_fit;
    known = rw (
      ← drop-append-le used ds (drop end (differences xs)) few,
      is,
      parts (differences xs) first end order,
      drop-drop,
    ) at (known_more s next (drop used ds) (drop end (differences xs)) h);
  }
