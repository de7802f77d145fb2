-- The bits that a number takes in two's complement.
use Rattle.std.proofs.Common.{◌≡◌, ◌↔◌, ℕ, ◌-◌, ◌^◌, ◌<◌, ◌≤ℤ◌, ◌<ℤ◌, ℤ, neg_ℤ, pos, arith, FitsSigned, w32}
use Rattle.std.proofs.Common.{All, List, ◌≤◌, get_or, length, take}
use Rattle.std.proofs.lemmas.List.{get_or-take, length-take-le}
use Rattle.std.proofs.lemmas.List.Elements.{All-from_get_or, All-get_or}
use Rattle.mseed_steim.specs.Spelling.{IsWithin}
use Rattle.mseed_steim_pack.specs.private.Ahead.{size_of}

pub within_by : (z : ℤ) (size : ℕ) → size ≡ size_of z → (w : ℕ) → (size < 2 ^ (w - 1)) ↔ IsWithin w z
within_by z size e w = rw e (both z (2 ^ (w - 1)))
  where
    both : (z : ℤ) (limit : ℕ) → (size_of z < limit) ↔ ((neg_ℤ (pos limit) ≤ℤ z) × (z <ℤ pos limit))
    both z limit = (λ h. search (arith), λ h. search (arith))

-- a number of 32 bits
pub fits_within : (z : ℤ) → FitsSigned w32 z → IsWithin 32 z
fits_within z f = search (arith)

pub within_fits : (z : ℤ) → IsWithin 32 z → FitsSigned w32 z
within_fits z h = search (arith)

-- so many bits hold the first of some differences if they hold each of them
pub prefix_within : (w k : ℕ) (ds : List ℤ) → k ≤ length ds
    → All (IsWithin w) (take k ds) ↔ ((j : ℕ) → j < k → IsWithin w (get_or ds j (pos 0)))
prefix_within w k ds inside =
    let long = length-take-le k ds inside in (
      λ all j less. rw (get_or-take k ds j (pos 0) less) at
          (All-get_or (IsWithin w) (take k ds) j (pos 0) (omega (arith, long, less)) all),
      λ each. All-from_get_or (IsWithin w) (take k ds) (pos 0) (λ j under.
          let less : j < k = omega (arith, under, long) in
          rw (get_or-take k ds j (pos 0) less) (each j less)),
    )
