-- Samples by sums of the differences between them.
use Rattle.std.proofs.Common.{◌≡◌, ◌∙◌, ℕ, ◌+◌, ◌-◌, ◌<◌, ◌≤◌, List, length, get_or, arith}
use Rattle.std.proofs.Common.{All, FitsSigned, w32, ℤ, pos, ◌+ℤ◌, ◌-ℤ◌}
use Rattle.std.specs.Int.{int_wrap, int_wrapping_add, int_wrapping_sub}
use Rattle.std.proofs.lemmas.Int.{ints, int_wrap-add_left, int_wrap-add_right, int_wrap-sub_right, int_wrap_fits}
use Rattle.std.proofs.lemmas.Int.{wrapping_add_is, wrapping_sub_is}
use Rattle.std.proofs.lemmas.List.Elements.{All-get_or}
use Rattle.mseed_steim.specs.Spelling.{IsWithin}
use Rattle.mseed_pack.specs.declared.window.Window.{Window}
use Rattle.mseed_pack.specs.private.Filling.{HoldsDifferences}
use Rattle.mseed_pack.specs.private.KnownSamples.{sample_before}
use Rattle.mseed_pack.specs.Stretches.{differences}
use Rattle.mseed_steim_pack.proofs.Bits.{within_fits}
use Rattle.mseed_pack.proofs.Differences.{difference_at}

-- a difference leads from the sample before its place to that before the next
next_of : (xs : List ℤ) (i : ℕ) → i < length xs
    → get_or (differences xs) i (pos 0) ≡ sample_before xs (i + 1) -ℤ sample_before xs i
next_of xs i inside = let here : i + 1 - 1 ≡ i = omega arith in rw here (difference_at xs i inside)

-- one more difference is added
pub moved_on : (xs : List ℤ) (w : Window) (first k : ℕ) (moved : ℤ) → HoldsDifferences xs w → w.first ≤ first
    → first + k < w.end → moved ≡ int_wrap w32 (sample_before xs (first + k) -ℤ sample_before xs first)
    → int_wrap w32 (moved +ℤ get_or w.differences (first - w.first + k) (pos 0))
    ≡ int_wrap w32 (sample_before xs (first + (k + 1)) -ℤ sample_before xs first)
moved_on xs w first k moved h low high is =
    let place : w.first + (first - w.first + k) ≡ first + k = omega (arith, low) in
    let next : first + k + 1 ≡ first + (k + 1) = omega arith in
    let d = get_or w.differences (first - w.first + k) (pos 0) in
    let a = sample_before xs first in
    let b = sample_before xs (first + k) in
    let c = sample_before xs (first + k + 1) in
    let difference : d ≡ c -ℤ b = h.each (first - w.first + k) (omega (arith, low, high))
    ∙ rw place (next_of xs (first + k) (omega (arith, high, h.inside))) in
    let sum : b -ℤ a +ℤ d ≡ c -ℤ a = omega (arith, ints, difference) in
    rw (is, int_wrap-add_left, sum, next)

pub before_fits : (xs : List ℤ) (place : ℕ) → 0 < place → place ≤ length xs → All (IsWithin 32) xs
    → FitsSigned w32 (sample_before xs place)
before_fits xs place some inside fit =
    within_fits (sample_before xs place)
    (All-get_or (IsWithin 32) xs (place - 1) (pos 0) (omega (arith, some, inside)) fit)

-- from an earlier sample to a later one, and back
pub reached : (sample moved a b : ℤ) → FitsSigned w32 sample → FitsSigned w32 moved → FitsSigned w32 b → sample ≡ a
    → moved ≡ int_wrap w32 (b -ℤ a) → int_wrapping_add w32 sample moved ≡ b
reached sample moved a b one two fits is by =
    let sum : a +ℤ (b -ℤ a) ≡ b = omega (arith, ints) in
    rw (wrapping_add_is w32 sample moved one two, is, by, int_wrap-add_right, sum, int_wrap_fits w32 b fits)

pub returned : (sample moved a b : ℤ) → FitsSigned w32 sample → FitsSigned w32 moved → FitsSigned w32 a → sample ≡ b
    → moved ≡ int_wrap w32 (b -ℤ a) → int_wrapping_sub w32 sample moved ≡ a
returned sample moved a b one two fits is by =
    let rest : b -ℤ (b -ℤ a) ≡ a = omega (arith, ints) in
    rw (wrapping_sub_is w32 sample moved one two, is, by, int_wrap-sub_right, rest, int_wrap_fits w32 a fits)
