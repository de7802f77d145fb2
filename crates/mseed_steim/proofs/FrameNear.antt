-- How far a frame's differences go.
use Rattle.mseed_steim.specs.Frames.{AreOctets}
use Rattle.std.proofs.Common.{◌≡◌, ℕ, zero, suc, ◌-◌, ◌*◌, ◌^◌, ◌<◌}
use Rattle.std.proofs.Common.{◌≤◌, List, [], ◌∷◌, length, map}
use Rattle.std.proofs.Common.{get_or, arith, pos, negsuc, nat_abs}
use Rattle.std.proofs.Common.{if◌then◌else◌, nat_lt}
use Rattle.std.proofs.Math.Nat.{mul-suc}
use Rattle.std.proofs.lemmas.Nat.{mod_below, pow_pos}
use lib.Lanes.{sum_l}
use Rattle.mseed_steim.specs.private.Digits.{signed, digits}
use Rattle.mseed_steim.specs.private.Lanes.{span}
use Rattle.mseed_steim.specs.declared.scheme.Scheme.{Scheme}
use Rattle.mseed_steim.specs.declared.scheme.Scheme.TheVariants.{One, Two}
use Rattle.mseed_steim.specs.private.Lanes.{words, row_at, counts_two, widths_two, counts_one, widths_one}
use Rattle.mseed_steim.specs.private.Lanes.{counts_of, widths_of}
use Rattle.mseed_steim.specs.private.Lanes.{all_counts_two, all_widths_two, all_counts_one, all_widths_one}
use Rattle.mseed_steim.specs.private.Lanes.{all_counts, all_widths}
use Rattle.mseed_steim.specs.private.Unpacked.{differences_at}
use Rattle.std.proofs.Common.{Bool, T, ◌&&◌, ◌||◌, not, eqb, ltb}
use lib.Dec.{leb}
use Rattle.std.proofs.lemmas.Bool.Decides.{nat_tests}
use Rattle.mseed_steim.proofs.Below.{all_below, every_below}
use Rattle.mseed_steim.proofs.LaneDigits.{place_at}
use Rattle.mseed_steim.proofs.LaneSums.{long_words}
use Rattle.mseed_steim.proofs.Words.{twice_half}
use Rattle.mseed_steim.proofs.FrameSums.{row_small}

near : (p q x : ℕ) → q ≤ 2 * p → x < q → nat_abs (if nat_lt x p then pos x else negsuc (q - 1 - x)) ≤ p
near p q x e lt = search arith

twice : (width : ℕ) → 2 ^ width ≤ 2 * 2 ^ (width - 1)
twice zero = omega arith
twice (suc n) = let same = twice_half (suc n) (omega arith) in omega (arith, same)

-- a number of so many bits is no further from 0 than half of what they tell apart
pub signed_near : (width x : ℕ) → x < 2 ^ width → nat_abs (signed width x) ≤ 2 ^ (width - 1)
signed_near width x small = near (2 ^ (width - 1)) (2 ^ width) x (twice width) small

spans : (width word count : ℕ) → span (digits width word count) ≤ 2 ^ (width - 1) * count
unfolding digits
spans width word zero = omega arith
spans width word (suc count) =
    let later = spans width word count in
    grind (arith, mod_below, mul-suc, pow_pos, signed_near)

-- so are a row's, by their width and how many they are
abbrev is_near : Scheme → ℕ → Bool
is_near s row =
    not (ltb (get_or (counts_of s) row 0) 128)
    || leb (2 ^ (get_or (widths_of s) row 0 - 1) * get_or (counts_of s) row 0) 65536

near_test : (s : Scheme) → T (all_below (is_near s) 16)
unfolding widths_two counts_two widths_one counts_one
near_test One = tt
near_test Two = tt

near_row : (s : Scheme) (word row : ℕ) → row < 16 → get_or (counts_of s) row 0 < 128
    → span (digits (get_or (widths_of s) row 0) word (get_or (counts_of s) row 0)) ≤ 65536
near_row s word row less few =
    let far = spans (get_or (widths_of s) row 0) word (get_or (counts_of s) row 0) in
    let test = every_below (is_near s) 16 (near_test s) row less in
    grind (arith, nat_tests)

all_near : (far : ℕ → ℕ) (ws : List ℕ) → ((i : ℕ) → i < length ws → far (get_or ws i 0) ≤ 65536)
    → sum_l (map far ws) ≤ 65536 * length ws
all_near far [] each = omega arith
all_near far (w ∷ ws) each =
    let one = each 0 (omega arith) in
    let later = all_near far ws (λ i less. each (suc i) (omega (arith, less))) in
    omega (arith, one, later)

-- ---- rows without a difference of 30 or 32 bits
abbrev Alike : Scheme → ℕ → Type 0
Alike s row = get_or (counts_of s) row 0 < 128 → (get_or (all_counts s) row 0 ≡ get_or (counts_of s) row 0)
    × (get_or (all_widths s) row 0 ≡ get_or (widths_of s) row 0)

abbrev is_alike : Scheme → ℕ → Bool
is_alike s row =
    not (ltb (get_or (counts_of s) row 0) 128) || (eqb (get_or (all_counts s) row 0) (get_or (counts_of s) row 0)
    && eqb (get_or (all_widths s) row 0) (get_or (widths_of s) row 0))

alike_test : (s : Scheme) → T (all_below (is_alike s) 16)
unfolding counts_two widths_two counts_one widths_one all_counts_two all_widths_two all_counts_one all_widths_one
alike_test One = tt
alike_test Two = tt

pub alike : (s : Scheme) (row : ℕ) → row < 16 → Alike s row
alike s row less few =
    let test = every_below (is_alike s) 16 (alike_test s) row less in
    (grind (arith, nat_tests), grind (arith, nat_tests))

near_at : (s : Scheme) (f : List ℕ) (from : ℕ) → AreOctets f → (w : ℕ)
    → get_or (counts_of s) (row_at f from w) 0 < 128 → span (differences_at s f from w) ≤ 65536
near_at s f from h w few = search (arith, alike, near_row, row_small)

pub unpacked_near : (s : Scheme) (f : List ℕ) (from : ℕ) → AreOctets f
    → ((w : ℕ) → w < 16 → get_or (counts_of s) (row_at f from w) 0 < 128)
    → sum_l (map (λ w. span (differences_at s f from w)) words) ≤ 1048576
unpacked_near s f from h few = search (arith, all_near, long_words, near_at, place_at)
