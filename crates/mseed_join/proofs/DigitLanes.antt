-- How many of sixteen bytes are digits, by lanes.
use Rattle.std.proofs.Common.{◌≡◌, ◌≢◌, ◌∙◌, ◌<◌, ◌≤◌, ◌%◌, ◌^◌, ℕ, List, Bool, true, false, not, length, map, get_or}
use Rattle.std.proofs.Common.{replicate, Fits, w8, sym, ap, arith}
use Rattle.std.proofs.lemmas.Bool.{agree_below}
use Rattle.std.proofs.lemmas.Simd.{length-chunk, none_from_empty_mask, run_in_chunk_fails, run_in_chunk_le}
use Rattle.std.proofs.lemmas.Simd.{run_in_chunk_stops, trailing_mask_l}
use Rattle.std.specs.List.{prefix_len}
use lib.Count.{count_trailing_zeros}
use lib.Lanes.{chunk, mask_l, top, zip2}
use Rattle.mseed_record.proofs.DigitLanes.{digit_at as digit_by, mask_is as mask_of, other_at as other_by}
use Rattle.mseed_join.specs.private.Reading.{is_digit}

module _ (above less : ℕ → ℕ → ℕ) (bytes : List ℕ) (room : 16 ≤ length bytes)
    (fits : (k : ℕ) → Fits w8 (get_or bytes k 0))
    (agree : agree_below (λ x. top 7 (above 9 (less x 48))) (λ x. not (is_digit x)) 256 ≡ true) where
  abbrev is_other : ℕ → Bool
  is_other x = top 7 (above 9 (less x 48))

  abbrev others : ℕ
  others = mask_l (map (top 7) (zip2 above (replicate 16 9) (zip2 less (chunk 0 16 bytes) (replicate 16 48)))) % 2 ^ 64

  mask_is : others ≡ mask_l (map is_other (chunk 0 16 bytes))
  mask_is = mask_of 16 above less bytes room (omega arith) fits agree

  digit_at : (k : ℕ) → is_other (get_or bytes k 0) ≡ false → is_digit (get_or bytes k 0) ≡ true
  digit_at = digit_by 16 above less bytes room (omega arith) fits agree

  -- each of the sixteen
  pub all_digits : others ≡ 0 → (k : ℕ) → k < 16 → is_digit (get_or bytes k 0) ≡ true
  all_digits none k l =
      digit_at k
      (none_from_empty_mask is_other bytes 0 16 0 room (sym mask_is ∙ none) k (omega arith) (omega (arith, l)))

  -- or those before the first that isn't one
  module _ (some : others ≢ 0) where
    counted : count_trailing_zeros 64 others
        ≡ prefix_len (λ x. not (is_other x)) (chunk 0 16 bytes)
    counted =
        ap (count_trailing_zeros 64) mask_is
        ∙ trailing_mask_l is_other 64 (chunk 0 16 bytes) (omega (arith, length-chunk 0 16 bytes room))
        (omega (arith, mask_is, some))

    pub few_digits : count_trailing_zeros 64 others ≤ 16
    few_digits = run_in_chunk_le is_other bytes 0 16 (count_trailing_zeros 64 others) 0 room counted

    pub digits_before : (k : ℕ) → k < count_trailing_zeros 64 others → is_digit (get_or bytes k 0) ≡ true
    digits_before k l =
        digit_at k (run_in_chunk_fails is_other bytes 0 16 (count_trailing_zeros 64 others) 0 room counted k
        (omega arith) (omega (arith, l)))

    pub other_after : count_trailing_zeros 64 others ≢ 16
        → is_digit (get_or bytes (count_trailing_zeros 64 others) 0) ≡ false
    other_after l =
        other_by 16 above less bytes room (omega arith) fits agree (count_trailing_zeros 64 others)
        (ap (λ (k : ℕ). is_other (get_or bytes k 0)) (omega arith)
        ∙ run_in_chunk_stops is_other bytes 0 16 (count_trailing_zeros 64 others) 0 room counted
        (omega (arith, few_digits, l)))
