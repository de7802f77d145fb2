-- Which of several bytes are digits, and whether the first six are, by lanes.
use Rattle.std.proofs.Common.{◌≡◌, ◌∙◌, ◌<◌, ◌≤◌, ◌%◌, ◌^◌, ◌/◌, ℕ, List, Bool, true, false, cond}
use Rattle.std.proofs.Common.{not, length, map, take, get_or, replicate, Fits, w8, refl, sym, arith}
use Rattle.std.specs.Char.{is_ascii_digit}
use Rattle.std.specs.List.{list_all}
use Rattle.std.proofs.lemmas.Bool.{agree_below, agree_below_at, not-false, not-true}
use Rattle.std.proofs.lemmas.List.{length-map, get_or-map, get_or-take}
use Rattle.std.proofs.lemmas.Simd.{bit_mask_l, length-chunk, map-map, mask_l-mod, zip2_splat}
use Rattle.std.proofs.lemmas.Simd.{zip2_splat_left}
use Rattle.mseed_record.proofs.Bytes.{take-drop-bytes}
use borrow.Rule.Simd.Lanes.{act2}
use borrow.Table.Row.{s_int}
use lib.Lanes.{chunk, mask_l, top, zip2}
use mir.Syntax.{mask, lt, unsigned, wrap_sub}

-- what the lanes are compared and lowered by
abbrev pub is_above : ℕ → ℕ → ℕ
is_above = act2 (mask (lt unsigned)) (s_int w8) (s_int w8) (s_int w8)

abbrev pub lowered : ℕ → ℕ → ℕ
lowered = act2 wrap_sub (s_int w8) (s_int w8) (s_int w8)

abbrev bit_of : Bool → ℕ
bit_of b = cond b 1 0

unset : (b : Bool) → 0 ≡ bit_of b → b ≡ false
unset true e = absurd (omega (arith, e))
unset false e = refl

module _ (width : ℕ) (above less : ℕ → ℕ → ℕ) (bytes : List ℕ) (room : width ≤ length bytes) (few : width ≤ 64)
    (fits : (k : ℕ) → Fits w8 (get_or bytes k 0))
    (agree : agree_below (λ x. top 7 (above 9 (less x 48))) (λ x. not (is_ascii_digit x)) 256 ≡ true) where
  abbrev is_other : ℕ → Bool
  is_other x = top 7 (above 9 (less x 48))

  abbrev others : ℕ
  others =
      mask_l (map (top 7) (zip2 above (replicate width 9) (zip2 less (chunk 0 width bytes) (replicate width 48))))
      % 2 ^ 64

  pub long : length (chunk 0 width bytes) ≡ width
  long = length-chunk 0 width bytes (omega (arith, room))

  pub mask_is : others ≡ mask_l (map is_other (chunk 0 width bytes))
  mask_is =
      let lower = zip2_splat less (chunk 0 width bytes) width 48 long in
      let compared = zip2_splat_left above 9 width (map (λ x. less x 48) (chunk 0 width bytes))
      (length-map (chunk 0 width bytes) (λ x. less x 48) ∙ long) in
      rw (lower, compared, map-map, map-map)
      (mask_l-mod (map is_other (chunk 0 width bytes)) 64
      (omega (arith, length-map (chunk 0 width bytes) is_other, long, few)))

  pub digit_at : (k : ℕ) → is_other (get_or bytes k 0) ≡ false → is_ascii_digit (get_or bytes k 0) ≡ true
  digit_at k e =
      not-false (is_ascii_digit (get_or bytes k 0))
      (sym (agree_below_at is_other (λ x. not (is_ascii_digit x)) 256 (get_or bytes k 0) agree (fits k).fits) ∙ e)

  pub other_at : (k : ℕ) → is_other (get_or bytes k 0) ≡ true → is_ascii_digit (get_or bytes k 0) ≡ false
  other_at k e =
      not-true (is_ascii_digit (get_or bytes k 0))
      (sym (agree_below_at is_other (λ x. not (is_ascii_digit x)) 256 (get_or bytes k 0) agree (fits k).fits) ∙ e)

  digit_by_bit : (k : ℕ) → others / 2 ^ k % 2 ≡ 0 → k < width → is_ascii_digit (get_or bytes k 0) ≡ true
  digit_by_bit k none l =
      let lane : get_or (map is_other (chunk 0 width bytes)) k false ≡ is_other (get_or bytes k 0) =
      rw (get_or-map is_other (chunk 0 width bytes) k 0 false (omega (arith, long)), get_or-take width bytes k 0 l)
      refl in
      digit_at k (unset (is_other (get_or bytes k 0))
      (rw (lane, ← mask_is, none) at (bit_mask_l (map is_other (chunk 0 width bytes)) k)))

  pub six_digits : 6 ≤ width → others % 64 ≡ 0 → list_all is_ascii_digit (take 6 bytes) ≡ true
  six_digits wide none =
      rw (
        take-drop-bytes bytes 0 6 (omega arith),
        digit_by_bit 0 (omega arith) (omega arith),
        digit_by_bit 1 (omega arith) (omega arith),
        digit_by_bit 2 (omega arith) (omega arith),
        digit_by_bit 3 (omega arith) (omega arith),
        digit_by_bit 4 (omega arith) (omega arith),
        digit_by_bit 5 (omega arith) (omega arith),
      )
      refl
