-- What a word's parts add up to, by its row.
use Rattle.std.proofs.Common.{◌≡◌, ℕ, ◌+◌, ◌*◌, ◌/◌, ◌%◌, ◌<◌, get_or, refl, arith, pos}
use Rattle.std.proofs.Common.{◌+ℤ◌}
use Rattle.std.specs.Prelude.{slice_index}
use Rattle.mseed_steim.specs.private.Digits.{digits}
use Rattle.mseed_steim.specs.private.Lanes.{total, word_of}
use Rattle.mseed_steim.specs.private.Lanes.{fine_two, ones_two, coarse_two, counts_two, table_two, turned, widths_two}
use Rattle.mseed_steim.proofs.Below.{sixteen}
use Rattle.mseed_steim.proofs.FrameBytes.{Tells, none_told, told}
use Rattle.mseed_steim.proofs.FrameBytes.{four_is, two_is, three_is, five_is, six_is, seven_is}

-- a word's bytes by its row, with the bits of signs turned over, and what its parts then count for too much
unfoldable pub turned_a : ℕ → ℕ → ℕ
turned_a row a = turned (table_two 128 32 32 32 33 8) row a

unfoldable pub turned_b : ℕ → ℕ → ℕ
turned_b row b = turned (table_two 128 0 8 130 8 136) row b

unfoldable pub turned_c : ℕ → ℕ → ℕ
turned_c row c = turned (table_two 128 64 2 8 66 136) row c

unfoldable pub turned_d : ℕ → ℕ → ℕ
turned_d row d = turned (table_two 128 0 0 32 16 136) row d

unfoldable pub least_two : ℕ → ℕ
least_two row = slice_index (table_two 64 0 192 20 12 7) row

unfoldable pub least_coarse_two : ℕ → ℕ
least_coarse_two row = slice_index (table_two 0 128 0 0 0 0) row

-- 128 times what the parts of a word count for
abbrev pub whole : ℕ → ℕ → ℕ → ℕ → ℕ → ℕ
whole row a b c d =
    128 * ones_two row (turned_a row a) (turned_b row b) (turned_c row c) (turned_d row d) + fine_two row
    (turned_a row a) (turned_b row b) (turned_c row c) (turned_d row d)
    + 32768 * coarse_two row (turned_a row a) (turned_b row b) (turned_c row c) (turned_d row d)

-- what they count for more than the differences
abbrev pub least : ℕ → ℕ
least row = 8 * least_two row + 256 * least_coarse_two row

all_tell : (row : ℕ) → row < 16 → Tells counts_two widths_two whole least row
unfolding fine_two ones_two coarse_two turned_a turned_b turned_c turned_d least_two least_coarse_two counts_two
    widths_two
all_tell =
    let by = told counts_two widths_two whole least in
    let none = none_told counts_two widths_two whole least 0 (λ a b c d. omega arith) tt refl refl in
    let bytes = by 4 _ four_is refl (omega arith) (λ a b c d. omega arith) (λ a b c d. omega arith) tt in
    sixteen (Tells counts_two widths_two whole least) none none none none bytes bytes bytes bytes
    (λ a b c d A B C D few. absurd (omega (arith, few))) (λ a b c d A B C D few. absurd (omega (arith, few)))
    (by 10 _ two_is refl (omega arith) (λ a b c d. omega arith) (λ a b c d. omega arith) tt)
    (by 11 _ three_is refl (omega arith) (λ a b c d. omega arith) (λ a b c d. omega arith) tt)
    (by 12 _ five_is refl (omega arith) (λ a b c d. omega arith) (λ a b c d. omega arith) tt)
    (by 13 _ six_is refl (omega arith) (λ a b c d. omega arith) (λ a b c d. omega arith) tt)
    (by 14 _ seven_is refl (omega arith) (λ a b c d. omega arith) (λ a b c d. omega arith) tt)
    (λ a b c d A B C D few. absurd (omega (arith, few)))

pub tells : (a b c d : ℕ) → a < 256 → b < 256 → c < 256 → d < 256 → (row : ℕ) → row < 16
    → get_or counts_two row 0 < 128 → (whole row a b c d % 128 ≡ 0)
    × (pos (whole row a b c d / 128)
    ≡ total (digits (get_or widths_two row 0) (word_of a b c d) (get_or counts_two row 0)) +ℤ pos (least row))
tells a b c d A B C D row less = all_tell row less a b c d A B C D
