-- Steim-1: what a word's parts add up to, by its row, and a frame's words.
use Rattle.mseed_steim.specs.Frames.{AreOctets}
use Rattle.std.proofs.Common.{◌≡◌, ℕ, ◌+◌, ◌*◌, ◌%◌, ◌<◌, List, [], ◌∷◌}
use Rattle.std.proofs.Common.{map, get_or, refl, sym, arith}
use lib.Lanes.{sum_l}
use Rattle.mseed_steim.specs.declared.scheme.Scheme.TheVariants.{One}
use Rattle.std.specs.Prelude.{slice_index}
use Rattle.mseed_steim.specs.private.Lanes.{words, sum_z, byte_at, row_at, low_one, high_one, counts_one, widths_one}
use Rattle.mseed_steim.specs.private.Lanes.{moved, table_one, turned}
use Rattle.mseed_steim.proofs.Below.{sixteen}
use Rattle.mseed_steim.specs.private.Moves.{Raises}
use Rattle.mseed_steim.proofs.FrameSums.{Reported, part_at, raises_by, row_small}
use Rattle.mseed_steim.proofs.FrameBytes.{Tells, none_told, told}
use Rattle.mseed_steim.proofs.FrameBytes.{four_is, wide_is}

-- a word's bytes by its row, with the bits of signs turned over, and what its parts then count for too much
unfoldable pub flipped : ℕ → ℕ → ℕ
flipped row byte = turned (table_one 128 128) row byte

unfoldable pub flipped_low : ℕ → ℕ → ℕ
flipped_low row byte = turned (table_one 128 0) row byte

unfoldable pub least_one : ℕ → ℕ
least_one row = slice_index (table_one 1 128) row

-- the parts of a word
abbrev pub whole_one : ℕ → ℕ → ℕ → ℕ → ℕ → ℕ
whole_one row a b c d =
    low_one row (flipped row a) (flipped_low row b) (flipped row c) (flipped_low row d) + 256 * high_one row
    (flipped row a) (flipped_low row b) (flipped row c) (flipped_low row d)

abbrev AllTell : ℕ → Type 0
AllTell = Tells counts_one widths_one (λ row a b c d. 128 * whole_one row a b c d) (λ row. 512 * least_one row)

all_tell : (row : ℕ) → row < 16 → AllTell row
unfolding low_one high_one flipped flipped_low least_one counts_one widths_one
all_tell =
    let by = told counts_one widths_one (λ row a b c d. 128 * whole_one row a b c d) (λ row. 512 * least_one row) in
    let none : AllTell 0 =
    none_told counts_one widths_one (λ row a b c d. 128 * whole_one row a b c d) (λ row. 512 * least_one row) 0
    (λ a b c d. omega arith) tt refl refl in
    let bytes = by 4 _ four_is refl (omega arith) (λ a b c d. omega arith) (λ a b c d. omega arith) tt in
    let pairs = by 8 _ wide_is refl (omega arith) (λ a b c d. omega arith) (λ a b c d. omega arith) tt in
    sixteen AllTell none none none none bytes bytes bytes bytes pairs pairs pairs pairs
    (λ a b c d A B C D few. absurd (omega (arith, few))) (λ a b c d A B C D few. absurd (omega (arith, few)))
    (λ a b c d A B C D few. absurd (omega (arith, few))) (λ a b c d A B C D few. absurd (omega (arith, few)))

-- what the lanes come to, modulo 2^32
pub lanes_come_one : (low high least LO HI t8 p1 t9 m s : ℕ)
    → low % 4294967296 ≡ LO % 4294967296 → high % 4294967296 ≡ HI % 4294967296
    → t8 % 4294967296 ≡ 256 * high % 4294967296 → p1 % 4294967296 ≡ (low + t8) % 4294967296
    → t9 % 4294967296 ≡ 512 * least % 4294967296 → (m + t9) % 4294967296 ≡ p1 % 4294967296
    → s % 4294967296 ≡ 128 * m % 4294967296
    → (s + 128 * (512 * least)) % 4294967296 ≡ 128 * (LO + 256 * HI) % 4294967296
lanes_come_one low high least LO HI t8 p1 t9 m s e1 e2 e3 e4 e5 e6 e7 = omega (arith, e1, e2, e3, e4, e5, e6, e7)

sums_256 : (o f : ℕ → ℕ) (ws : List ℕ)
    → sum_l (map (λ w. 128 * (o w + 256 * f w)) ws) ≡ 128 * (sum_l (map o ws) + 256 * sum_l (map f ws))
sums_256 o f [] = refl
sums_256 o f (w ∷ ws) = let ih = sums_256 o f ws in omega (arith, ih)

sums_512 : (l : ℕ → ℕ) (ws : List ℕ) → sum_l (map (λ w. 512 * l w) ws) ≡ 512 * sum_l (map l ws)
sums_512 l [] = refl
sums_512 l (w ∷ ws) = let ih = sums_512 l ws in omega (arith, ih)

abbrev whole_at_one : List ℕ → ℕ → ℕ → ℕ
whole_at_one f from w = whole_one (row_at f from w) (byte_at f 0 w) (byte_at f 1 w) (byte_at f 2 w) (byte_at f 3 w)

reported_one : (f : List ℕ) (from : ℕ) → AreOctets f → (w : ℕ)
    → Reported (λ w. get_or counts_one (row_at f from w) 0) (λ w. 128 * whole_at_one f from w)
    (λ w. 512 * least_one (row_at f from w)) (moved One f from) w
reported_one f from h w few =
    all_tell (row_at f from w) (row_small f from h w) (byte_at f 0 w) (byte_at f 1 w) (byte_at f 2 w) (byte_at f 3 w)
    (h _) (h _) (h _) (h _) few

abbrev parts_one : (ℕ → ℕ → ℕ → ℕ → ℕ → ℕ) → List ℕ → ℕ → ℕ → ℕ
parts_one part = part_at part flipped flipped_low flipped flipped_low

pub frame_raised_one : (f : List ℕ) (from : ℕ) → AreOctets f → (x le : ℕ)
    → (x + 128 * (512 * le)) % 4294967296 ≡ 128 * (sum_l (map (parts_one low_one f from) words)
    + 256 * sum_l (map (parts_one high_one f from) words)) % 4294967296
    → le ≡ sum_l (map (λ w. least_one (row_at f from w)) words)
    → sum_l (map (λ w. get_or counts_one (row_at f from w) 0) words) < 128
    → Raises x (sum_z (map (moved One f from) words))
frame_raised_one f from h x le come l few =
    raises_by (λ w. get_or counts_one (row_at f from w) 0) (λ w. 128 * whole_at_one f from w)
    (λ w. 512 * least_one (row_at f from w)) (moved One f from) (reported_one f from h) x _ (512 * le) come
    (sym (sums_256 (parts_one low_one f from) (parts_one high_one f from) words))
    (rw l (sym (sums_512 (λ w. least_one (row_at f from w)) words))) few
