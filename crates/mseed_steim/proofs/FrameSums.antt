-- What a frame's words add up to.
use Rattle.mseed_steim.specs.Frames.{AreOctets}
use Rattle.std.proofs.Common.{◌≡◌, Bool, true, false, if◌then◌else◌, ℕ, ◌+◌}
use Rattle.std.proofs.Common.{◌*◌, ◌/◌, ◌%◌, ◌<◌, List, [], ◌∷◌, map, get_or, refl, sym, ap, ◌∙◌}
use Rattle.std.proofs.Common.{arith, ℤ, pos, ◌+ℤ◌}
use lib.Lanes.{sum_l}
use Rattle.mseed_steim.specs.declared.scheme.Scheme.TheVariants.{Two}
use Rattle.mseed_steim.specs.private.Lanes.{word_of}
use Rattle.mseed_steim.specs.private.Lanes.{words, sum_z, byte_at, row_at, moved, counts_two, ones_two}
use Rattle.mseed_steim.specs.private.Lanes.{fine_two, coarse_two}
use Rattle.mseed_steim.specs.private.Moves.{Raises}
use Rattle.mseed_steim.proofs.FrameWords.{least, least_coarse_two, least_two, tells, turned_a, turned_b, turned_c}
use Rattle.mseed_steim.proofs.FrameWords.{turned_d, whole}

abbrev pub Reported : (ℕ → ℕ) → (ℕ → ℕ) → (ℕ → ℕ) → (ℕ → ℤ) → ℕ → Type 0
Reported count whole least moved w = count w < 128 → (whole w % 128 ≡ 0)
    × (pos (whole w / 128) ≡ moved w +ℤ pos (least w))

step : (x X l L : ℕ) (m M : ℤ) → x % 128 ≡ 0 → pos (x / 128) ≡ m +ℤ pos l → X % 128 ≡ 0 → pos (X / 128) ≡ M +ℤ pos L
    → pos ((x + X) / 128) ≡ (m +ℤ M) +ℤ pos (l + L)
step x X l L m M e f g h = search arith

reported_all : (count whole least : ℕ → ℕ) (moved : ℕ → ℤ) → ((w : ℕ) → Reported count whole least moved w)
    → (ws : List ℕ) → sum_l (map count ws) < 128 → (sum_l (map whole ws) % 128 ≡ 0)
    × (pos (sum_l (map whole ws) / 128) ≡ sum_z (map moved ws) +ℤ pos (sum_l (map least ws)))
reported_all count whole least moved h [] lt = (refl, refl)
reported_all count whole least moved h (w ∷ ws) lt =
    let a = h w (omega (arith, lt)) in
    grind (arith, least, step, whole, reported_all count whole least moved h ws (omega (arith, lt)))

-- lanes that come to what the words report tell what these move by
pub raises_by : (count whole least : ℕ → ℕ) (moved : ℕ → ℤ) → ((w : ℕ) → Reported count whole least moved w)
    → (x W L : ℕ) → (x + 128 * L) % 4294967296 ≡ W % 4294967296 → W ≡ sum_l (map whole words)
    → L ≡ sum_l (map least words) → sum_l (map count words) < 128 → Raises x (sum_z (map moved words))
raises_by count whole least moved h x W L come w l few =
    let all = rw (← w, ← l) at (reported_all count whole least moved h words few) in
    let even : W ≡ 128 * (W / 128) = omega (arith, all.0) in
    (W / 128, (L, (all.1, come ∙ ap (λ n. n % 4294967296) even)))

-- what the lanes come to, modulo 2^32
pub lanes_come : (ones fine coarse least far ON FI CO t7 p1 m1 t15 p2 t10 m2 : ℕ)
    → ones % 4294967296 ≡ ON % 4294967296 → fine % 4294967296 ≡ FI % 4294967296 → coarse % 4294967296 ≡ CO % 4294967296
    → (m1 + far) % 4294967296 ≡ coarse % 4294967296 → t15 % 4294967296 ≡ 32768 * m1 % 4294967296
    → t7 % 4294967296 ≡ 128 * ones % 4294967296 → p1 % 4294967296 ≡ (t7 + fine) % 4294967296
    → p2 % 4294967296 ≡ (p1 + t15) % 4294967296
    → t10 % 4294967296 ≡ 1024 * least % 4294967296 → (m2 + t10) % 4294967296 ≡ p2 % 4294967296
    → (m2 + 128 * (8 * least + 256 * far)) % 4294967296 ≡ (128 * ON + FI + 32768 * CO) % 4294967296
lanes_come ones fine coarse least far ON FI CO t7 p1 m1 t15 p2 t10 m2 e1 e2 e3 e4 e5 e6 e7 e8 e9 e10 =
    omega (arith, e1, e2, e3, e4, e5, e6, e7, e8, e9, e10)

three_sums : (o f c : ℕ → ℕ) (ws : List ℕ)
    → sum_l (map (λ w. 128 * o w + f w + 32768 * c w) ws) ≡ 128 * sum_l (map o ws) + sum_l (map f ws) + 32768 * sum_l
    (map c ws)
three_sums o f c [] = refl
three_sums o f c (w ∷ ws) = let ih = three_sums o f c ws in omega (arith, ih)

least_sums : (l c : ℕ → ℕ) (ws : List ℕ)
    → sum_l (map (λ w. 8 * l w + 256 * c w) ws) ≡ 8 * sum_l (map l ws) + 256 * sum_l (map c ws)
least_sums l c [] = refl
least_sums l c (w ∷ ws) = let ih = least_sums l c ws in omega (arith, ih)

code_small : (b : Bool) (x : ℕ) → (if b then 0 else x % 4) < 4
code_small true x = omega arith
code_small false x = omega arith

top_small : (a b c d : ℕ) → a < 256 → b < 256 → c < 256 → d < 256 → word_of a b c d / 1073741824 < 4
top_small a b c d A B C D = omega arith

pub row_small : (f : List ℕ) (from : ℕ) → AreOctets f → (w : ℕ) → row_at f from w < 16
row_small f from h w = search (arith, code_small, top_small)

abbrev pub whole_at : List ℕ → ℕ → ℕ → ℕ
whole_at f from w = whole (row_at f from w) (byte_at f 0 w) (byte_at f 1 w) (byte_at f 2 w) (byte_at f 3 w)

-- a part of a word, some bits of whose bytes are turned over
abbrev pub part_at : (ℕ → ℕ → ℕ → ℕ → ℕ → ℕ) → (ℕ → ℕ → ℕ) → (ℕ → ℕ → ℕ) → (ℕ → ℕ → ℕ) → (ℕ → ℕ → ℕ) → List ℕ → ℕ
    → ℕ → ℕ
part_at part a b c d f from w =
    part (row_at f from w) (a (row_at f from w) (byte_at f 0 w)) (b (row_at f from w) (byte_at f 1 w))
    (c (row_at f from w) (byte_at f 2 w)) (d (row_at f from w) (byte_at f 3 w))

reported : (f : List ℕ) (from : ℕ) → AreOctets f → (w : ℕ)
    → Reported (λ w. get_or counts_two (row_at f from w) 0) (whole_at f from) (λ w. least (row_at f from w))
    (moved Two f from) w
reported f from h w = search (arith, row_small, tells)

abbrev parts_two : (ℕ → ℕ → ℕ → ℕ → ℕ → ℕ) → List ℕ → ℕ → ℕ → ℕ
parts_two part = part_at part turned_a turned_b turned_c turned_d

pub frame_raised : (f : List ℕ) (from : ℕ) → AreOctets f → (x le far : ℕ)
    → (x + 128 * (8 * le + 256 * far)) % 4294967296 ≡ (128 * sum_l (map (parts_two ones_two f from) words)
    + sum_l (map (parts_two fine_two f from) words) + 32768 * sum_l (map (parts_two coarse_two f from) words))
    % 4294967296 → le ≡ sum_l (map (λ w. least_two (row_at f from w)) words)
    → far ≡ sum_l (map (λ w. least_coarse_two (row_at f from w)) words)
    → sum_l (map (λ w. get_or counts_two (row_at f from w) 0) words) < 128
    → Raises x (sum_z (map (moved Two f from) words))
frame_raised f from h x le far come l c few =
    raises_by (λ w. get_or counts_two (row_at f from w) 0) (whole_at f from) (λ w. least (row_at f from w))
    (moved Two f from) (reported f from h) x _ (8 * le + 256 * far) come
    (sym (three_sums (parts_two ones_two f from) (parts_two fine_two f from) (parts_two coarse_two f from) words))
    (rw (l, c) (sym (least_sums (λ w. least_two (row_at f from w)) (λ w. least_coarse_two (row_at f from w)) words)))
    few
