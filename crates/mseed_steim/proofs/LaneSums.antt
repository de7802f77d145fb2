-- Sums of lanes, modulo 2^32.
use Rattle.std.proofs.Common.{◌≡◌, ℕ, zero, suc, ◌+◌, ◌-◌, ◌*◌, ◌%◌, ◌^◌, ◌<◌, ◌≤◌, List, [], ◌∷◌, length, map, get_or}
use Rattle.std.proofs.lemmas.Bool.Decides.{nat_tests}
use Rattle.std.proofs.Common.{◌++◌, subst, refl, sym, ap, ◌∙◌, arith, Fits, w32}
use Rattle.std.proofs.lemmas.Simd.{pick_l_whole, zip2_of_maps, map-map, sum_dots}
use Rattle.std.specs.List.{range_with_len}
use lib.Lanes.{all_below, pair_sums, zip2, sum_l, fold_l, dots, Each1}
use lib.Dec.{T}
use lib.ListN.{replicate}
use Rattle.mseed_steim.specs.private.Lanes.{words}
use Rattle.mseed_steim.proofs.LaneTables.{each_of_all}

pub plus_sum : (xs ys : List ℕ) → length xs ≡ length ys → sum_l (zip2 (λ a b. (a + b) % 4294967296) xs ys) % 4294967296
    ≡ (sum_l xs + sum_l ys) % 4294967296
plus_sum [] [] e = refl
plus_sum (x ∷ xs) (y ∷ ys) e = let ih = plus_sum xs ys (omega arith) in omega (arith, ih)
plus_sum _ _ e = absurd (omega arith)

pub minus_sum : (xs ys : List ℕ) → length xs ≡ length ys → Each1 (Fits w32) ys
    → (sum_l (zip2 (λ a b. (a + (4294967296 - b)) % 4294967296) xs ys) + sum_l ys) % 4294967296 ≡ sum_l xs % 4294967296
minus_sum [] [] e h = refl
minus_sum (x ∷ xs) (y ∷ ys) e h = grind (arith, minus_sum xs ys (omega arith) h.1)
minus_sum _ _ e h = absurd (omega arith)

pub shl_sum : (k n : ℕ) (xs : List ℕ) → length xs ≡ n
    → sum_l (zip2 (λ a b. a * 2 ^ b % 4294967296) xs (replicate n k)) % 4294967296 ≡ 2 ^ k * sum_l xs % 4294967296
shl_sum k n [] e = omega arith
shl_sum k zero (x ∷ xs) e = absurd (omega arith)
shl_sum k (suc n) (x ∷ xs) e = grind (arith, shl_sum k n xs (omega arith))

pub fold_sum : (a : ℕ) (xs : List ℕ)
    → fold_l (λ s x. (s + x) % 4294967296) (a % 4294967296) xs ≡ (a + sum_l xs) % 4294967296
fold_sum a [] = omega arith
fold_sum a (x ∷ xs) = grind (arith, fold_sum (a % 4294967296 + x) xs)

pub fold_sum_0 : (xs : List ℕ) → fold_l (λ s x. (s + x) % 4294967296) 0 xs ≡ sum_l xs % 4294967296
fold_sum_0 xs = fold_sum 0 xs ∙ omega arith

-- a list of 64, spelled
pub spelled : (xs : List ℕ) → length xs ≡ 64 → xs ≡ map (λ k. get_or xs k 0) (range_with_len 0 64)
spelled xs e = sym (pick_l_whole 0 xs 64 e)

-- and one of four
pub spelled_four : (xs : List ℕ) → length xs ≡ 4
    → xs ≡ get_or xs 0 0 ∷ get_or xs 1 0 ∷ get_or xs 2 0 ∷ get_or xs 3 0 ∷ []
spelled_four xs e = sym (pick_l_whole 0 xs 4 e)

-- two and two of four lists' items, and two and two of these
abbrev Sums : List ℕ → List ℕ → List ℕ → List ℕ → Type 0
Sums a b c d =
    map (λ n. n % 4294967296) (pair_sums (map (λ n. n % 4294967296) (pair_sums (a ++ b))
    ++ map (λ n. n % 4294967296) (pair_sums (c ++ d))))
    ≡ sum_l a % 4294967296 ∷ sum_l b % 4294967296 ∷ sum_l c % 4294967296 ∷ sum_l d % 4294967296 ∷ []

four_added : (x y z t : ℕ) → ((x + y) % 4294967296 + (z + t) % 4294967296) % 4294967296
    ≡ (x + (y + (z + (t + 0)))) % 4294967296
four_added x y z t = omega arith

sums_spelled : (a b c d e f g h i j k l m n o p : ℕ)
    → Sums (a ∷ b ∷ c ∷ d ∷ []) (e ∷ f ∷ g ∷ h ∷ []) (i ∷ j ∷ k ∷ l ∷ []) (m ∷ n ∷ o ∷ p ∷ [])
sums_spelled a b c d e f g h i j k l m n o p = search (arith, four_added)

pub sums_of_four : (a b c d x y : List ℕ) → length a ≡ 4 → length b ≡ 4 → length c ≡ 4 → length d ≡ 4
    → x ≡ map (λ n. n % 4294967296) (pair_sums (a ++ b)) → y ≡ map (λ n. n % 4294967296) (pair_sums (c ++ d))
    → map (λ n. n % 4294967296) (pair_sums (x ++ y))
    ≡ sum_l a % 4294967296 ∷ sum_l b % 4294967296 ∷ sum_l c % 4294967296 ∷ sum_l d % 4294967296 ∷ []
sums_of_four a b c d x y e f g h i j =
    let item : List ℕ → ℕ → ℕ = λ xs k. get_or xs k 0 in
    let all = sums_spelled (item a 0) (item a 1) (item a 2) (item a 3) (item b 0) (item b 1) (item b 2) (item b 3)
    (item c 0) (item c 1) (item c 2) (item c 3) (item d 0) (item d 1) (item d 2) (item d 3) in
    let spelled : (xs : List ℕ) → List ℕ = λ xs. item xs 0 ∷ item xs 1 ∷ item xs 2 ∷ item xs 3 ∷ [] in
    let one : Sums a (spelled b) (spelled c) (spelled d) = search (arith, nat_tests, spelled, spelled_four) in
    let two : Sums a b (spelled c) (spelled d) = search (arith, nat_tests, spelled, spelled_four) in
    let three : Sums a b c (spelled d) = search (arith, nat_tests, spelled, spelled_four) in
    let four : Sums a b c d = subst (Sums a b c) (sym (spelled_four d h)) three in
    ap (λ (l : List ℕ). map (λ n. n % 4294967296) (pair_sums (l ++ y))) i
    ∙ ap (λ (l : List ℕ). map (λ n. n % 4294967296) (pair_sums (map (λ n. n % 4294967296) (pair_sums (a ++ b)) ++ l))) j
    ∙ four

-- sums over the words
pub sums_plus : (f g : ℕ → ℕ) (ws : List ℕ) → sum_l (map (λ w. f w + g w) ws) ≡ sum_l (map f ws) + sum_l (map g ws)
sums_plus f g [] = refl
sums_plus f g (w ∷ ws) = let ih = sums_plus f g ws in omega (arith, ih)

pub two_sums : (f g : ℕ → ℕ) (ws : List ℕ) (s t u : ℕ) → s ≡ sum_l (map f ws) → t ≡ sum_l (map g ws)
    → u % 4294967296 ≡ (s + t) % 4294967296
    → u % 4294967296 ≡ sum_l (map (λ w. f w + g w) ws) % 4294967296
two_sums f g ws s t u d e h = grind (arith, sums_plus)

pub more_sums : (f g : ℕ → ℕ) (ws : List ℕ) (s t u : ℕ) → s % 4294967296 ≡ sum_l (map f ws) % 4294967296
    → t ≡ sum_l (map g ws) → u % 4294967296 ≡ (s + t) % 4294967296
    → u % 4294967296 ≡ sum_l (map (λ w. f w + g w) ws) % 4294967296
more_sums f g ws s t u d e h = let k = sums_plus f g ws in omega (arith, d, e, h, k)

pub four_sums : (f g h k : ℕ → ℕ) (ws : List ℕ) (a b c d s t u : ℕ) → a ≡ sum_l (map f ws) → b ≡ sum_l (map g ws)
    → c ≡ sum_l (map h ws) → d ≡ sum_l (map k ws) → s % 4294967296 ≡ (a + b) % 4294967296
    → t % 4294967296 ≡ (s + c) % 4294967296 → u % 4294967296 ≡ (t + d) % 4294967296
    → u % 4294967296 ≡ sum_l (map (λ w. f w + g w + h w + k w) ws) % 4294967296
four_sums f g h k ws a b c d s t u p q r v e m n =
    more_sums (λ w. f w + g w + h w) k ws t d u
    (more_sums (λ w. f w + g w) h ws s c t (two_sums f g ws a b s p q e) r m) v n

pub table_words : (t rows : List ℕ) (table : List ℕ) (row : ℕ → ℕ) (ws : List ℕ) → t ≡ map (λ r. get_or table r 0) rows
    → rows ≡ map row ws
    → t ≡ map (λ w. get_or table (row w) 0) ws
table_words t rows table row ws e g = grind (arith, map-map)

-- a plane and what a table says of its rows, word by word
pub planes_by : (by : ℕ → ℕ → ℕ) (p t rows : List ℕ) (table : List ℕ) (byte row : ℕ → ℕ) (ws : List ℕ)
    → t ≡ map (λ r. get_or table r 0) rows → p ≡ map byte ws → rows ≡ map row ws
    → zip2 by p t ≡ map (λ w. by (byte w) (get_or table (row w) 0)) ws
planes_by by p t rows table byte row ws e f g =
    zip2_of_maps by byte (λ w. get_or table (row w) 0) ws f (table_words t rows table row ws e g)

pub weighed_words : (xs vs : List ℕ) (f g : ℕ → ℕ) (ws : List ℕ) → length xs ≡ 16 → length vs ≡ 16 → xs ≡ map f ws
    → vs ≡ map g ws
    → sum_l (dots xs vs) ≡ sum_l (map (λ w. f w * g w) ws)
weighed_words xs vs f g ws l m e h = (sum_dots 4 xs vs l m).0 ∙ ap sum_l (zip2_of_maps (λ x y. x * y) f g ws e h)

pub long_words : length words ≡ 16
unfolding words
long_words = refl

-- a table of no more than 128 each adds up to less than 2^32
counted_in : (t : List ℕ) → Each1 (λ x. x < 129) t → (row : ℕ → ℕ) (ws : List ℕ)
    → sum_l (map (λ w. get_or t (row w) 0) ws) ≤ 128 * length ws
counted_in t h row [] = omega arith
counted_in t h row (w ∷ ws) =
    let ih = counted_in t h row ws in
    let one = at_most t h (row w) in
    omega (arith, ih, one)
  where
    at_most : (t : List ℕ) → Each1 (λ x. x < 129) t → (i : ℕ) → get_or t i 0 < 129
    at_most [] h i = omega arith
    at_most (x ∷ t) h zero = h.0
    at_most (x ∷ t) h (suc i) = at_most t h.1 i

pub counted_by : (t : List ℕ) → T (all_below 129 t) → (row : ℕ → ℕ)
    → sum_l (map (λ w. get_or t (row w) 0) words) % 4294967296 ≡ sum_l (map (λ w. get_or t (row w) 0) words)
counted_by t small row = search (arith, counted_in, each_of_all, long_words)
