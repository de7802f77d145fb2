-- Sizes in lanes, and how many differences of such sizes a word holds.
use Rattle.std.proofs.Common.{◌≡◌, ℕ, zero, suc, ◌+◌, ◌-◌, ◌*◌, ◌%◌, ◌<◌, ◌≤◌, List, [], ◌∷◌, length, take}
use Rattle.std.proofs.Common.{get_or, map, arith, refl, ap, sym, ◌∙◌, ⊎_elim, cond, ltb, to_z, w8, w16, Bool}
use Rattle.std.proofs.Common.{drop, false, min, max, length-append, zero-add}
use Rattle.std.proofs.lemmas.List.{length-map, map-id, take_rest, drop_all, append-nil, get_or_append_left}
use Rattle.std.proofs.lemmas.List.{get_or-append_right}
use Rattle.std.proofs.lemmas.List.{get_or-take, get_or-drop, get_or-map, length-take-le, length-drop}
use lib.Signed.{lt_z}
use lib.Dec.{leb}
use lib.Lanes.{zip2, sel_l, top, chunk, put_chunk, Each1}
use borrow.Rule.Slice.PartMut.{put_mid, mid_of}
use lib.ListN.{replicate, length-replicate}
use Rattle.std.proofs.lemmas.Bool.{cases_lt, lt-ltb}
use Rattle.std.proofs.lemmas.Bool.Decides.{nat_tests}
use Rattle.std.proofs.lemmas.Simd.{length-put_chunk, Each1-from_get_or, get_or-put_chunk_at, get_or-put_chunk_above}
use Rattle.std.proofs.lemmas.Simd.{get_or-replicate, get_or-chunk, get_or-sel_l, get_or-zip2, length-chunk}
use Rattle.std.proofs.lemmas.Simd.{length-sel_l, length-zip2, tops_compared}
use Rattle.mseed_steim_pack.specs.private.Ahead.{raised, most_one, most_two, IsMost, IsMostOf}

-- of numbers below 2^15 the signed comparison is the plain one
lt_small : (a b : ℕ) → a < 32768 → b < 32768 → lt_z (to_z w16 a) (to_z w16 b) ≡ ltb a b
lt_small a b h k = rw (lt-ltb a 32768 h, lt-ltb b 32768 k) refl

-- one lane
one_raised : (n x limit : ℕ) → n < 65535 → x < 32768 → limit < 32768
    → (n + cond (leb 32768 (cond (lt_z (to_z w16 x) (to_z w16 limit)) 65535 0)) 1 0) % 65536 ≡ n + cond (ltb x limit) 1
    0
one_raised n x limit h k l = search (arith, lt_small)

pub lanes_raised : (limit n : ℕ) (f : ℕ → ℕ) (xs : List ℕ) → limit < 32768 → ((x : ℕ) → f x < 65535) → length xs ≡ n
    → Each1 (λ x. x < 32768) xs
    → zip2 (λ a b. (a + b) % 65536) (map f xs)
    (sel_l (map (top 15) (zip2 (λ a b. cond (lt_z (to_z w16 a) (to_z w16 b)) 65535 0) (map (λ x. x) xs)
    (replicate n limit))) (replicate n 1) (replicate n 0)) ≡ map (raised f limit) xs
lanes_raised limit n f [] l h e k = refl
lanes_raised limit zero f (x ∷ xs) l h e k = absurd (omega (arith, e))
lanes_raised limit (suc n) f (x ∷ xs) l h e k =
    let later = lanes_raised limit n f xs l h (omega (arith, e)) k.1 in
    let here = one_raised (f x) x limit (h x) k.0 l in
    cc (here, later)

pub raised_small : (f : ℕ → ℕ) (limit b : ℕ) → ((x : ℕ) → f x ≤ b) → (x : ℕ) → raised f limit x ≤ b + 1
raised_small f limit b h x = search (arith)

-- the numbers so far
pub two_1 : (x : ℕ) → raised (λ _. 1) 16384 x ≤ 2
two_1 = raised_small (λ _. 1) 16384 1 (λ x. omega arith)

pub two_6 : (x : ℕ) → most_two x ≤ 7
two_6 x = grind (arith, nat_tests)

pub one_2 : (x : ℕ) → raised (raised (λ _. 1) 16384) 64 x ≤ 3
one_2 = raised_small _ 64 2 two_1

pub one_3 : (x : ℕ) → most_one x ≤ 4
one_3 = raised_small _ 64 3 one_2

pub same_lanes : (xs ys : List ℕ) → xs ≡ ys → map (λ x. x) xs ≡ ys
same_lanes xs ys e = map-id xs ∙ e

-- the greater and the smaller of two lanes
sel_at : (xs ys us vs : List ℕ) (i : ℕ) → i < length xs → length xs ≡ length ys → length xs ≡ length us
    → length xs ≡ length vs
    → get_or (sel_l (map (top 7) (zip2 (λ a b. cond (ltb a b) 255 0) xs ys)) us vs) i 0
    ≡ cond (ltb (get_or xs i 0) (get_or ys i 0)) (get_or us i 0) (get_or vs i 0)
sel_at xs ys us vs i h e f g =
    let long = length-zip2 ltb xs ys e in
    ap (λ (ms : List Bool). get_or (sel_l ms us vs) i 0) (tops_compared w8 ltb xs ys)
    ∙ get_or-sel_l (zip2 ltb xs ys) us vs i 0 (omega (arith, long)) (omega (arith, f)) (omega (arith, g))
    ∙ ap (λ (b : Bool). cond b (get_or us i 0) (get_or vs i 0)) (get_or-zip2 ltb xs ys i 0 0 false h (omega (arith, e)))

-- what is no more than the one of two lanes, nor than the greater of the other and a place
pub lanes_bounded : (n p : ℕ) (ms hs : List ℕ) (i : ℕ) → length ms ≡ n → length hs ≡ n → i < n
    → get_or (sel_l (map (top 7)
    (zip2 (λ a b. cond (ltb a b) 255 0) ms (sel_l (map (top 7) (zip2 (λ a b. cond (ltb a b) 255 0) hs (replicate n p)))
    (replicate n p) hs))) ms (sel_l (map (top 7) (zip2 (λ a b. cond (ltb a b) 255 0) hs (replicate n p)))
    (replicate n p) hs)) i 0
    ≡ min (get_or ms i 0) (max (get_or hs i 0) p)
lanes_bounded n p ms hs i e f inside =
    let ps = replicate n p in
    let long : length ps ≡ n = length-replicate n p in
    let marks = map (top 7) (zip2 (λ a b. cond (ltb a b) 255 0) hs ps) in
    let count : length marks ≡ n = length-map _ (top 7) ∙ length-zip2 _ hs ps (f ∙ sym long) ∙ f in
    let most : length (sel_l marks ps hs) ≡ n = length-sel_l marks ps hs (count ∙ sym long) (count ∙ sym f) ∙ count in
    let inner = sel_at hs ps ps hs i (omega (arith, f)) (f ∙ sym long) (f ∙ sym long) refl in
    let outer = sel_at ms (sel_l marks ps hs) ms (sel_l marks ps hs) i (omega (arith, e)) (e ∙ sym most) refl
    (e ∙ sym most) in
    rw (outer, inner, get_or-replicate n i p 0 inside) (grind (arith, nat_tests))

-- the first item is looked at, and one more
pub most_first : (items : List ℕ) (from : ℕ) → from < 16 → IsMostOf 1 items from (get_or (chunk 0 16 items) from 0)
most_first items from h k =
    let at = get_or-chunk 0 16 items from 0 h in
    let here : get_or items (0 + from) 0 ≡ get_or items (from + 0) 0 =
    ap (λ (n : ℕ). get_or items n 0) (omega arith) in (
      λ q j less few. let none : j ≡ 0 = omega (arith, few) in rw none (omega (arith, q, at, here)),
      λ all. ⊎_elim (λ (l : 0 < k). omega (arith, at, here, all 0 l (omega arith)))
          (λ (g : k ≤ 0). omega (arith, g)) (cases_lt 0 k),
    )

pub most_more : (items : List ℕ) (from p m n : ℕ) → IsMostOf p items from m
    → n ≡ min m (max (get_or items (from + p) 0) p) → IsMostOf (p + 1) items from n
most_more items from p m n is e k =
    let before = is k in (
      λ q j less few. ⊎_elim (λ (l : j < p). before.0 (omega (arith, q, e)) j less l)
          (λ (g : p ≤ j). let same : j ≡ p = omega (arith, few, g) in rw same (omega (arith, q, e, less, same)))
          (cases_lt j p),
      λ all. let low = before.1 (λ j less few. all j less (omega (arith, few))) in
          ⊎_elim (λ (l : p < k). omega (arith, e, low, all p l (omega arith))) (λ (g : k ≤ p). omega (arith, e, low, g))
          (cases_lt p k),
    )

-- sixteen of a list, whose length is known
pub part_at : {A : Type 0} (d : A) (n from i : ℕ) (xs : List A) → length xs ≡ n → 16 + from ≤ n → i < 16
    → get_or (chunk 0 16 (mid_of from (n - from) xs)) i d ≡ get_or xs (i + from) d
part_at d n from i xs e room inside =
    let place : from + (0 + i) ≡ i + from = omega arith in
    let taken = get_or-take (n - from) (drop from xs) (0 + i) d (omega (arith, room, inside)) in
    rw (get_or-chunk 0 16 (take (n - from) (drop from xs)) i d inside, taken, get_or-drop, place) refl

pub length_part : {A : Type 0} (n from : ℕ) (xs : List A) → length xs ≡ n → 16 + from ≤ n
    → length (chunk 0 16 (mid_of from (n - from) xs)) ≡ 16
length_part n from xs e room = search (arith, length-chunk, length-drop, length-take-le)

-- sixteen lanes that are stored
pub put_below : (n a i : ℕ) (xs ys : List ℕ) → length xs ≡ n → a ≤ n → i < a
    → get_or (put_mid a (n - a) xs (put_chunk 0 (mid_of a (n - a) xs) ys)) i 0 ≡ get_or xs i 0
put_below n a i xs ys e room less = search (arith, get_or-take, get_or_append_left, length-take-le)

behind : (n a i : ℕ) (xs ys : List ℕ) → length xs ≡ n → a ≤ n → a ≤ i
    → get_or (put_mid a (n - a) xs (put_chunk 0 (mid_of a (n - a) xs) ys)) i 0
    ≡ get_or (put_chunk 0 (drop a xs) ys) (i - a) 0
behind n a i xs ys e room more =
    search (arith, append-nil, drop_all, get_or-append_right, length-drop, length-take-le, take_rest)

pub put_at : (n a i : ℕ) (xs ys : List ℕ) → length xs ≡ n → a + 16 ≤ n → length ys ≡ 16 → a ≤ i → i < a + 16
    → get_or (put_mid a (n - a) xs (put_chunk 0 (mid_of a (n - a) xs) ys)) i 0 ≡ get_or ys (i - a) 0
put_at n a i xs ys e room long more less = search (arith, behind, get_or-put_chunk_at, length-drop, zero-add)

pub put_above : (n a i : ℕ) (xs ys : List ℕ) → length xs ≡ n → a + 16 ≤ n → length ys ≡ 16 → a + 16 ≤ i
    → get_or (put_mid a (n - a) xs (put_chunk 0 (mid_of a (n - a) xs) ys)) i 0 ≡ get_or xs i 0
put_above n a i xs ys e room long more = search (arith, behind, get_or-drop, get_or-put_chunk_above)

-- what holds of each of 128 holds of sixteen of them
pub part_all : {A : Type 0} (d : A) (P : A → Type 0) (turn : ℕ) (xs : List A) → length xs ≡ 128 → turn < 8
    → ((i : ℕ) → i < 128 → P (get_or xs i d)) → Each1 P (chunk 0 16 (mid_of (16 * turn) (128 - 16 * turn) xs))
part_all d P turn xs told few each =
    let room : 16 + 16 * turn ≤ 128 = omega (arith, few) in
    let long = length_part 128 (16 * turn) xs told room in
    Each1-from_get_or P (chunk 0 16 (mid_of (16 * turn) (128 - 16 * turn) xs)) d (λ i less.
    rw (part_at d 128 (16 * turn) i xs told room (omega (arith, less, long)))
    (each (i + 16 * turn) (omega (arith, less, long, room))))

mapped_part : {A : Type 0} (d : A) (f : A → ℕ) (n from i : ℕ) (xs : List A) (ys : List ℕ) → length xs ≡ n
    → 16 + from ≤ n → from ≤ i → i < from + 16 → ys ≡ map f (chunk 0 16 (mid_of from (n - from) xs))
    → get_or ys (i - from) 0 ≡ f (get_or xs i d)
mapped_part d f n from i xs ys e room more less q = search (arith, length_part, get_or-map, part_at)

-- a list of 144 with sixteen lanes in the place of others
abbrev pub with_lanes : ℕ → List ℕ → List ℕ → List ℕ
with_lanes at xs ys = put_mid at (144 - at) xs (put_chunk 0 (mid_of at (144 - at) xs) ys)

pub put_length : (n a : ℕ) (xs ys : List ℕ) → length xs ≡ n → a ≤ n
    → length (put_mid a (n - a) xs (put_chunk 0 (mid_of a (n - a) xs) ys)) ≡ n
put_length n a xs ys e room = search (arith, length-append, length-drop, length-put_chunk, length-take-le)

-- the rest of a list whose length is known
pub rest_long : {A : Type 0} (n at : ℕ) (xs : List A) → length xs ≡ n → take (n - at) (drop at xs) ≡ drop at xs
rest_long n at xs long = rw (← long) (take_rest xs at)

-- what is the most in a part of a list is so in the whole
pub most_later : (n a i m : ℕ) (xs zs : List ℕ) → length xs ≡ n → a ≤ i
    → ((x : ℕ) → a ≤ x → get_or xs x 0 ≡ get_or zs x 0) → IsMost (mid_of a (n - a) xs) (i - a) m → IsMost zs i m
most_later n a i m xs zs e more rest h =
    let same : (j : ℕ) → get_or (mid_of a (n - a) xs) (i - a + j) 0 ≡ get_or zs (i + j) 0 = λ j.
    let place : a + (i - a + j) ≡ i + j = omega (arith, more) in
    rw (rest_long n a xs e, get_or-drop, place) (rest (i + j) (omega (arith, more))) in
    λ k. (
      λ q j less few. rw (same j) at ((h k).0 q j less few),
      λ each. (h k).1 (λ j less few. rw (same j) (each j less few)),
    )

-- Sixteen lanes more are stored: what holds of each item before them and of each lane holds of all so far.
pub stored : (P : ℕ → ℕ → Type 0) (turn : ℕ) (xs ys : List ℕ) → length xs ≡ 144 → turn < 8 → length ys ≡ 16
    → ((i : ℕ) → i < 16 * turn → P i (get_or xs i 0))
    → ((i : ℕ) → 16 * turn ≤ i → i < 16 * turn + 16 → P i (get_or ys (i - 16 * turn) 0)) → (i : ℕ) → i < 16 * (turn + 1)
    → P i (get_or (with_lanes (16 * turn) xs ys) i 0)
stored P turn xs ys e few long before here i less = ⊎_elim
    (λ (l : i < 16 * turn). rw (put_below 144 (16 * turn) i xs ys e (omega (arith, few)) l) (before i l))
    (λ (m : 16 * turn ≤ i). let last : i < 16 * turn + 16 = omega (arith, less) in
    rw (put_at 144 (16 * turn) i xs ys e (omega (arith, few)) long m last) (here i m last)) (cases_lt i (16 * turn))

-- so is what is found of 128 items
pub stored_map : {A : Type 0} (d : A) (f : A → ℕ) (turn : ℕ) (xs : List A) (most ys : List ℕ) → length xs ≡ 128
    → length most ≡ 144 → turn < 8 → ys ≡ map f (chunk 0 16 (mid_of (16 * turn) (128 - 16 * turn) xs))
    → ((i : ℕ) → i < 16 * turn → get_or most i 0 ≡ f (get_or xs i d))
    → (length (with_lanes (16 * turn) most ys) ≡ 144)
    × ((i : ℕ) → i < 16 * (turn + 1) → get_or (with_lanes (16 * turn) most ys) i 0 ≡ f (get_or xs i d))
stored_map d f turn xs most ys told room few value done =
    let inside : 16 + 16 * turn ≤ 128 = omega (arith, few) in
    let long : length ys ≡ 16 = rw value (length-map _ f ∙ length_part 128 (16 * turn) xs told inside) in (
      put_length 144 (16 * turn) most ys room (omega (arith, few)),
      stored (λ i x. x ≡ f (get_or xs i d)) turn most ys room few long done
          (λ i more last. mapped_part d f 128 (16 * turn) i xs ys told inside more last value),
    )
