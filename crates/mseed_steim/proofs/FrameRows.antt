-- The rows of a frame's words.
use Rattle.mseed_steim.specs.Frames.{AreOctets}
use Rattle.std.proofs.Common.{◌≡◌, ℕ, ◌+◌, ◌*◌, ◌/◌, ◌%◌, ◌<◌, List, [], ◌∷◌, map, get_or, bit_and, bit_or, refl, sym}
use Rattle.std.proofs.Common.{ap, ◌∙◌, arith}
use Rattle.mseed_steim.proofs.Below.{same_below}
use Rattle.mseed_steim.specs.private.Lanes.{byte_at, words, word_at, row_at}

abbrev pub codes : List ℕ
codes = 0 ∷ 4 ∷ 8 ∷ 12 ∷ 4 ∷ 0 ∷ 0 ∷ 0 ∷ 8 ∷ 0 ∷ 0 ∷ 0 ∷ 12 ∷ 0 ∷ 0 ∷ 0 ∷ []

abbrev pub code_lane : ℕ → ℕ → ℕ
code_lane mask x = get_or codes (bit_and (bit_or (bit_and x mask) (bit_and x mask / 16)) 15) 0

abbrev pub lane : ℕ → ℕ → ℕ → ℕ
lane mask x a = bit_and (bit_or (code_lane mask x) (a / 64)) 15

code_0 : (x : ℕ) → x < 256 → code_lane 192 x ≡ 4 * (x / 64 % 4)
code_0 = same_below (λ x. code_lane 192 x) (λ x. 4 * (x / 64 % 4)) 256 tt

code_1 : (x : ℕ) → x < 256 → code_lane 48 x ≡ 4 * (x / 16 % 4)
code_1 = same_below (λ x. code_lane 48 x) (λ x. 4 * (x / 16 % 4)) 256 tt

code_2 : (x : ℕ) → x < 256 → code_lane 12 x ≡ 4 * (x / 4 % 4)
code_2 = same_below (λ x. code_lane 12 x) (λ x. 4 * (x / 4 % 4)) 256 tt

code_3 : (x : ℕ) → x < 256 → code_lane 3 x ≡ 4 * (x % 4)
code_3 = same_below (λ x. code_lane 3 x) (λ x. 4 * (x % 4)) 256 tt

code_none : (x : ℕ) → x < 256 → code_lane 0 x ≡ 4 * 0
code_none = same_below (λ x. code_lane 0 x) (λ x. 4 * 0) 256 tt

joined : (n : ℕ) → n < 256 → bit_and (bit_or (n / 4 % 4 * 4) (n % 4)) 15 ≡ n % 16
joined = same_below (λ n. bit_and (bit_or (n / 4 % 4 * 4) (n % 4)) 15) (λ n. n % 16) 256 tt

join : (c t : ℕ) → c < 4 → t < 4 → bit_and (bit_or (4 * c) t) 15 ≡ 4 * c + t
join c t C T =
    let n : ℕ = 4 * c + t in
    let e : n / 4 % 4 * 4 ≡ 4 * c = omega arith in
    let f : n % 4 ≡ t = omega arith in
    let g : n % 16 ≡ 4 * c + t = omega arith in
    sym (ap (λ m. bit_and (bit_or m (n % 4)) 15) e ∙ ap (λ m. bit_and (bit_or (4 * c) m) 15) f)
    ∙ joined n (omega arith) ∙ g

lane_is : (mask x a c : ℕ) → code_lane mask x ≡ 4 * c → c < 4 → a < 256 → (code word : ℕ) → code ≡ c
    → word / 1073741824 ≡ a / 64
    → lane mask x a ≡ 4 * code + word / 1073741824
lane_is mask x a c e C A code word k t =
    ap (λ m. bit_and (bit_or m (a / 64)) 15) e ∙ join c (a / 64) C (omega arith) ∙ omega (arith, k, t)

cons : {x y : ℕ} {xs ys : List ℕ} → x ≡ y → xs ≡ ys → x ∷ xs ≡ y ∷ ys
cons {x} {y} {xs} {ys} e f = ap (λ z. z ∷ xs) e ∙ ap (λ zs. y ∷ zs) f

-- the first byte of a word has its top bits
top : (f : List ℕ) → AreOctets f → (w : ℕ) → word_at f w / 1073741824 ≡ byte_at f 0 w / 64
top f h w = omega (arith, h (4 * w + 0), h (4 * w + 1), h (4 * w + 2), h (4 * w + 3))

-- the lane of a word, whose code stands in a byte
lane_of : (f : List ℕ) → AreOctets f → (mask q w c code : ℕ) → code_lane mask (get_or f q 0) ≡ 4 * c → c < 4 → code ≡ c
    → lane mask (get_or f q 0) (byte_at f 0 w) ≡ 4 * code + word_at f w / 1073741824
lane_of f h mask q w c code e small same =
    lane_is mask (get_or f q 0) (byte_at f 0 w) c e small (h (4 * w + 0)) code (word_at f w) same (top f h w)

-- a word whose code doesn't count
no_code : (f : List ℕ) → AreOctets f → (w : ℕ)
    → lane 0 (get_or f 0 0) (byte_at f 0 w) ≡ 4 * 0 + word_at f w / 1073741824
no_code f h w = lane_of f h 0 0 w 0 0 (code_none (get_or f 0 0) (h 0)) (omega arith) refl

-- the four words whose codes stand in one byte
abbrev pub four_lanes : List ℕ → ℕ → List ℕ → List ℕ
four_lanes f q lanes =
    lane 192 (get_or f q 0) (byte_at f 0 (4 * q)) ∷ lane 48 (get_or f q 0) (byte_at f 0 (4 * q + 1))
    ∷ lane 12 (get_or f q 0) (byte_at f 0 (4 * q + 2)) ∷ lane 3 (get_or f q 0) (byte_at f 0 (4 * q + 3)) ∷ lanes

four_is : (f : List ℕ) → AreOctets f → (q : ℕ) (lanes rows : List ℕ) (ka kb kc kd : ℕ) → ka ≡ get_or f q 0 / 64 % 4
    → kb ≡ get_or f q 0 / 16 % 4 → kc ≡ get_or f q 0 / 4 % 4 → kd ≡ get_or f q 0 % 4 → lanes ≡ rows
    → four_lanes f q lanes ≡ (4 * ka + word_at f (4 * q) / 1073741824) ∷
    (4 * kb + word_at f (4 * q + 1) / 1073741824) ∷ (4 * kc + word_at f (4 * q + 2) / 1073741824) ∷
    (4 * kd + word_at f (4 * q + 3) / 1073741824) ∷ rows
four_is f h q lanes rows ka kb kc kd a b c d e =
    let x = get_or f q 0 in
    cons (lane_of f h 192 q (4 * q) (x / 64 % 4) ka (code_0 x (h q)) (omega arith) a)
    (cons (lane_of f h 48 q (4 * q + 1) (x / 16 % 4) kb (code_1 x (h q)) (omega arith) b)
    (cons (lane_of f h 12 q (4 * q + 2) (x / 4 % 4) kc (code_2 x (h q)) (omega arith) c)
    (cons (lane_of f h 3 q (4 * q + 3) (x % 4) kd (code_3 x (h q)) (omega arith) d) e)))

-- the words from word 4 on
behind : (f : List ℕ) → AreOctets f → four_lanes f 1 (four_lanes f 2 (four_lanes f 3 [])) ≡ map (row_at f 1)
    (4 ∷ 5 ∷ 6 ∷ 7 ∷ 8 ∷ 9 ∷ 10 ∷ 11 ∷ 12 ∷ 13 ∷ 14 ∷ 15 ∷ [])
behind f h =
    let w = word_at f 0 in
    four_is f h 1 _ _ (w / 4194304 % 4) (w / 1048576 % 4) (w / 262144 % 4) (w / 65536 % 4) (omega arith) (omega arith)
    (omega arith) (omega arith)
    (four_is f h 2 _ _ (w / 16384 % 4) (w / 4096 % 4) (w / 1024 % 4) (w / 256 % 4) (omega arith) (omega arith)
    (omega arith) (omega arith)
    (four_is f h 3 _ _ (w / 64 % 4) (w / 16 % 4) (w / 4 % 4) (w / 1 % 4) (omega arith) (omega arith) (omega arith)
    (omega arith) refl))

pub rows_later : (f : List ℕ) → AreOctets f
    → (lane 0 (get_or f 0 0) (get_or f 0 0) ∷ lane 48 (get_or f 0 0) (get_or f 4 0) ∷ lane 12 (get_or f 0 0)
    (get_or f 8 0) ∷ lane 3 (get_or f 0 0) (get_or f 12 0) ∷ four_lanes f 1 (four_lanes f 2 (four_lanes f 3 [])))
    ≡ map (row_at f 1) words
unfolding words
rows_later f h =
    let x = get_or f 0 0 in
    let first = h 0 in
    let second = h 1 in
    let third = h 2 in
    let fourth = h 3 in
    cons (no_code f h 0)
    (cons (lane_of f h 48 0 1 (x / 16 % 4) (word_at f 0 / 268435456 % 4) (code_1 x (h 0)) (omega arith) (omega arith))
    (cons (lane_of f h 12 0 2 (x / 4 % 4) (word_at f 0 / 67108864 % 4) (code_2 x (h 0)) (omega arith) (omega arith))
    (cons (lane_of f h 3 0 3 (x % 4) (word_at f 0 / 16777216 % 4) (code_3 x (h 0)) (omega arith) (omega arith))
    (behind f h))))

pub rows_first : (f : List ℕ) → AreOctets f
    → (lane 0 (get_or f 0 0) (get_or f 0 0) ∷ lane 0 (get_or f 0 0) (get_or f 4 0) ∷ lane 0 (get_or f 0 0)
    (get_or f 8 0) ∷ lane 0 (get_or f 0 0) (get_or f 12 0) ∷ four_lanes f 1 (four_lanes f 2 (four_lanes f 3 [])))
    ≡ map (row_at f 4) words
unfolding words
rows_first f h = cons (no_code f h 0) (cons (no_code f h 1) (cons (no_code f h 2) (cons (no_code f h 3) (behind f h))))

pub rows_third : (f : List ℕ) → AreOctets f
    → (lane 0 (get_or f 0 0) (get_or f 0 0) ∷ lane 0 (get_or f 0 0) (get_or f 4 0) ∷ lane 0 (get_or f 0 0)
    (get_or f 8 0) ∷ lane 3 (get_or f 0 0) (get_or f 12 0) ∷ four_lanes f 1 (four_lanes f 2 (four_lanes f 3 [])))
    ≡ map (row_at f 3) words
unfolding words
rows_third f h =
    let x = get_or f 0 0 in
    let first = h 0 in
    let second = h 1 in
    let third = h 2 in
    let fourth = h 3 in
    cons (no_code f h 0) (cons (no_code f h 1) (cons (no_code f h 2)
    (cons (lane_of f h 3 0 3 (x % 4) (word_at f 0 / 16777216 % 4) (code_3 x (h 0)) (omega arith) (omega arith))
    (behind f h))))
