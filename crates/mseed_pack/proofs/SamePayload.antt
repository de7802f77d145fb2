-- Bytes of whole frames are reported by their words' codes and bits, X0 and Xn.
use Rattle.std.proofs.Common.{◌≡◌, ◌≢◌, ℕ, zero, suc, ◌+◌, ◌-◌, ◌*◌, ◌/◌, ◌%◌, ◌^◌, ◌<◌, ◌≤◌, List, ◌∷◌, length, drop}
use Rattle.std.proofs.Common.{get_or, sym, ap, subst, ◌∙◌, arith, ◌⊎◌, inl, inr}
use Rattle.std.proofs.Math.Nat.{div-div-eq-div-mul}
use Rattle.std.proofs.lemmas.Nat.{pow-add}
use Rattle.std.proofs.lemmas.Bool.{cases_eq, cases_lt}
use Rattle.std.proofs.lemmas.Bool.Decides.{nat_tests}
use Rattle.std.proofs.lemmas.Int.{ints}
use Rattle.std.proofs.lemmas.List.{ext_get_or, get_or-drop}
use Rattle.byteorder.specs.Endian.{twos_complement}
use Rattle.mseed_steim.specs.Frames.{words_from, data_words, word_at, code_at, word_count}
use Rattle.mseed_steim.specs.Frames.{AreOctets, first_constant, last_constant}
use Rattle.byteorder.specs.Endian.{big_number}
use Rattle.mseed_steim.proofs.Given.{word_small}
use Rattle.mseed_steim.proofs.Walking.{words_skip, words_step}
use Rattle.mseed_steim_pack.specs.Packing.{contents}

abbrev Alike : List ℕ → List ℕ → ℕ → Type 0
Alike p q k = (code_at p k ≡ code_at q k) × (word_at p k ≡ word_at q k)

head_alike : (a b c d : ℕ) (xs ys : List (ℕ × ℕ)) → (a, b) ∷ xs ≡ (c, d) ∷ ys → (a ≡ c) × (b ≡ d) × (xs ≡ ys)
head_alike a b c d xs ys e =
    let first : ◌≡◌ {A = ℕ × ℕ} (a, b) (c, d) = cc in
    let rest : xs ≡ ys = cc in
    (ap (λ (x : ℕ × ℕ). x.0) first, ap (λ (x : ℕ × ℕ). x.1) first, rest)

-- the same words, one by one
each_alike : (p q : List ℕ) (k n : ℕ) → contents (words_from p k n) ≡ contents (words_from q k n) → (i : ℕ) → k ≤ i
    → i < k + n → i % 16 ≢ 0 → Alike p q i
each_alike p q k zero e i low high plain = absurd (omega (arith, low, high))
each_alike p q k (suc n) e i low high plain = elim (cases_eq (k % 16) 0) [
  | inl first ↦
      each_alike p q (k + 1) n (rw (words_skip p k n first, words_skip q k n first) at e) i
      (omega (arith, low, first, plain)) (omega (arith, high)) plain
  | inr word ↦
      let parts = head_alike (code_at p k) (word_at p k) (code_at q k) (word_at q k) (contents (words_from p (k + 1) n))
      (contents (words_from q (k + 1) n)) (rw (words_step p k n word, words_step q k n word) at e) in
      elim (cases_eq k i) [
        | inl same ↦ subst (λ (m : ℕ). Alike p q m) same (parts.0, parts.1)
        | inr other ↦ each_alike p q (k + 1) n parts.2 i (omega (arith, low, other)) (omega (arith, high)) plain
      ]
]

-- two's complement tells the number
one_complement : (x y : ℕ) → x < 2 ^ 32 → y < 2 ^ 32 → twos_complement 4 x ≡ twos_complement 4 y → x ≡ y
one_complement x y a b e = grind (arith, nat_tests, ints)

-- sixteen codes tell the word that holds them
quarters : (w v n : ℕ) → w / 2 ^ (2 * n) ≡ v / 2 ^ (2 * n)
    → ((k : ℕ) → k < n → w / 2 ^ (2 * k) % 4 ≡ v / 2 ^ (2 * k) % 4) → w ≡ v
quarters w v zero e each = omega (arith, e)
quarters w v (suc n) e each =
    let two_more : 2 * suc n ≡ 2 * n + 2 = omega arith in
    let power : 2 ^ (2 * suc n) ≡ 2 ^ (2 * n) * 4 = ap (λ (m : ℕ). 2 ^ m) two_more ∙ pow-add 2 (2 * n) 2 in
    let cut : (x : ℕ) → x / 2 ^ (2 * suc n) ≡ x / 2 ^ (2 * n) / 4 = λ x. ap (λ (m : ℕ). x / m) power
    ∙ sym (div-div-eq-div-mul x (2 ^ (2 * n)) 4) in
    let last = each n (omega arith) in
    let high : w / 2 ^ (2 * n) / 4 ≡ v / 2 ^ (2 * n) / 4 = sym (cut w) ∙ e ∙ cut v in
    quarters w v n (omega (arith, last, high)) (λ k h. each k (omega (arith, h)))

-- word j of a frame is the one at 16 * frame + j
code_of_frame : (p : List ℕ) (frame k : ℕ) → k < 16
    → code_at p (16 * frame + (15 - k)) ≡ word_at p (16 * frame) / 2 ^ (2 * k) % 4
code_of_frame p frame k h =
    let before : (16 * frame + (15 - k)) / 16 ≡ frame = omega arith in
    let inside : (16 * frame + (15 - k)) % 16 ≡ 15 - k = omega arith in
    let shift : 30 - 2 * (15 - k) ≡ 2 * k = omega (arith, h) in
    ap (λ (f : ℕ). word_at p (16 * f) / 2 ^ (30 - 2 * ((16 * frame + (15 - k)) % 16)) % 4) before
    ∙ ap (λ (j : ℕ). word_at p (16 * frame) / 2 ^ (30 - 2 * j) % 4) inside
    ∙ ap (λ (m : ℕ). word_at p (16 * frame) / 2 ^ m % 4) shift

pub octets_behind : (n : ℕ) (p : List ℕ) → AreOctets p → AreOctets (drop n p)
octets_behind n p octets i = rw get_or-drop (octets (n + i))

frame_word : (p q : List ℕ) → AreOctets p → AreOctets q → (frame : ℕ)
    → ((j : ℕ) → j < 16 → code_at p (16 * frame + j) ≡ code_at q (16 * frame + j))
    → word_at p (16 * frame) ≡ word_at q (16 * frame)
frame_word p q a b frame codes =
    quarters (word_at p (16 * frame)) (word_at q (16 * frame)) 16
    (omega (arith, word_small p (16 * frame) a, word_small q (16 * frame) b))
    (λ k h. sym (code_of_frame p frame k h) ∙ codes (15 - k) (omega arith) ∙ code_of_frame q frame k h)

-- a word tells its bytes
byte_is : (xs : List ℕ) → AreOctets xs → (j : ℕ) → j < 4
    → get_or xs j 0 ≡ big_number 4 xs / 256 ^ (3 - j) % 256
byte_is xs o zero h = omega (arith, o 0, o 1, o 2, o 3)
byte_is xs o (suc zero) h = omega (arith, o 0, o 1, o 2, o 3)
byte_is xs o (suc (suc zero)) h = omega (arith, o 0, o 1, o 2, o 3)
byte_is xs o (suc (suc (suc zero))) h = omega (arith, o 0, o 1, o 2, o 3)
byte_is xs o (suc (suc (suc (suc j)))) h = absurd (omega (arith, h))

byte_of_word : (p q : List ℕ) → AreOctets p → AreOctets q → (k : ℕ) → word_at p k ≡ word_at q k → (j : ℕ) → j < 4
    → get_or p (4 * k + j) 0 ≡ get_or q (4 * k + j) 0
byte_of_word p q a b k e j h = rw (← get_or-drop (4 * k) p j 0, ← get_or-drop (4 * k) q j 0)
    (rw (byte_is (drop (4 * k) p) (octets_behind (4 * k) p a) j h)
    (rw (byte_is (drop (4 * k) q) (octets_behind (4 * k) q b) j h, e)))

-- Frames with the same data words, X0 and Xn, and no codes for what holds no differences, are the same bytes.
pub same_payload : (p q : List ℕ) → AreOctets p → AreOctets q → length p ≡ length q → length p % 64 ≡ 0
    → contents (data_words p) ≡ contents (data_words q) → first_constant p ≡ first_constant q
    → last_constant p ≡ last_constant q
    → ((k : ℕ) → k < word_count p → (k < 3) ⊎ (k % 16 ≡ 0) → code_at p k ≡ 0)
    → ((k : ℕ) → k < word_count q → (k < 3) ⊎ (k % 16 ≡ 0) → code_at q k ≡ 0) → p ≡ q
same_payload p q a b size whole words first last p_codes q_codes =
    let count : word_count q ≡ word_count p = ap (λ (n : ℕ). 16 * (n / 64)) (sym size) in
    let none : (i : ℕ) → i < word_count p → (i < 3) ⊎ (i % 16 ≡ 0) → code_at p i ≡ code_at q i =
    λ i high h. p_codes i high h ∙ sym (q_codes i (omega (arith, high, count)) h) in
    let small : (k : ℕ) → k ≢ 0 → k < 3 → word_at p k ≡ word_at q k = λ k some low. elim (cases_eq k 1) [
      | inl same ↦ rw same (one_complement (word_at p 1) (word_at q 1) (word_small p 1 a) (word_small q 1 b) first)
      | inr other ↦
          let same : k ≡ 2 = omega (arith, low, some, other) in
          rw same (one_complement (word_at p 2) (word_at q 2) (word_small p 2 a) (word_small q 2 b) last)
    ] in
    let plain : (i : ℕ) → i < word_count p → i % 16 ≢ 0 → Alike p q i = λ i high other. elim (cases_lt i 3) [
      | inl low ↦ (none i high (inl low), small i (λ zero. other (omega (arith, zero))) low)
      | inr up ↦ each_alike p q 3 (word_count p - 3) (rw count at words) i up (omega (arith, up, high)) other
    ] in
    let codes : (i : ℕ) → i < word_count p → code_at p i ≡ code_at q i = λ i high. elim (cases_eq (i % 16) 0) [
      | inl head ↦ none i high (inr head)
      | inr other ↦ (plain i high other).0
    ] in
    let all : (i : ℕ) → i < word_count p → word_at p i ≡ word_at q i = λ i high. elim (cases_eq (i % 16) 0) [
      | inl head ↦
          let place : 16 * (i / 16) ≡ i = omega (arith, head) in
          rw place at (frame_word p q a b (i / 16) (λ j h. codes (16 * (i / 16) + j) (omega (arith, h, high, head))))
      | inr other ↦ (plain i high other).1
    ] in
    ext_get_or 0 p q size (λ i h.
    let place : 4 * (i / 4) + i % 4 ≡ i = omega arith in
    rw place at (byte_of_word p q a b (i / 4) (all (i / 4) (omega (arith, h, whole))) (i % 4) (omega arith)))
