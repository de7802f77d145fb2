-- The first and the last sample, written into Steim frames in which differences are packed.
use Rattle.std.proofs.Common.{◌≡◌, ◌≢◌, ℕ, ◌+◌, ◌-◌, ◌*◌, ◌/◌, ◌%◌, ◌^◌, ◌≤◌, List}
use Rattle.std.proofs.Common.{length, arith, refl, ap, ◌∙◌, cond, eqb}
use Rattle.std.proofs.Common.{ℤ, pos, negsuc, FitsSigned, w32, of_z}
use Rattle.std.proofs.lemmas.Bool.{ne_eqb}
use Rattle.std.proofs.lemmas.Bool.Decides.{nat_tests}
use Rattle.std.proofs.lemmas.Int.{ints}
use Rattle.byteorder.specs.Endian.{twos_complement}
use Rattle.mseed_steim.specs.Frames.{data_word, word_at, code_at, word_count}
use Rattle.std.proofs.Common.{zero, suc, inl, inr, sym}
use Rattle.std.proofs.lemmas.Bool.{cases_eq}
use Rattle.mseed_steim.specs.Frames.{words_from}
use Rattle.mseed_steim.proofs.Walking.{words_none, words_skip, words_step}
use Rattle.mseed_pack.specs.private.Filling.{AreSet}

-- the data words are as before where their bits and codes are
words_same : (p q : List ℕ) (k n : ℕ) → ((i : ℕ) → k ≤ i → i % 16 ≢ 0 → data_word p i ≡ data_word q i)
    → words_from p k n ≡ words_from q k n
words_same p q k zero h = words_none p k ∙ sym (words_none q k)
words_same p q k (suc n) h =
    let later = words_same p q (k + 1) n (λ i low. h i (omega (arith, low))) in
    elim (cases_eq (k % 16) 0) [
      | inl first ↦ rw (words_skip p k n first, words_skip q k n first) later
      | inr plain ↦ rw (words_step p k n plain, words_step q k n plain, h k (omega arith) plain, later)
    ]

-- a signed number as its four bytes
complement_32 : (z : ℤ) → FitsSigned w32 z → twos_complement 4 (of_z w32 z) ≡ z
complement_32 (pos n) f = let fits = f.sfits in grind (arith, nat_tests, ints)
complement_32 (negsuc n) f = let fits = f.sfits in grind (arith, nat_tests, ints)

pub are_set : (p q : List ℕ) (first last : ℤ) → length q ≡ length p → FitsSigned w32 first → FitsSigned w32 last
    → ((k : ℕ) → word_at q k ≡ cond (eqb k 2) (of_z w32 last) (cond (eqb k 1) (of_z w32 first) (word_at p k)))
    → AreSet p q first last
are_set p q first last size a b says =
    let others : (k : ℕ) → k ≢ 1 → k ≢ 2 → word_at q k ≡ word_at p k =
    λ k x y. says k ∙ (rw (ne_eqb k 2 y, ne_eqb k 1 x) refl) in
    let codes : (k : ℕ) → code_at q k ≡ code_at p k =
    λ k. ap (λ (n : ℕ). n / 2 ^ (30 - 2 * (k % 16)) % 4)
    (others (16 * (k / 16)) (λ e. omega (arith, e)) (λ e. omega (arith, e))) in
    let word : (i : ℕ) → 3 ≤ i → i % 16 ≢ 0 → data_word q i ≡ data_word p i = λ i low plain.
    let bits : word_at q i ≡ word_at p i = others i (λ e. omega (arith, e, low)) (λ e. omega (arith, e, low)) in
    let code : code_at q i ≡ code_at p i = codes i in
    λ j. record { frame = i / 16; place = i % 16; code = code j; bits = bits j } in
    let count : word_count q ≡ word_count p = ap (λ (n : ℕ). 16 * (n / 64)) size in
    record {
      words = rw count (words_same q p 3 (word_count p - 3) word);
      codes = codes;
      first_is = rw (says 1) (complement_32 first a);
      last_is = rw (says 2) (complement_32 last b);
    }
