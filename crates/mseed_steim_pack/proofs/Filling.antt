-- Frames that are filled word by word.
use Rattle.std.proofs.Common.{◌≡◌, ◌≢◌, ℕ, zero, suc, ◌+◌, ◌-◌, ◌%◌, ◌<◌, ◌≤◌, List, [], ◌∷◌, ◌++◌}
use Rattle.std.proofs.lemmas.Bool.Decides.{nat_tests}
use Rattle.std.proofs.Common.{length, take, drop, ℤ, arith, ⊎_elim, ◌⊎◌}
use Rattle.std.proofs.Common.{append-nil, length-append}
use Rattle.std.specs.List.{AllByRecursion}
use Rattle.std.proofs.lemmas.Bool.{cases_eq}
use Rattle.std.proofs.lemmas.List.{take_at, drop_at, length-drop, take-append-drop}
use Rattle.mseed_steim.specs.declared.scheme.Scheme.{Scheme}
use Rattle.mseed_steim.specs.Frames.{data_word, words_from, data_words, word_at, code_at, word_count}
use Rattle.mseed_steim.proofs.Walking.{length-words_from, words_cut, words_none, words_skip, words_step}
use Rattle.mseed_steim_pack.specs.Packing.{IsEmptyWord, IsTooLargeAt, IsFirstTooLarge}
use Rattle.mseed_steim_pack.specs.Packing.{LeavesRoom}
use Rattle.mseed_steim_pack.specs.Packed.{IsRunPacked}
use Rattle.mseed_steim_pack.specs.declared.pack.Packed.{Packed}
use Rattle.std.proofs.Common.{Ok, refl}
use Rattle.mseed_steim_pack.specs.private.Pushing.{Filling, Pushing}
use Rattle.mseed_steim_pack.proofs.Packs.{run_prefix, prefix_spelled, first_large, taken_not_large}
use Rattle.mseed_steim_pack.proofs.Fewest.{is_fewest, is_farthest, no_room}

-- one more word at the end: data, or a frame's first
pub words_push : (p : List ℕ) (k n : ℕ) → (k + n) % 16 ≢ 0
    → words_from p k (suc n) ≡ words_from p k n ++ data_word p (k + n) ∷ []
words_push p k n h =
    let one : suc n ≡ n + 1 = omega arith in
    rw (one, words_cut p k n 1, words_step p (k + n) 0 h, words_none p (k + n + 1)) refl

pub words_pass : (p : List ℕ) (k n : ℕ) → (k + n) % 16 ≡ 0 → words_from p k (suc n) ≡ words_from p k n
words_pass p k n h =
    let one : suc n ≡ n + 1 = omega arith in
    rw (one, words_cut p k n 1, words_skip p (k + n) 0 h, words_none p (k + n + 1), append-nil (words_from p k n)) refl

words_empty : (p : List ℕ) (k n : ℕ)
    → ((i : ℕ) → k ≤ i → i < k + n → i % 16 ≢ 0 → (code_at p i ≡ 0) × (word_at p i ≡ 0))
    → AllByRecursion IsEmptyWord (words_from p k n)
words_empty p k zero h = rw (words_none p k) tt
words_empty p k (suc n) h =
    let later = words_empty p (k + 1) n (λ i low high. h i (omega (arith, low)) (omega (arith, high))) in
    ⊎_elim (λ (first : k % 16 ≡ 0). rw (words_skip p k n first) later)
    (λ (plain : k % 16 ≢ 0). rw (words_step p k n plain) (h k (omega arith) (omega arith) plain, later))
    (cases_eq (k % 16) 0)

-- at last: no difference is left, or no word
pub filled : (s : Scheme) (ds : List ℤ) (p : List ℕ) (index : ℕ) (done : Packed)
    → Filling s ds p index done.used done.words → index ≤ word_count p
    → (done.used ≡ length ds) ⊎ (index ≡ word_count p) → IsRunPacked s ds p (Ok done)
filled s ds p index done f h end =
    let used = done.used in
    let words = done.words in
    let from = f.from in
    let ws = words_from p 3 (index - 3) in
    let place : 3 + (index - 3) ≡ index = omega (arith, from) in
    let left = words_from p index (word_count p - index) in
    let cut : word_count p - 3 ≡ index - 3 + (word_count p - index) = omega (arith, from, h) in
    let both : data_words p ≡ ws ++ left = rw (cut, words_cut p 3 (index - 3) (word_count p - index), place) refl in
    let prefix : take words (data_words p) ≡ ws = rw both (take_at ws left words f.count) in
    let long : length (data_words p) ≡ words + length left = rw both (omega (arith, length-append ws left, f.count)) in
    let over : (used ≡ length ds) ⊎ (words ≡ length (data_words p)) = search (arith, nat_tests, words_none) in
    let none : (i : ℕ) → IsFirstTooLarge s ds i → LeavesRoom s (take i ds) (length (data_words p)) → ⊥ =
    search (arith, nat_tests, length-drop, no_room, taken_not_large) in
    record {
      packed = rw prefix f.run;
      spelled = rw prefix (prefix_spelled s ws ds used f.run);
      inside = (f.inside, omega (arith, long));
      whole = over;
      behind = rw (both, drop_at ws left words f.count)
          (words_empty p index (word_count p - index) (λ i low high plain. (f.no_codes i low, f.no_words i low plain)));
      constants = f.constants;
      codes = λ k inside first. f.codes k first;
      fewest = search (arith, nat_tests, is_fewest);
      farthest = search (arith, nat_tests, is_farthest);
      refused = λ i. (λ e. cc, λ large. absurd (none i large.0 large.1));
    }

-- a difference that is too large, and a word left for it
pub pushing_refused : (s : Scheme) (ds : List ℤ) (p q : List ℕ) (head codes index used : ℕ)
    → Pushing s ds p head codes index used → index < word_count q → index % 16 ≢ 0 → IsTooLargeAt s (drop used ds) 0
    → IsFirstTooLarge s ds used × LeavesRoom s (take used ds) (length (data_words q))
pushing_refused s ds p q head codes index used f h plain large = (
  first_large s f.words ds used f.inside f.run large,
  (
    f.words,
    (
      omega (arith, f.count, f.from, h, plain, length-words_from q 3 (word_count q - 3)),
      run_prefix s f.words (take used ds) (drop used ds) (rw take-append-drop f.run),
    ),
  ),
)
