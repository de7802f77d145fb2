-- What is packed into frames, and what is refused.
use Rattle.std.specs.Prelude.{◌≡◌, ◌⊎◌, ◌↔◌, ℕ, ℤ, ◌%◌, ◌<◌, ◌≤◌, List, Result, Err, IfOk, take, drop, length}
use Rattle.std.specs.List.{AllByRecursion}
use Rattle.mseed_steim.specs.declared.scheme.Scheme.{Scheme}
use Rattle.mseed_steim.specs.declared.scheme.Scheme.TheVariants.{Two}
use Rattle.mseed_steim.specs.Frames.{code_at, data_words, word_at, word_count}
use Rattle.mseed_steim.specs.Runs.{SpellsRun}
use Rattle.mseed_steim_pack.specs.declared.pack.Packed.{Packed}
use Rattle.mseed_steim_pack.specs.declared.pack.TooLargeAt.{TooLargeAt}
use Rattle.mseed_steim_pack.specs.Packing.{IsEmptyWord, IsFarthest, IsFewest, IsFirstTooLarge, LeavesRoom, PacksRun}

-- The words in use hold the first `used` differences, each as many as any word can. All differences are used, or all
-- words. All else is 0: the words after, X0 and Xn, and the codes of words that hold no differences. In Steim-2 no
-- fewer words spell those that are used, and no list of as many words comes further. It's refused exactly where a word
-- is left for a difference that no word holds.
pub record IsRunPacked (scheme : Scheme) (ds : List ℤ) (frames : List ℕ) (result : Result Packed TooLargeAt)
    : Type 0 where
  pub packed : IfOk result (λ p. PacksRun scheme (take p.words (data_words frames)) ds (drop p.used ds))
  pub spelled : IfOk result (λ p. SpellsRun scheme (take p.words (data_words frames)) (take p.used ds))
  pub inside : IfOk result (λ p. (p.used ≤ length ds) × (p.words ≤ length (data_words frames)))
  pub whole : IfOk result (λ p. (p.used ≡ length ds) ⊎ (p.words ≡ length (data_words frames)))
  pub behind : IfOk result (λ p. AllByRecursion IsEmptyWord (drop p.words (data_words frames)))
  pub constants : IfOk result (λ _. (word_at frames 1 ≡ 0) × (word_at frames 2 ≡ 0))
  pub codes : IfOk result (λ _. (k : ℕ) → k < word_count frames → (k < 3) ⊎ (k % 16 ≡ 0) → code_at frames k ≡ 0)
  pub fewest : IfOk result (λ p. scheme ≡ Two → IsFewest (take p.used ds) p.words)
  pub farthest : IfOk result (λ p. scheme ≡ Two → IsFarthest ds p.words p.used)
  pub refused : (i : ℕ) → (result ≡ Err (record { index = i })) ↔ (IsFirstTooLarge scheme ds i
      × LeavesRoom scheme (take i ds) (length (data_words frames)))
