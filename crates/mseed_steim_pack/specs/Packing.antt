-- How differences are packed into words as full as words can be (SEED manual, appendix B).
use Rattle.std.specs.Prelude.{◌≡◌, ℕ, ◌/◌, ◌%◌, ◌^◌, ◌<◌, ◌≤◌, List, [], ◌∷◌, ◌++◌, take, drop, length, slice_index_or}
use Rattle.std.specs.Prelude.{ℤ, pos}
use Rattle.mseed_steim.specs.declared.scheme.Scheme.{Scheme}
use Rattle.mseed_steim.specs.declared.scheme.Scheme.TheVariants.{Two}
use Rattle.mseed_steim.specs.Spelling.{IsWithin, Spells}
use Rattle.mseed_steim.specs.Frames.{DataWord}
use Rattle.mseed_steim.specs.Runs.{SpellsRun}

-- some word spells the differences
abbrev pub CanSpell : Scheme → List ℤ → Type 0
CanSpell scheme ds = (code : ℕ) × ((word : ℕ) × Spells scheme code word ds)

-- The word takes the largest number of the differences: it spells the first `used`, at least one, and no word
-- spells a longer prefix. The bits of a word of seven that may be anything are 0.
pub record IsFullest (scheme : Scheme) (ds : List ℤ) (code word used : ℕ) : Type 0 where
  pub some : 0 < used
  pub inside : used ≤ length ds
  pub spelled : Spells scheme code word (take used ds)
  pub plain : scheme ≡ Two → used ≡ 7 → word / 2 ^ 28 % 4 ≡ 0
  pub largest : (k : ℕ) → used < k → k ≤ length ds → ¬ (CanSpell scheme (take k ds))

-- Each word in turn takes the largest number of the differences that are left; `rest` is what no word accepted.
abbrev pub PacksRun : Scheme → List DataWord → List ℤ → List ℤ → Type 0
PacksRun scheme [] ds rest = ds ≡ rest
PacksRun scheme (w ∷ ws) ds rest =
    (used : ℕ) × (IsFullest scheme ds w.code w.bits used × PacksRun scheme ws (drop used ds) rest)

-- the words are of Steim-2, and the difference at a place is too large for one: the widest has 30 bits
abbrev pub IsTooLargeAt : Scheme → List ℤ → ℕ → Type 0
IsTooLargeAt scheme ds i = (i < length ds) × (scheme ≡ Two) × ¬ (IsWithin 30 (slice_index_or ds i (pos 0)))

-- so is none before it
abbrev pub IsFirstTooLarge : Scheme → List ℤ → ℕ → Type 0
IsFirstTooLarge scheme ds i = IsTooLargeAt scheme ds i × ((k : ℕ) → k < i → ¬ (IsTooLargeAt scheme ds k))

-- once the differences are packed, fewer than `room` words are in use
abbrev pub LeavesRoom : Scheme → List ℤ → ℕ → Type 0
LeavesRoom scheme ds room = (ws : List DataWord) × ((length ws < room) × PacksRun scheme ws ds [])

-- Some m words of Steim-2 spell the differences, and no list of fewer words spells a list that begins with them.
pub record IsFewest (ds : List ℤ) (m : ℕ) : Type 0 where
  pub words : List DataWord
  pub count : length words ≡ m
  pub spelled : SpellsRun Two words ds
  pub least : (ws : List DataWord) (more : List ℤ) → length ws < m → ¬ (SpellsRun Two ws (ds ++ more))

-- No list of at most m words of Steim-2 spells a list that begins with more than the first `used` differences.
abbrev pub IsFarthest : List ℤ → ℕ → ℕ → Type 0
IsFarthest ds m used =
    (ws : List DataWord) (k : ℕ) (more : List ℤ) → length ws ≤ m → used < k → k ≤ length ds
    → ¬ (SpellsRun Two ws (take k ds ++ more))

-- a data word that holds nothing
abbrev pub IsEmptyWord : DataWord → Type 0
IsEmptyWord w = (w.code ≡ 0) × (w.bits ≡ 0)

-- the codes and bits of words, wherever they stand
abbrev pub contents : List DataWord → List (ℕ × ℕ)
contents [] = []
contents (w ∷ ws) = (w.code, w.bits) ∷ contents ws
