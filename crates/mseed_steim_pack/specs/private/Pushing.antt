-- Frames that are filled word by word, where the codes of the frame that is being filled aren't written yet.
use Rattle.std.specs.Prelude.{◌≡◌, ◌≢◌, ◌⊎◌, ℕ, ℤ, ◌+◌, ◌-◌, ◌*◌, ◌/◌, ◌%◌, ◌^◌, ◌<◌, ◌≤◌, if◌then◌else◌, List}
use Rattle.std.specs.Prelude.{length, drop, nat_lt}
use Rattle.mseed_steim.specs.declared.scheme.Scheme.{Scheme}
use Rattle.mseed_steim.specs.Frames.{DataWord, words_from, word_at, code_at}
use Rattle.mseed_steim_pack.specs.declared.ahead.Lookahead.{Lookahead}
use Rattle.mseed_steim_pack.specs.declared.pack.Reached.{Reached}
use Rattle.mseed_steim_pack.specs.Lookahead.{IsLookahead}
use Rattle.mseed_steim_pack.specs.Packing.{PacksRun}
use Rattle.mseed_steim_pack.specs.private.Four.{known_from}

-- The words before a place hold what was packed, and all else is 0.
pub record Filling (s : Scheme) (ds : List ℤ) (p : List ℕ) (index used words : ℕ) : Type 0 where
  pub from : 3 ≤ index
  pub inside : used ≤ length ds
  pub count : length (words_from p 3 (index - 3)) ≡ words
  pub run : PacksRun s (words_from p 3 (index - 3)) ds (drop used ds)
  pub no_codes : (k : ℕ) → index ≤ k → code_at p k ≡ 0
  pub no_words : (k : ℕ) → index ≤ k → k % 16 ≢ 0 → word_at p k ≡ 0
  pub constants : (word_at p 1 ≡ 0) × (word_at p 2 ≡ 0)
  pub codes : (k : ℕ) → (k < 3) ⊎ (k % 16 ≡ 0) → code_at p k ≡ 0

-- The code of a word before a place: it's written, or it's one of those at hand, of the frame that is being filled.
abbrev pub code_in : List ℕ → ℕ → ℕ → ℕ → ℕ → ℕ
code_in p head codes index k =
    if nat_lt k head then code_at p k else codes / 2 ^ (2 * (index - 1 - k)) % 4

-- Before the place, frames have these codes, and the words of others.
abbrev pub HasWords : List ℕ → ℕ → ℕ → ℕ → List ℕ → Type 0
HasWords p head codes index q =
    (k : ℕ) → k < index → (code_at q k ≡ code_in p head codes index k) × (k % 16 ≢ 0 → word_at q k ≡ word_at p k)

-- The words before a place are those that hold what was packed. The codes of the frame that is being filled aren't
-- written: they are at hand, side by side.
pub record Pushing (s : Scheme) (ds : List ℤ) (p : List ℕ) (head codes index used : ℕ) : Type 0 where
  pub from : 3 ≤ index
  pub inside : used ≤ length ds
  pub at : head ≡ 16 * ((index - 1) / 16)
  pub small : codes < 2 ^ (2 * ((index - 1) % 16) + 2)
  pub constants : (word_at p 1 ≡ 0) × (word_at p 2 ≡ 0)
  pub none : (k : ℕ) → k < index → (k < 3) ⊎ (k % 16 ≡ 0) → code_in p head codes index k ≡ 0
  pub words : List DataWord
  pub count : length words ≡ index - 3 - (index - 1) / 16
  pub run : PacksRun s words ds (drop used ds)
  pub same : (q : List ℕ) → HasWords p head codes index q → words_from q 3 (index - 3) ≡ words

-- So many differences are packed, and what is known is known of those that are left.
pub record IsReached (s : Scheme) (ds : List ℤ) (known : Lookahead) (p : List ℕ) (head : ℕ) (r : Reached) : Type 0 where
  pub pushing : Pushing s ds p head r.codes r.index r.used
  pub ahead : IsLookahead s (known_from known r.place) (drop r.used ds)

-- The frame that ends before a word has been begun, and isn't passed.
pub record HasFrame (p : List ℕ) (end : ℕ) (r : Reached) : Type 0 where
  pub room : 4 * end ≤ length p
  pub whole : end % 16 ≡ 0
  pub inside : r.index ≤ end
  pub begun : end < r.index + 16

-- It isn't passed, and some words more are filled, or none.
pub record MovesOn (end : ℕ) (before after : Reached) : Type 0 where
  pub inside : after.index ≤ end
  pub moves : ((after.index ≡ before.index) × (after.place ≡ before.place)) ⊎ (before.index < after.index)

-- What is packed then are as many of the differences as it says.
abbrev pub FillsOn : Scheme → List ℤ → Lookahead → List ℕ → Reached → List ℕ → Reached → Type 0
FillsOn s ds known p before q after =
    (head : ℕ) → IsReached s ds known p head before → IsReached s ds known q head after
