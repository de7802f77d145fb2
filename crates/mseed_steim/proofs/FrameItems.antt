-- A frame's words in lanes are the payload's data words, and a row of lanes is the group of the word.
use Rattle.mseed_steim.specs.Frames.{AreOctets}
use Rattle.std.proofs.Common.{◌≡◌, ℕ, ◌+◌, ◌-◌, ◌*◌, ◌/◌, ◌%◌, ◌^◌, ◌<◌, ◌≤◌, List, [], ◌∷◌, ◌++◌}
use Rattle.std.proofs.Common.{take, drop, get_or, ℤ, ◌+ℤ◌, refl}
use Rattle.std.proofs.Common.{arith, Some}
use Rattle.std.proofs.lemmas.Int.{ints}
use Rattle.std.proofs.lemmas.List.{get_or-take, get_or-drop}
use Rattle.mseed_steim.specs.declared.scheme.Scheme.{Scheme}
use Rattle.mseed_steim.specs.declared.scheme.Scheme.TheVariants.{One, Two}
use Rattle.mseed_steim.specs.private.Digits.{digits, differences_of}
use Rattle.mseed_steim.specs.Frames.{word_at, code_at}
use Rattle.mseed_steim.specs.private.Lanes.{total, span, word_at as lanes_word_at, row_at, Begins}
use Rattle.mseed_steim.specs.private.Lanes.{all_counts_two, all_widths_two, all_counts_one, all_widths_one}
use Rattle.mseed_steim.specs.private.Lanes.{all_counts, all_widths}
use Rattle.mseed_steim.specs.private.Unpacked.{differences_at}
use Rattle.mseed_steim.proofs.Below.{four}

-- the row's width and count are those of the word's group
abbrev Row : Scheme → ℕ → ℕ → ℕ → Type 0
Row s c word t = word / 2 ^ 30 ≡ t → get_or (all_counts s) (4 * c + t) 0 < 128
    → differences_of s c word ≡ Some (digits (get_or (all_widths s) (4 * c + t) 0) word
    (get_or (all_counts s) (4 * c + t) 0))

rows : (s : Scheme) (c word : ℕ) → c < 4 → (t : ℕ) → t < 4 → Row s c word t
unfolding all_counts_one all_widths_one all_counts_two all_widths_two differences_of digits
rows Two c word h = four (λ n. (t : ℕ) → t < 4 → Row Two n word t)
    (four (Row Two 0 word) (λ _ _. refl) (λ _ _. refl) (λ _ _. refl) (λ _ _. refl))
    (four (Row Two 1 word) (λ _ _. refl) (λ _ _. refl) (λ _ _. refl) (λ _ _. refl))
    (four (Row Two 2 word) (λ _ few. absurd (omega (arith, few))) (λ e _. rw e refl) (λ e _. rw e refl)
    (λ e _. rw e refl))
    (four (Row Two 3 word) (λ e _. rw e refl) (λ e _. rw e refl) (λ e _. rw e refl)
    (λ _ few. absurd (omega (arith, few))))
    c h
rows One c word h = four (λ n. (t : ℕ) → t < 4 → Row One n word t)
    (four (Row One 0 word) (λ _ _. refl) (λ _ _. refl) (λ _ _. refl) (λ _ _. refl))
    (four (Row One 1 word) (λ _ _. refl) (λ _ _. refl) (λ _ _. refl) (λ _ _. refl))
    (four (Row One 2 word) (λ _ _. refl) (λ _ _. refl) (λ _ _. refl) (λ _ _. refl))
    (four (Row One 3 word) (λ _ _. refl) (λ _ _. refl) (λ _ _. refl) (λ _ _. refl))
    c h

-- ---- the bytes of a frame of a payload
byte_is : (p f : List ℕ) (k i n : ℕ) → f ≡ take 64 (drop (64 * k) p) → i < 64 → n ≡ 64 * k + i
    → get_or f i 0 ≡ get_or p n 0
byte_is p f k i n e h at = rw (e, at, get_or-take 64 (drop (64 * k) p) i 0 h) (get_or-drop (64 * k) p i 0)

-- a word of it
pub word_is : (p f : List ℕ) (k j : ℕ) → f ≡ take 64 (drop (64 * k) p) → j < 16
    → word_at p (16 * k + j) ≡ lanes_word_at f j
word_is p f k j e h = search (arith, byte_is, get_or-drop)

-- its code
code_is : (p f : List ℕ) (k j : ℕ) → f ≡ take 64 (drop (64 * k) p) → j < 16
    → code_at p (16 * k + j) ≡ lanes_word_at f 0 / 2 ^ (30 - 2 * j) % 4
code_is p f k j e h = search (arith, word_is)

-- ---- sums of lists
pub total-append : (xs ys : List ℤ) → total (xs ++ ys) ≡ total xs +ℤ total ys
total-append [] ys = omega (arith, ints)
total-append (x ∷ xs) ys = let later = total-append xs ys in omega (arith, ints, later)

pub span-append : (xs ys : List ℤ) → span (xs ++ ys) ≡ span xs + span ys
span-append [] ys = omega arith
span-append (x ∷ xs) ys = let later = span-append xs ys in omega (arith, later)

-- ---- the words of a frame
pub begins_low : (begin : List ℕ) (from : ℕ) → Begins begin from → (0 < from) × (from ≤ 16)
begins_low begin from begins = search arith

-- each word is read by its row
pub record Reads (s : Scheme) (p f : List ℕ) (k from : ℕ) : Type 0 where
  pub word : (j : ℕ) → j < 16 → from ≤ j → get_or (all_counts s) (row_at f from j) 0 < 128
      → differences_of s (code_at p (16 * k + j)) (word_at p (16 * k + j)) ≡ Some (differences_at s f from j)
  pub empty : (j : ℕ) → j < from → get_or (all_counts s) (row_at f from j) 0 ≡ 0

-- a word of no differences
pub none_at : (s : Scheme) (f : List ℕ) (from w : ℕ) → get_or (all_counts s) (row_at f from w) 0 ≡ 0
    → differences_at s f from w ≡ []
unfolding digits
none_at s f from w e = rw e refl

word_small : (f : List ℕ) (w : ℕ) → AreOctets f → lanes_word_at f w < 2 ^ 32
word_small f w h = omega (arith, h (4 * w + 0), h (4 * w + 1), h (4 * w + 2), h (4 * w + 3))

zeros : (s : Scheme) (r : ℕ) → r < 4 → get_or (all_counts s) r 0 ≡ 0
unfolding all_counts_one all_counts_two
zeros One = four (λ r. get_or all_counts_one r 0 ≡ 0) refl refl refl refl
zeros Two = four (λ r. get_or all_counts_two r 0 ≡ 0) refl refl refl refl

pub reads_all : (s : Scheme) (p f : List ℕ) (k from : ℕ) → f ≡ take 64 (drop (64 * k) p)
    → AreOctets f → Reads s p f k from
reads_all s p f k from e h = search (arith, code_is, rows, word_is, word_small, zeros)
