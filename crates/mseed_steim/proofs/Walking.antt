-- One word after another: what the words from a place on give.
use Rattle.std.specs.Simd.{first_chunks}
use Rattle.std.proofs.Common.{◌≡◌, ◌≢◌, ◌⊎◌, ⊎_elim, take, drop, get_or, ◌*◌, ◌∙◌, ℕ, zero, suc, ◌+◌, ◌%◌}
use Rattle.std.proofs.Common.{◌-◌, ◌/◌, ◌<◌, ◌≤◌, List, [], ◌∷◌, ◌++◌, map, length, ℤ, arith, refl, ap}
use Rattle.std.proofs.Common.{sym, Option, Some, None, Ok, Err}
use Rattle.std.proofs.lemmas.Bool.{ne_eqb, cases_lt}
use Rattle.std.proofs.lemmas.List.{drop-drop}
use Rattle.mseed_steim.specs.declared.scheme.Scheme.{Scheme}
use Rattle.mseed_steim.specs.private.Digits.{differences_of}
use Rattle.mseed_steim.specs.Frames.{DataWord, data_word, data_words, words_from, word_count}
use Rattle.mseed_steim.specs.Runs.{place_of}
use Rattle.mseed_steim.specs.private.Items.{with_items, items_of}
use Rattle.mseed_steim.specs.private.Lanes.{Begins}
use Rattle.mseed_steim.specs.private.Unpacked.{AreUnpacked, data_in, left_from}

-- none
pub words_none : (p : List ℕ) (k : ℕ) → words_from p k 0 ≡ []
unfolding words_from
words_none p k = refl

-- a frame's first word is passed, and each other word is data
pub words_skip : (p : List ℕ) (k n : ℕ) → k % 16 ≡ 0 → words_from p k (suc n) ≡ words_from p (k + 1) n
unfolding words_from
words_skip p k n e = rw e refl

pub words_step : (p : List ℕ) (k n : ℕ) → k % 16 ≢ 0 → words_from p k (suc n) ≡ data_word p k ∷ words_from p (k + 1) n
unfolding words_from
words_step p k n h = rw (ne_eqb (k % 16) 0 h) refl

-- a word's items, and those of the words after it
pub items_group : (s : Scheme) (before after : List DataWord) (w : DataWord) (ds : List ℤ) → before ≡ w ∷ after
    → differences_of s w.code w.bits ≡ Some ds → items_of s before ≡ map Ok ds ++ items_of s after
unfolding items_of
items_group s before after w ds cut e = rw cut (ap (λ (o : Option (List ℤ)). with_items w o (items_of s after)) e)

pub items_bad : (s : Scheme) (before after : List DataWord) (w : DataWord) → before ≡ w ∷ after
    → differences_of s w.code w.bits ≡ None → items_of s before ≡ Err (place_of w) ∷ []
unfolding items_of
items_bad s before after w cut e = rw cut (ap (λ (o : Option (List ℤ)). with_items w o (items_of s after)) e)

pub no_items : (s : Scheme) (before : List DataWord) → before ≡ [] → items_of s before ≡ []
unfolding items_of
no_items s before e = rw e refl

pub is_head : (k : ℕ) → (k % 16 ≡ 0) ⊎ (k % 16 ≢ 0)
is_head k = grind (arith, cases_lt)

-- how many data words there are: all but the first of each frame
pub length-words_from : (p : List ℕ) (k n : ℕ) → length (words_from p k n) + (k + n + 15) / 16 ≡ n + (k + 15) / 16
length-words_from p k zero = rw (words_none p k) (omega arith)
length-words_from p k (suc n) = grind (arith, is_head, words_skip, words_step, length-words_from p (k + 1) n)

-- words that are cut in two
pub words_cut : (p : List ℕ) (k n m : ℕ) → words_from p k (n + m) ≡ words_from p k n ++ words_from p (k + n) m
words_cut p k zero m = grind (arith, words_none)
words_cut p k (suc n) m =
    let next : k + 1 + n ≡ k + suc n = omega arith in
    let more : suc n + m ≡ suc (n + m) = omega arith in
    let later : words_from p (k + 1) (n + m) ≡ words_from p (k + 1) n ++ words_from p (k + suc n) m =
    rw next at (words_cut p (k + 1) n m) in
    ⊎_elim
    (λ (head : k % 16 ≡ 0). rw (more, words_skip p k (n + m) head, words_skip p k n head) later)
    (λ (data_place : k % 16 ≢ 0). rw (more, words_step p k (n + m) data_place, words_step p k n data_place)
    (ap (λ (ws : List DataWord). data_word p k ∷ ws) later))
    (is_head k)

-- a frame of a payload
pub frame_at : (n : ℕ) (p : List ℕ) (i : ℕ) → i < n → get_or (first_chunks 64 n p) i [] ≡ take 64 (drop (64 * i) p)
frame_at zero p i h = absurd (omega arith)
frame_at (suc n) p zero h = refl
frame_at (suc n) p (suc i) h =
    let later = frame_at n (drop 64 p) i (omega arith) in
    let place : 64 + 64 * i ≡ 64 * suc i = omega arith in
    later ∙ (rw (drop-drop, place) refl)

pub take_most : {A : Type 0} (m : ℕ) (xs : List A) → length (take m xs) ≤ m
take_most (suc m) (x ∷ xs) = let later = take_most m xs in omega (arith, later)
take_most _ _ = omega arith

pub length-first_chunks : (n : ℕ) (p : List ℕ) → length (first_chunks 64 n p) ≡ n
length-first_chunks zero p = refl
length-first_chunks (suc n) p = ap suc (length-first_chunks n (drop 64 p))

-- after the first data word stand the words of the first frame from word 4 on, and those of the later frames
pub first_behind : (p : List ℕ) (w : DataWord) → 64 ≤ length p → words_from p 3 13 ≡ w ∷ words_from p 4 12
    → data_words p ≡ w ∷ words_from p 4 (word_count p - 4)
first_behind p w framed e =
    let some : 3 % 16 ≢ 0 = λ z. omega arith in
    let same : w ≡ data_word p 3 = cc (e, words_step p 3 12 some) in
    let count : suc (word_count p - 4) ≡ word_count p - 3 = omega (arith, framed) in
    rw (← count, same) (words_step p 3 (word_count p - 4) some)

skip_codes : (p : List ℕ) (k n : ℕ) → k % 16 ≡ 0 → words_from p k n ≡ words_from p (k + 1) (n - 1)
skip_codes p k zero e = words_none p k ∙ sym (words_none p (k + 1))
skip_codes p k (suc n) e = grind (arith, words_skip)

-- the data words of some frames that aren't taken yet, and those of the later ones
pub data_few : (met i : ℕ) → data_in met i ≤ 4
data_few zero zero = omega arith
data_few (suc met) zero = omega arith
data_few zero (suc i) = omega arith
data_few (suc met) (suc i) = omega arith

later_in : (met i : ℕ) → 0 < i → data_in met i ≡ 1
later_in met i h = search arith

pub left_later : (p : List ℕ) (met later i : ℕ) → 0 < i → left_from p met i ≡ left_from p later i
left_later p met later i h = rw (later_in met i h, later_in later i h) refl

pub frames_cut : (p : List ℕ) (met later i k : ℕ) → 0 < k → i + k ≤ length p / 64
    → left_from p met i ≡ words_from p (16 * i + data_in met i) (16 * k - data_in met i) ++ left_from p later (i + k)
frames_cut p met later i k some inside =
    let from : ℕ = data_in met i in
    let few = data_few met i in
    let next = later_in later (i + k) (omega (arith, some)) in
    let count : 16 * k - from + (word_count p - 16 * (i + k)) ≡ word_count p - (16 * i + from) =
    omega (arith, inside, few, some) in
    let place : 16 * i + from + (16 * k - from) ≡ 16 * (i + k) = omega (arith, few, some) in
    let less : word_count p - 16 * (i + k) - 1 ≡ word_count p - (16 * (i + k) + 1) = omega arith in
    let cut = rw (count, place) at (words_cut p (16 * i + from) (16 * k - from) (word_count p - 16 * (i + k))) in
    let skip = rw less at (skip_codes p (16 * (i + k)) (word_count p - 16 * (i + k)) (omega arith)) in
    rw next (cut ∙ ap (λ (ws : List DataWord). words_from p (16 * i + from) (16 * k - from) ++ ws) skip)

-- after the last frame there are none
pub none_left : (p : List ℕ) (met i : ℕ) → length p / 64 ≤ i → left_from p met i ≡ []
none_left p met i over = search (arith, words_none)

-- a frame's items, and those of the later frames
pub frame_items : (s : Scheme) (p begin frame : List ℕ) (met later i count : ℕ) (ds : List ℤ) → i < length p / 64
    → Begins begin (data_in met i) → AreUnpacked s begin frame ds count → frame ≡ take 64 (drop (64 * i) p)
    → items_of s (left_from p met i) ≡ map Ok ds ++ items_of s (left_from p later (i + 1))
frame_items s p begin frame met later i count ds inside begins unpacked e =
    ap (items_of s) (frames_cut p met later i 1 (omega arith) (omega (arith, inside)))
    ∙ unpacked.items p i (data_in met i) (left_from p later (i + 1)) begins e
