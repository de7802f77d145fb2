-- A frame's words, unpacked one after another, spell what they say.
use Rattle.mseed_steim.specs.Frames.{AreOctets}
use Rattle.std.proofs.Common.{◌≡◌, ◌≢◌, ℕ, zero, suc, ◌+◌, ◌-◌, ◌*◌, ◌%◌, ◌^◌, ◌<◌, ◌≤◌, List, ◌∷◌, ◌++◌, map}
use Rattle.std.proofs.Common.{take, drop, get_or, ℤ, refl, sym, ap, subst, ◌∙◌, append_assoc, append-nil, arith, inl}
use Rattle.std.proofs.Common.{inr, Some, Ok, ◌/◌, [], length, length-append, pos}
use Rattle.std.proofs.lemmas.Int.{ints}
use Rattle.std.specs.List.{range_with_len}
use Rattle.std.proofs.lemmas.List.{map-append}
use lib.Lanes.{sum_l}
use Rattle.mseed_steim.specs.declared.scheme.Scheme.{Scheme}
use Rattle.mseed_steim.specs.declared.scheme.Scheme.TheVariants.{One, Two}
use Rattle.mseed_steim.specs.declared.unpack.Unpacking.{Unpacking}
use Rattle.mseed_steim.specs.declared.unpack.Widest.{Widest}
use Rattle.mseed_steim.specs.declared.unpack.Widest.TheVariants.{Bits16, Bits32}
use Rattle.mseed_steim.specs.declared.frame.MovedLanes.{MovedLanes}
use Rattle.mseed_steim.specs.private.Digits.{differences_of}
use Rattle.mseed_steim.specs.private.Moves.{Adds, Tells}
use Rattle.mseed_steim.specs.Frames.{DataWord, data_word, word_at, code_at, words_from}
use Rattle.mseed_steim.specs.private.Items.{Items, items_of}
use Rattle.mseed_steim.specs.private.Lanes.{moved, span, sum_z, total, words, row_at, Begins, code_from}
use Rattle.mseed_steim.specs.private.Lanes.{all_counts_one, all_counts_two}
use Rattle.mseed_steim.specs.private.Lanes.{word_at as lanes_word_at}
use Rattle.mseed_steim.specs.private.Lanes.{counts_of, all_counts}
use Rattle.mseed_steim.specs.private.Unpacked.{AreGood, AreUpTo, FitIn, Unpacks, counts_up_to}
use Rattle.mseed_steim.specs.private.Unpacked.{differences_at, lanes_of, unpacked}
use Rattle.std.proofs.Common.{Bool, T, ◌||◌, not, ltb}
use Rattle.std.proofs.lemmas.Bool.Decides.{nat_tests}
use Rattle.mseed_steim.proofs.Below.{all_below, every_below}
use Rattle.mseed_steim.proofs.Walking.{words_none, words_step, items_group}
use Rattle.mseed_steim.proofs.FrameItems.{Reads, begins_low, none_at, reads_all, span-append, total-append}
use Rattle.mseed_steim.proofs.Spelled.{length-digits}
use Rattle.mseed_steim.proofs.LaneDigits.{at_word, one_of_sum}
use Rattle.mseed_steim.proofs.FrameNear.{alike, unpacked_near}
use Rattle.mseed_steim.proofs.FrameSums.{row_small}

-- one word more
pub unpacked_more : (s : Scheme) (f : List ℕ) (from j n : ℕ)
    → unpacked s f from j (n + 1) ≡ unpacked s f from j n ++ differences_at s f from (j + n)
unfolding unpacked
unpacked_more s f from j zero = grind (arith, append-nil)
unpacked_more s f from j (suc n) = grind (arith, append_assoc, unpacked_more s f from (j + 1) n)

-- what the words from one on spell
spelled : (s : Scheme) (p f : List ℕ) (k from : ℕ) → Reads s p f k from
    → AreGood s f from → (n j : ℕ) → 0 < j → from ≤ j → j + n ≡ 16
    → (rest : List DataWord) → items_of s (words_from p (16 * k + j) n ++ rest) ≡ map Ok (unpacked s f from j n)
    ++ items_of s rest
unfolding unpacked
spelled s p f k from reads good zero j some behind end rest = rw (words_none p (16 * k + j)) refl
spelled s p f k from reads good (suc n) j some behind end rest =
    let later = spelled s p f k from reads good n (j + 1) (omega arith) (omega arith) (omega arith) rest in
    let data_place : (16 * k + j) % 16 ≢ 0 = λ e. omega arith in
    let next : 16 * k + j + 1 ≡ 16 * k + (j + 1) = omega arith in
    let group : List ℤ = differences_at s f from j in
    let others : List ℤ = unpacked s f from (j + 1) n in
    let cut : words_from p (16 * k + j) (suc n) ≡ data_word p (16 * k + j) ∷ words_from p (16 * k + (j + 1)) n =
    rw (← next) (words_step p (16 * k + j) n data_place) in
    let one : differences_of s (code_at p (16 * k + j)) (word_at p (16 * k + j)) ≡ Some group =
    reads.word j (omega arith) behind (good j (omega arith)) in
    items_group s (words_from p (16 * k + j) (suc n) ++ rest) (words_from p (16 * k + (j + 1)) n ++ rest)
    (data_word p (16 * k + j)) group (ap (λ (ws : List DataWord). ws ++ rest) cut) one
    ∙ ap (λ (xs : Items). map Ok group ++ xs) later
    ∙ sym (append_assoc (map Ok group) (map Ok others) (items_of s rest))
    ∙ ap (λ (xs : Items). xs ++ items_of s rest) (sym (map-append Ok group others))

-- no word before the first has any
skipped : (s : Scheme) (p f : List ℕ) (k from : ℕ) → Reads s p f k from → (n m j : ℕ) → j + n ≡ from
    → unpacked s f from j (n + m) ≡ unpacked s f from from m
unfolding unpacked
skipped s p f k from reads zero m j e =
    let none : 0 + m ≡ m = omega arith in
    let same : j ≡ from = omega (arith, e) in
    rw (none, same) refl
skipped s p f k from reads (suc n) m j e =
    let none = none_at s f from j (reads.empty j (omega arith)) in
    let more : suc n + m ≡ suc (n + m) = omega arith in
    rw (more, none) (skipped s p f k from reads n m (j + 1) (omega arith))

-- what the words of the frame spell
all_spelled : (s : Scheme) (p f begin : List ℕ) (k from : ℕ) → Begins begin from → f ≡ take 64 (drop (64 * k) p)
    → AreOctets f → AreGood s f from
    → (rest : List DataWord) → items_of s (words_from p (16 * k + from) (16 - from) ++ rest)
    ≡ map Ok (unpacked s f from 1 15) ++ items_of s rest
all_spelled s p f begin k from begins e octets good rest =
    let reads = reads_all s p f k from e octets in
    let low = begins_low begin from begins in
    let whole : from - 1 + (16 - from) ≡ 15 = omega (arith, low.0, low.1) in
    let all = rw whole at (skipped s p f k from reads (from - 1) (16 - from) 1 (omega (arith, low.0))) in
    rw all (spelled s p f k from reads good (16 - from) from low.0 (omega arith) (omega (arith, low.1)) rest)

-- how far they go in all
span_unpacked : (s : Scheme) (f : List ℕ) (from n j : ℕ)
    → span (unpacked s f from j n) ≡ sum_l (map (λ w. span (differences_at s f from w)) (range_with_len j n))
unfolding unpacked
span_unpacked s f from zero j = refl
span_unpacked s f from (suc n) j = grind (arith, span-append, span_unpacked s f from n (j + 1))

near_sum : (s : Scheme) (f : List ℕ) (from : ℕ) → sum_l (map (λ w. span (differences_at s f from w)) words) ≤ 1048576
    → span (unpacked s f from 1 15) ≤ 2 ^ 20
unfolding words
near_sum s f from most = let all = span_unpacked s f from 15 1 in omega (arith, all, most)

all_near : (s : Scheme) (f : List ℕ) (from : ℕ) → AreOctets f
    → ((w : ℕ) → w < 16 → get_or (counts_of s) (row_at f from w) 0 < 128) → span (unpacked s f from 1 15) ≤ 2 ^ 20
all_near s f from octets few = near_sum s f from (unpacked_near s f from octets few)

pub lanes_few : (s : Scheme) → lanes_of s ≤ 8
lanes_few One = omega arith
lanes_few Two = omega arith

-- a row's unpacking, by what it counts itself
pub by_own_count : (count width : ℕ) (by : Unpacking) → Unpacks count width by → Unpacks by.count width by
by_own_count count width by u = subst (λ (n : ℕ). Unpacks n width by) (sym u.as_many) u

-- the lanes that are taken for a word are enough
pub lanes_enough : (s : Scheme) (f : List ℕ) (from lanes word : ℕ) (by : Unpacking) → word < 16 → by.count ≤ lanes_of s
    → by.count ≡ get_or (all_counts s) (row_at f from word) 0 → FitIn s f from lanes → by.count ≤ lanes
lanes_enough s f from lanes word by inside few same (inl all) = omega (arith, few, all)
lanes_enough s f from lanes word by inside few same (inr fit) = let h = fit word inside in omega (arith, same, h)

-- words without the code 3 have four differences at the most
abbrev has_few : Scheme → ℕ → Bool
has_few s row = not (ltb (get_or (all_counts s) row 0) 128) || ltb (get_or (all_counts s) row 0) 5

few_test : (s : Scheme) → T (all_below (has_few s) 12)
unfolding all_counts_one all_counts_two
few_test One = tt
few_test Two = tt

few_by_row : (s : Scheme) (row : ℕ) → row < 12 → get_or (all_counts s) row 0 < 128 → get_or (all_counts s) row 0 ≤ 4
few_by_row s row less few = let test = every_below (has_few s) 12 (few_test s) row less in grind (arith, nat_tests)

no_3 : (f : List ℕ) (from word : ℕ) → 0 < from
    → ((j : ℕ) → 0 < j → j < 16 → lanes_word_at f 0 / 2 ^ (30 - 2 * j) % 4 ≢ 3) → word < 16 → code_from f from word < 3
no_3 f from word some other less = search arith

pub no_more_than_4 : (s : Scheme) (f : List ℕ) (from : ℕ) → AreOctets f → 0 < from
    → ((j : ℕ) → 0 < j → j < 16 → lanes_word_at f 0 / 2 ^ (30 - 2 * j) % 4 ≢ 3) → AreGood s f from → FitIn s f from 4
no_more_than_4 s f from octets some other good = search (arith, few_by_row, no_3, row_small)

-- where the words have few differences in all, each has
each_few : (count : ℕ → ℕ) → sum_l (map count words) < 128 → (word : ℕ) → word < 16 → count word < 128
each_few count few word less =
    let one = one_of_sum (map count words) word in
    let at = at_word count word less in
    omega (arith, one, at, few)

-- where none is bad or has a difference of 30 or 32 bits, none is bad
narrow_good : (s : Scheme) (f : List ℕ) (from : ℕ) → AreOctets f
    → ((w : ℕ) → w < 16 → get_or (counts_of s) (row_at f from w) 0 < 128) → AreGood s f from
narrow_good s f from octets few word less = search (arith, alike, row_small)

good_up_to : (w : Widest) (s : Scheme) (f : List ℕ) (from : ℕ) → AreOctets f
    → ((x : ℕ) → x < 16 → get_or (counts_up_to w s) (row_at f from x) 0 < 128) → AreGood s f from
good_up_to Bits16 s f from octets few = narrow_good s f from octets few
good_up_to Bits32 s f from octets few = few

-- what the words of a frame are unpacked to
pub up_to : (w : Widest) (s : Scheme) (begin f : List ℕ) (ds : List ℤ) (count : ℕ) → AreOctets f
    → (from : ℕ) × Begins begin from → count ≤ 120 → ((from : ℕ) → Begins begin from → (x : ℕ) → x < 16
    → get_or (counts_up_to w s) (row_at f from x) 0 < 128)
    → ((from : ℕ) → Begins begin from → AreGood s f from → take count ds ≡ unpacked s f from 1 15)
    → AreUpTo w s begin f ds count
up_to w s begin f ds count octets some inside few same = record {
  unpacked = record {
    few = inside;
    items = λ p k from rest begins e.
        let good = good_up_to w s f from octets (few from begins) in
        rw (same from begins good) (all_spelled s p f begin k from begins e octets good rest);
  };
  near = λ e.
      let good = good_up_to w s f some.0 octets (few some.0 some.1) in
      let each = λ (x : ℕ) (less : x < 16). rw e at (few some.0 some.1 x less) in
      rw (same some.0 some.1 good) (all_near s f some.0 octets each);
}

-- the words in two parts
unpacked_cut : (s : Scheme) (f : List ℕ) (from n m j : ℕ)
    → unpacked s f from j (n + m) ≡ unpacked s f from j n ++ unpacked s f from (j + n) m
unfolding unpacked
unpacked_cut s f from zero m j = grind arith
unpacked_cut s f from (suc n) m j =
    let more : suc n + m ≡ suc (n + m) = omega arith in
    grind (arith, append_assoc, unpacked_cut s f from n m (j + 1))

-- a frame's words, five by five
pub unpacked_fives : (s : Scheme) (f : List ℕ) (from : ℕ)
    → (unpacked s f from 1 5 ++ unpacked s f from 6 5) ++ unpacked s f from 11 5 ≡ unpacked s f from 1 15
unpacked_fives s f from =
    ap (λ (xs : List ℤ). xs ++ unpacked s f from 11 5) (sym (unpacked_cut s f from 5 5 1))
    ∙ sym (unpacked_cut s f from 10 5 1)

-- ---- what is counted and added up of a frame
length_unpacked : (s : Scheme) (f : List ℕ) (from n j : ℕ) → length (unpacked s f from j n)
    ≡ sum_l (map (λ w. get_or (all_counts s) (row_at f from w) 0) (range_with_len j n))
unfolding unpacked
length_unpacked s f from zero j = refl
length_unpacked s f from (suc n) j = grind (arith, length-append, length-digits, length_unpacked s f from n (j + 1))

total_unpacked : (s : Scheme) (f : List ℕ) (from n j : ℕ)
    → total (unpacked s f from j n) ≡ sum_z (map (λ w. total (differences_at s f from w)) (range_with_len j n))
unfolding unpacked
total_unpacked s f from zero j = refl
total_unpacked s f from (suc n) j = grind (arith, total-append, total_unpacked s f from n (j + 1))

-- the first word, which has the codes, counts for nothing
past_codes : (g : ℕ → ℕ) → g 0 ≡ 0 → sum_l (map g words) ≡ sum_l (map g (range_with_len 1 15))
unfolding words
past_codes g e = omega (arith, e)

past_codes_z : (g : ℕ → ℤ) → g 0 ≡ pos 0 → sum_z (map g words) ≡ sum_z (map g (range_with_len 1 15))
unfolding words
past_codes_z g e = omega (arith, ints, e)

-- what is the same of each word that has few differences
same_words : {A : Type 0} (count : ℕ → ℕ) (g h : ℕ → A) → ((w : ℕ) → count w < 128 → g w ≡ h w) → (ws : List ℕ)
    → sum_l (map count ws) < 128 → map g ws ≡ map h ws
same_words count g h same [] few = refl
same_words count g h same (w ∷ ws) few = grind (arith, same_words count g h same ws (omega (arith, few)))

pub told_by : (s : Scheme) (p f begin : List ℕ) (k from : ℕ) (lanes : MovedLanes) → Begins begin from
    → f ≡ take 64 (drop (64 * k) p) → AreOctets f → Adds s f from lanes
    → Tells s (words_from p (16 * k + from) (16 - from)) lanes
told_by s p f begin k from lanes begins e h a = λ few.
    let narrow = subst (λ (n : ℕ). n < 128) a.count few in
    let each = each_few (λ w. get_or (counts_of s) (row_at f from w) 0) narrow in
    let none = (reads_all s p f k from e h).empty 0 (begins_low begin from begins).0 in
    let empty = none_at s f from 0 none in
    let same = λ (w : ℕ). alike s (row_at f from w) (row_small f from h w) in
    let counts = same_words (λ w. get_or (counts_of s) (row_at f from w) 0)
    (λ w. get_or (all_counts s) (row_at f from w) 0) (λ w. get_or (counts_of s) (row_at f from w) 0)
    (λ w few. (same w few).0) words narrow in
    let totals = same_words (λ w. get_or (counts_of s) (row_at f from w) 0) (λ w. total (differences_at s f from w))
    (moved s f from) (λ w few. let are = same w few in rw (are.0, are.1) refl) words narrow in (
      sum_z (map (moved s f from) words),
      (
        a.by few,
        (
          unpacked s f from 1 15,
          (
            record {
              count_is = search (arith, nat_tests, length_unpacked, past_codes);
              by_is = search (arith, nat_tests, past_codes_z, total_unpacked);
              near = all_near s f from h each;
            },
            all_spelled s p f begin k from begins e h (narrow_good s f from h each),
          ),
        ),
      ),
    )
