-- One item after another: how a walk goes on.
use Rattle.mseed_steim.specs.private.Sums.{Keep}
use Rattle.std.proofs.Common.{◌≡◌, ◌≢◌, ℕ, ◌<◌, ◌^◌, List, [], ◌∷◌, ◌++◌, map, ◌∙◌, ℤ, pos, negsuc, ◌+ℤ◌}
use Rattle.std.proofs.Common.{arith, refl, sym, ap, subst, eqb, false, true, Option, Some, None, Result, Ok}
use Rattle.std.proofs.Common.{Err, w32}
use Rattle.std.proofs.Common.{FitsSigned}
use Rattle.std.proofs.lemmas.Bool.Decides.{nat_tests}
use Rattle.std.proofs.lemmas.Int.{ints}
use Rattle.std.proofs.lemmas.Bool.{ne_eqb, eq-eqb, lt-ltb, le-ltb}
use Rattle.mseed_steim.specs.declared.fault.ReadFault.{ReadFault}
use Rattle.mseed_steim.specs.declared.fault.ReadFault.TheVariants.{BadWord, Overflow}
use Rattle.mseed_steim.specs.declared.scheme.Scheme.{Scheme}
use Rattle.mseed_steim.specs.declared.sum.Sum.{Sum}
use Rattle.mseed_steim.specs.private.Digits.{differences_of}
use Rattle.mseed_steim.specs.private.Items.{Items, items_of}
use Rattle.mseed_steim.specs.Frames.{DataWord}
use Rattle.mseed_steim.specs.Runs.{place_of}
use Rattle.mseed_steim.specs.private.Sums.{IsEnd, Walks, fits, fold, lack_at, met_in, one_more, used}
use Rattle.mseed_steim.proofs.Walking.{items_group, items_bad}

pub fold_enough : (n : ℕ) (s : Sum) (items : Items) → s.met ≡ n → fold n s items ≡ Ok s
unfolding fold
fold_enough n s [] e = rw (eq-eqb s.met n e) refl
fold_enough n s (Ok d ∷ more) e = rw (eq-eqb s.met n e) refl
fold_enough n s (Err at ∷ more) e = rw (eq-eqb s.met n e) refl

-- fewer samples have been met than are needed, and some
pub not_met : (m n : ℕ) → m < n → eqb m n ≡ false
not_met m n h = ne_eqb m n (λ (z : m ≡ n). omega (arith, h, z))

pub some_met : (m : ℕ) → 0 < m → eqb m 0 ≡ false
some_met m h = ne_eqb m 0 (λ (z : m ≡ 0). omega (arith, h, z))

-- the first sample is the sum itself
pub adds_first : (s : Sum) (d : ℤ) → s.met ≡ 0 → s.last +ℤ used s.met d ≡ s.last
adds_first s d e = grind (arith, nat_tests, ints)

pub fold_add : (n : ℕ) (s : Sum) (d : ℤ) (more : Items) → s.met < n → fits (s.last +ℤ used s.met d) ≡ true
    → fold n s (Ok d ∷ more) ≡ fold n (one_more s (s.last +ℤ used s.met d)) more
unfolding fold
fold_add n s d more h e = rw (not_met s.met n h, e) refl

pub fold_over : (n : ℕ) (s : Sum) (d : ℤ) (more : Items) → s.met < n → fits (s.last +ℤ used s.met d) ≡ false
    → fold n s (Ok d ∷ more) ≡ Err (Overflow s.met)
unfolding fold
fold_over n s d more h e = rw (not_met s.met n h, e) refl

-- at the end of the items, or at a bad word
pub fold_ended : (n : ℕ) (s : Sum) (rest : Items) → IsEnd rest → s.met ≢ n → fold n s rest ≡ Err (lack_at s.met rest)
unfolding fold
fold_ended n s (Ok d ∷ more) end h = absurd end
fold_ended n s _ end h = rw (ne_eqb s.met n h) refl

-- the samples that are met
pub met_enough : (n : ℕ) (s : Sum) (items : Items) → s.met ≡ n → met_in n s items ≡ []
unfolding met_in
met_enough n s (Ok d ∷ more) e = rw (eq-eqb s.met n e) refl
met_enough n s _ e = refl

pub met_add : (n : ℕ) (s : Sum) (d : ℤ) (more : Items) → s.met < n → fits (s.last +ℤ used s.met d) ≡ true
    → met_in n s (Ok d ∷ more) ≡ (s.last +ℤ used s.met d) ∷ met_in n (one_more s (s.last +ℤ used s.met d)) more
unfolding met_in
met_add n s d more h e = rw (not_met s.met n h, e) refl

pub met_over : (n : ℕ) (s : Sum) (d : ℤ) (more : Items) → s.met < n → fits (s.last +ℤ used s.met d) ≡ false
    → met_in n s (Ok d ∷ more) ≡ []
unfolding met_in
met_over n s d more h e = rw (not_met s.met n h, e) refl

-- the test of 32 bits
pub fits_true : (z : ℤ) → FitsSigned w32 z → fits z ≡ true
fits_true (pos n) h = lt-ltb n (2 ^ 31) h.sfits
fits_true (negsuc n) h = lt-ltb n (2 ^ 31) h.sfits

pub fits_false : (z : ℤ) → (FitsSigned w32 z → ⊥) → fits z ≡ false
fits_false (pos n) h = le-ltb n (2 ^ 31) (omega (arith, λ (l : n < 2 ^ 31). h (record { sfits = l })))
fits_false (negsuc n) h = le-ltb n (2 ^ 31) (omega (arith, λ (l : n < 2 ^ 31). h (record { sfits = l })))

-- no more is needed, whatever stands after
pub fold_done : (n : ℕ) (s : Sum) (items later : Items) → s.met ≡ n → fold n s items ≡ fold n s later
fold_done n s items later e = fold_enough n s items e ∙ sym (fold_enough n s later e)

-- a word's differences, or that it is bad
pub word_walks : (keep : Option Keep) (n : ℕ) (s : Scheme) (w : DataWord) (ds : List ℤ) (a : Sum)
    (before after : List ℤ) (r : Result Sum ReadFault) → differences_of s w.code w.bits ≡ Some ds
    → ((more : Items) → Walks keep n a before (map Ok ds ++ more) more after r)
    → (rest : List DataWord) → Walks keep n a before (items_of s (w ∷ rest)) (items_of s rest) after r
word_walks keep n s w ds a before after r e h rest =
    subst (λ (items : Items). Walks keep n a before items (items_of s rest) after r)
    (sym (items_group s (w ∷ rest) rest w ds refl e)) (h (items_of s rest))

pub bad_word : (n : ℕ) (s : Scheme) (w : DataWord) (a : Sum) → differences_of s w.code w.bits ≡ None → a.met < n
    → (rest : List DataWord) → fold n a (items_of s (w ∷ rest)) ≡ Err (BadWord w.frame w.place)
bad_word n s w a e less rest = ap (fold n a) (items_bad s (w ∷ rest) rest w refl e)
    ∙ fold_ended n a (Err (place_of w) ∷ []) tt (λ z. omega (arith, z, less))
