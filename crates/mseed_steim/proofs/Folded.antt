-- What a walk over items answers, in the words of lists.
use Rattle.mseed_steim.specs.private.Sums.{Keep}
use Rattle.std.proofs.Common.{zero, suc}
use Rattle.std.proofs.Math.Seq.{drop-cons, take-suc-set, take-length}
use Rattle.std.proofs.Math.ListN.{set}
use Rattle.std.proofs.Common.{take, drop, get_or, append_assoc, append-nil, ◌≡◌, ℕ, ◌+◌, ◌<◌, ◌≤◌, ◌^◌, List, [], ◌∷◌}
use Rattle.std.proofs.Common.{◌++◌, map, length, ℤ, pos, negsuc, ◌+ℤ◌, ◌-ℤ◌, arith, refl, ap, ◌∙◌, false}
use Rattle.std.proofs.Common.{true}
use Rattle.std.proofs.Common.{Result, Ok, Err, All, ⊎_elim}
use Rattle.std.proofs.lemmas.Int.{ints}
use Rattle.std.proofs.lemmas.Bool.{cases_lt}
use Rattle.std.proofs.lemmas.Bool.Decides.{nat_tests}
use Rattle.std.proofs.lemmas.List.{map-append, take-append-drop}
use Rattle.std.proofs.lemmas.List.Elements.{All-cons, All-nil}
use Rattle.mseed_steim.specs.declared.fault.ReadFault.{ReadFault}
use Rattle.mseed_steim.specs.declared.fault.ReadFault.TheVariants.{Overflow}
use Rattle.mseed_steim.specs.declared.sum.Sum.{Sum}
use Rattle.mseed_steim.specs.Samples.{IsSample, Adds, differences_from, steps_of}
use Rattle.mseed_steim.specs.private.Items.{Items}
use Rattle.mseed_steim.specs.private.Sums.{IsEnd, fits, fold, kept_at, kept_from, kept_of, kept_on, lack_at, met_in}
use Rattle.mseed_steim.specs.private.Sums.{one_more, the_difference, the_sample, used, with_first}
use Rattle.mseed_steim.proofs.Folds.{fold_enough, fold_add, fold_ended, fold_over, met_add, met_enough, met_over}
use Rattle.mseed_steim.proofs.Folds.{some_met}

-- the last of some samples, or the one before them
abbrev pub last_of : ℤ → List ℤ → ℤ
last_of before [] = before
last_of before (s ∷ ss) = last_of s ss

-- the answer of a walk that has met m samples, the last of them l, and the samples that it meets then
pub data Folds (n m : ℕ) (l : ℤ) (items : Items) (mets : List ℤ) : Result Sum ReadFault → Type 0 where
  done : (next : Sum) (ds : List ℤ) (more : Items) → items ≡ map Ok ds ++ more → length ds + m ≡ n
      → length mets ≡ length ds → Adds l (with_first m (pos 0) ds) mets → All IsSample mets → next.met ≡ n
      → next.last ≡ last_of l mets → Folds n m l items mets (Ok next)
  ended : (k : ℕ) (ds : List ℤ) (rest : Items) → items ≡ map Ok ds ++ rest → IsEnd rest → length ds + m ≡ k → k < n
      → Folds n m l items mets (Err (lack_at k rest))
  over : (k : ℕ) (ds : List ℤ) (d : ℤ) (more : Items) → items ≡ map Ok ds ++ Ok d ∷ more → length ds + m ≡ k → k < n
      → length mets ≡ length ds → Adds l (with_first m (pos 0) ds) mets → All IsSample mets
      → ¬ (IsSample (last_of l mets +ℤ used k d)) → Folds n m l items mets (Err (Overflow k))

-- the test of 32 bits
pub fits_sample : (z : ℤ) → fits z ≡ true → IsSample z
fits_sample (pos n) e = let h : n < 2 ^ 31 = grind (arith, nat_tests) in (omega (arith, ints), omega (arith, ints))
fits_sample (negsuc n) e = let h : n < 2 ^ 31 = grind (arith, nat_tests) in (omega (arith, ints), omega (arith, ints))

pub fits_not : (z : ℤ) → fits z ≡ false → ¬ (IsSample z)
fits_not (pos n) e s = let h : 2 ^ 31 ≤ n = grind (arith, nat_tests) in omega (arith, ints, s.1)
fits_not (negsuc n) e s = let h : 2 ^ 31 ≤ n = grind (arith, nat_tests) in omega (arith, ints, s.0)

-- after the first sample each difference counts
pub with_first_later : (m : ℕ) (z : ℤ) (ds : List ℤ) → 0 < m → with_first m z ds ≡ ds
with_first_later m z [] some = refl
with_first_later m z (d ∷ ds) some = rw (some_met m some) refl

pub length-with_first : (m : ℕ) (z : ℤ) (ds : List ℤ) → length (with_first m z ds) ≡ length ds
length-with_first m z [] = refl
length-with_first m z (d ∷ ds) = refl

-- a difference before it
more_folded : (n m : ℕ) (l d : ℤ) (items : Items) (mets : List ℤ) (r : Result Sum ReadFault)
    → IsSample (l +ℤ used m d) → Folds n (m + 1) (l +ℤ used m d) items mets r
    → Folds n m l (Ok d ∷ items) ((l +ℤ used m d) ∷ mets) r
more_folded n m l d items mets r fit (done next ds more e count same adds all met last) =
    done next (d ∷ ds) more (ap (λ (xs : Items). Ok d ∷ xs) e) (omega arith) (omega arith)
    (refl, rw (with_first_later (m + 1) (pos 0) ds (omega arith)) at adds)
    (All-cons IsSample (l +ℤ used m d) mets fit all) met last
more_folded n m l d items mets r fit (ended k ds rest e end count less) =
    ended k (d ∷ ds) rest (ap (λ (xs : Items). Ok d ∷ xs) e) end (omega arith) less
more_folded n m l d items mets r fit (over k ds x more e count less same adds all not) =
    over k (d ∷ ds) x more (ap (λ (xs : Items). Ok d ∷ xs) e) (omega arith) less (omega arith)
    (refl, rw (with_first_later (m + 1) (pos 0) ds (omega arith)) at adds)
    (All-cons IsSample (l +ℤ used m d) mets fit all) not

-- what is kept of no samples, and of one and those after it
pub kept_none : (keep : Keep) (m : ℕ) (l : ℤ) → kept_on keep m l [] ≡ []
kept_none keep zero l = refl
kept_none keep (suc m) l = refl

pub kept_one : (keep : Keep) (m : ℕ) (l d x : ℤ) (xs : List ℤ) → x ≡ l +ℤ used m d
    → kept_on keep m l (x ∷ xs) ≡ kept_at keep m d x ∷ kept_on keep (m + 1) x xs
kept_one keep zero l d x xs e = refl
kept_one keep (suc m) l d x xs e = grind (arith, ints, some_met)

-- of samples themselves, and of their differences
samples_from : (l : ℤ) (ss : List ℤ) → kept_from the_sample l ss ≡ ss
samples_from l [] = refl
samples_from l (s ∷ ss) = ap (λ (zs : List ℤ). s ∷ zs) (samples_from s ss)

pub samples_are : (ss : List ℤ) → kept_of the_sample ss ≡ ss
samples_are [] = refl
samples_are (s ∷ ss) = ap (λ (zs : List ℤ). s ∷ zs) (samples_from s ss)

pub steps_from : (l : ℤ) (ss : List ℤ) → kept_from the_difference l ss ≡ differences_from l ss
steps_from l [] = refl
steps_from l (s ∷ ss) = ap (λ (zs : List ℤ). (s -ℤ l) ∷ zs) (steps_from s ss)

pub steps_are : (ss : List ℤ) → kept_of the_difference ss ≡ steps_of ss
steps_are [] = refl
steps_are (s ∷ ss) = ap (λ (zs : List ℤ). s ∷ zs) (steps_from s ss)

enough : (n : ℕ) (s : Sum) (items : Items) → s.met ≡ n
    → Folds n s.met s.last items (met_in n s items) (fold n s items)
enough n s items e =
    rw (fold_enough n s items e, met_enough n s items e)
    (done s [] items refl (omega arith) refl tt (All-nil IsSample) e refl)

stops : (n : ℕ) (s : Sum) (rest : Items) → IsEnd rest → s.met ≤ n
    → Folds n s.met s.last rest (met_in n s rest) (fold n s rest)
stops n s rest end h = ⊎_elim
    (λ (less : s.met < n).
    rw (fold_ended n s rest end (λ e. omega (arith, less, e))) (ended s.met [] rest refl end (omega arith) less))
    (λ (most : n ≤ s.met). enough n s rest (omega arith))
    (cases_lt s.met n)

pub folds : (n : ℕ) (s : Sum) (items : Items) → s.met ≤ n
    → Folds n s.met s.last items (met_in n s items) (fold n s items)
folds n s [] h = stops n s [] tt h
folds n s (Err at ∷ more) h = stops n s (Err at ∷ more) tt h
folds n s (Ok d ∷ more) h = ⊎_elim
    (λ (less : s.met < n).
    let next : ℤ = s.last +ℤ used s.met d in
    let later = folds n (one_more s next) more (omega arith) in
    (elim (fits next) as (λ b. fits next ≡ b
    → Folds n s.met s.last (Ok d ∷ more) (met_in n s (Ok d ∷ more)) (fold n s (Ok d ∷ more))) [
      | true ↦ λ e. rw (fold_add n s d more less e, met_add n s d more less e)
          (more_folded n s.met s.last d more _ _ (fits_sample next e) later)
      | false ↦ λ e. rw (fold_over n s d more less e, met_over n s d more less e)
          (over s.met [] d more refl (omega arith) less refl tt (All-nil IsSample) (fits_not next e))
    ]) refl)
    (λ (most : n ≤ s.met). enough n s (Ok d ∷ more) (omega arith))
    (cases_lt s.met n)

-- differences after others
pub joined : (ds es : List ℤ) (rest : Items) → map Ok ds ++ (map Ok es ++ rest) ≡ map Ok (ds ++ es) ++ rest
joined ds es rest = grind (arith, append_assoc, map-append)

-- differences after those before them, all or the first of them
pub items_on : (items left after : Items) (past ds : List ℤ) → items ≡ map Ok past ++ left → left ≡ map Ok ds ++ after
    → items ≡ map Ok (past ++ ds) ++ after
items_on items left after past ds e f = e ∙ ap (λ (xs : Items). map Ok past ++ xs) f ∙ joined past ds after

pub first_items : (items rest : Items) (past ds : List ℤ) (k : ℕ) → items ≡ map Ok (past ++ ds) ++ rest
    → items ≡ map Ok (past ++ take k ds) ++ (map Ok (drop k ds) ++ rest)
first_items items rest past ds k e = grind (arith, append_assoc, joined, take-append-drop)

-- the next of some differences, and those after it
pub next_cut : (ds : List ℤ) (i : ℕ) (z : ℤ) → i < length ds → drop i ds ≡ get_or ds i z ∷ drop (i + 1) ds
next_cut ds i z h = search (arith, drop-cons)

pub drop_step : (ds : List ℤ) (i : ℕ) (z : ℤ) (more : Items) → i < length ds
    → map Ok (drop i ds) ++ more ≡ Ok (get_or ds i z) ∷ (map Ok (drop (i + 1) ds) ++ more)
drop_step ds i z more h = ap (λ (xs : List ℤ). map Ok xs ++ more) (next_cut ds i z h)

-- a sample put in its place
pub take_put : (out : List ℤ) (i k : ℕ) (z : ℤ) (xs : List ℤ) → i < length out → k ≡ i + 1
    → take k (set out i z) ++ xs ≡ take i out ++ z ∷ xs
take_put out i k z xs h e = search (arith, append_assoc, set, take-suc-set)

-- all places are filled
pub all_kept : (keep : Keep) (n : ℕ) (s : Sum) (out : List ℤ) (items : Items) → length out ≡ n → s.met ≡ n
    → out ≡ take s.met out ++ kept_on keep s.met s.last (met_in n s items)
all_kept keep n s out items room e = search (arith, append-nil, kept_none, met_enough, take-length)
