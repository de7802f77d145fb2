-- What a walk over a payload's frames answers is what its words say.
use Rattle.std.proofs.Common.{◌-◌, ◌^◌, negsuc, suc}
use Rattle.byteorder.specs.Endian.{twos_complement}
use Rattle.mseed_steim.specs.Frames.{AreOctets, word_at}
use Rattle.mseed_steim.proofs.Given.{word_small}
use Rattle.std.proofs.Common.{◌≡◌, ℕ, ◌<◌, List, [], ◌∷◌, ◌++◌, map, length, ℤ, pos}
use Rattle.std.proofs.lemmas.Bool.Decides.{nat_tests}
use Rattle.std.proofs.Common.{◌+ℤ◌, arith, refl, ap, sym, ◌∙◌, subst, length-append, None, Ok}
use Rattle.std.proofs.Common.{Err, All, append-nil}
use Rattle.std.proofs.lemmas.Int.{ints}
use Rattle.mseed_steim.specs.declared.scheme.Scheme.{Scheme}
use Rattle.mseed_steim.specs.declared.fault.ReadFault.{ReadFault}
use Rattle.mseed_steim.specs.declared.fault.ReadFault.TheVariants.{Overflow}
use Rattle.mseed_steim.specs.declared.sum.Sum.{Sum}
use Rattle.mseed_steim.specs.Frames.{DataWord, data_words, first_constant}
use Rattle.mseed_steim.specs.Runs.{Gives, SpellsRun}
use Rattle.mseed_steim.specs.Samples.{IsSample, Adds, AreSums, IsFrameFault, StartsAndAdds, short, bad_word, overflow}
use Rattle.mseed_steim.specs.private.Items.{Items}
use Rattle.mseed_steim.specs.private.Sums.{IsEnd, Lacks, lack_at, sums, used, with_first}
use Rattle.mseed_steim.proofs.Folded.{last_of, Folds, done, ended, over as over_folds}
use Rattle.mseed_steim.proofs.Folds.{some_met}
use Rattle.mseed_steim.proofs.Summed.{length-sums}
use Rattle.mseed_steim.proofs.Prefixes.{Ending, begin_items, end_items, giving, last_ends, last_item}

-- the payload's first constant is a sample
pub minus : (x m : ℕ) → x < suc m → pos x +ℤ negsuc m ≡ negsuc (m - x)
minus x m h = search arith

number_fits : (x : ℕ) → x < 2 ^ 32 → IsSample (twos_complement 4 x)
number_fits x small = search (arith, minus)

pub constant_fits : (p : List ℕ) → AreOctets p → (k : ℕ) → IsSample (twos_complement 4 (word_at p k))
constant_fits p octets k = number_fits (word_at p k) (word_small p k octets)

adds_longer : (x : ℤ) (ds ss t : List ℤ) → Adds x ds ss → Adds x (ds ++ t) ss
adds_longer x ds [] t h = tt
adds_longer x [] (s ∷ ss) t h = absurd h
adds_longer x (d ∷ ds) (s ∷ ss) t h = (h.0, adds_longer s ds ss t h.1)

-- the first difference isn't used
starts : (x : ℤ) (ds ss t : List ℤ) → Adds x (with_first 0 (pos 0) ds) ss → StartsAndAdds x (ds ++ t) ss
starts x ds [] t h = tt
starts x [] (s ∷ ss) t h = absurd h
starts x (d ∷ ds) (s ∷ ss) t h = grind (arith, adds_longer, ints)

-- the sums over a prefix of the words
sums_of : (s : Scheme) (p : List ℕ) (n : ℕ) (items more : Items) (ds ss : List ℤ) → Gives s (data_words p) items
    → items ≡ map Ok ds ++ more → length ds ≡ n → length ss ≡ length ds
    → Adds (first_constant p) (with_first 0 (pos 0) ds) ss → AreSums s p n ss
sums_of s p n items more ds ss g e count same adds =
    let all = giving s (data_words p) items g in
    let longer = begin_items ds all.ds more (last_item all.rest) (last_ends all.rest) (sym all.is ∙ e) in
    let long = ap length longer.1 ∙ length-append ds longer.0 in
    record {
      count = omega (arith, count, same);
      prefix = all.ending.before;
      rest = all.rest;
      cut = all.ending.cut;
      differences = all.ds;
      spelled = all.ending.spelled;
      enough = omega (arith, count, long);
      sums = rw longer.1 (starts (first_constant p) ds ss longer.0 adds);
    }

-- the samples of a walk that met them all
pub record Met (s : Scheme) (p : List ℕ) (n : ℕ) (mets : List ℤ) (last : ℤ) : Type 0 where
  pub sums : AreSums s p n mets
  pub range : All IsSample mets
  pub ends : last ≡ last_of (first_constant p) mets

pub all_met : (s : Scheme) (p : List ℕ) (n : ℕ) (mets : List ℤ) (items : Items) (next : Sum)
    → Gives s (data_words p) items → Folds n 0 (first_constant p) items mets (Ok next) → Met s p n mets next.last
all_met s p n mets items next g (done next' ds more e count same adds all met last) = record {
  sums = sums_of s p n items more ds mets g e (omega arith) same adds;
  range = all;
  ends = last;
}

-- a word that has to be there lacks
stops_short : (s : Scheme) (p : List ℕ) (n : ℕ) (ds : List ℤ) (rest : List DataWord)
    → Ending s (data_words p) ds rest → length ds < n → IsFrameFault s p n (lack_at (length ds) (last_item rest))
stops_short s p n ds [] h less =
    short ds (subst (λ (ws : List DataWord). SpellsRun s ws ds) (sym (h.cut ∙ append-nil h.before)) h.spelled) less
stops_short s p n ds (bad ∷ after) h less = bad_word h.before bad after ds h.cut h.spelled less h.stops

pub is_lacking : (s : Scheme) (p : List ℕ) (n : ℕ) (items rest : Items) (ds : List ℤ) → Gives s (data_words p) items
    → items ≡ map Ok ds ++ rest → IsEnd rest → length ds < n → IsFrameFault s p n (lack_at (length ds) rest)
is_lacking s p n items rest ds g e end less =
    let all = giving s (data_words p) items g in
    let same = end_items ds all.ds rest (last_item all.rest) end (last_ends all.rest) (sym all.is ∙ e) in
    rw (← same.0, ← same.1) (stops_short s p n all.ds all.rest all.ending (rw same.0 less))

-- the whole sums, from one that 32 bits don't hold on
sums_add : (x : ℤ) (ds : List ℤ) → Adds x ds (sums x ds)
sums_add x [] = tt
sums_add x (d ∷ ds) = (refl, sums_add (x +ℤ d) ds)

adds_past : (x : ℤ) (ds ss es ts : List ℤ) → length ss ≡ length ds → Adds x ds ss → Adds (last_of x ss) es ts
    → Adds x (ds ++ es) (ss ++ ts)
adds_past x [] [] es ts l h k = k
adds_past x (d ∷ ds) (s ∷ ss) es ts l h k = (h.0, adds_past s ds ss es ts (omega arith) h.1 k)
adds_past x _ _ es ts l h k = absurd (omega arith)

adds_on : (x : ℤ) (ds ss : List ℤ) (d : ℤ) (t : List ℤ) → length ss ≡ length ds
    → Adds x (with_first 0 (pos 0) ds) ss → Adds x (with_first 0 (pos 0) (ds ++ d ∷ t))
    (ss ++ (last_of x ss +ℤ used (length ds) d) ∷ sums (last_of x ss +ℤ used (length ds) d) t)
adds_on x [] [] d t l h = (refl, sums_add (x +ℤ pos 0) t)
adds_on x (c ∷ ds) (s ∷ ss) d t l h = grind (arith, adds_past, some_met, sums_add)
adds_on x _ _ d t l h = absurd (omega arith)

-- the first n differences, where the words have as many
agreed : (ds es : List ℤ) (d : ℤ) (more later : Items) → length ds < length es
    → map Ok ds ++ Ok d ∷ more ≡ map Ok es ++ later → (t : List ℤ) × (es ≡ ds ++ d ∷ t)
agreed [] (x ∷ es) d more later h e = (es, cc)
agreed (y ∷ ds) (x ∷ es) d more later h e =
    let rest : map Ok ds ++ Ok d ∷ more ≡ map Ok es ++ later = cc in
    let found = agreed ds es d more later (omega arith) rest in
    (found.0, cc (found.1))
agreed _ _ d more later h e = absurd (omega arith)

is_over : (s : Scheme) (p : List ℕ) (n k : ℕ) (items more later : Items) (ds ss es : List ℤ) (d : ℤ)
    → Gives s (data_words p) items → items ≡ map Ok es ++ later → length es ≡ n → items ≡ map Ok ds ++ Ok d ∷ more
    → length ds ≡ k → k < n → length ss ≡ length ds → Adds (first_constant p) (with_first 0 (pos 0) ds) ss
    → All IsSample ss → ¬ (IsSample (last_of (first_constant p) ss +ℤ used k d)) → IsFrameFault s p n (Overflow k)
is_over s p n k items more later ds ss es d g all count e place less same adds fit not =
    let found = agreed ds es d more later (omega arith) (sym e ∙ all) in
    let sum : ℤ = last_of (first_constant p) ss +ℤ used k d in
    let used_there : used (length ds) d ≡ used k d = ap (λ (m : ℕ). used m d) place in
    let added = rw used_there at (adds_on (first_constant p) ds ss d found.0 same adds) in
    let long : length (ss ++ sum ∷ sums sum found.0) ≡ length es =
    search (arith, nat_tests, length-append, length-sums) in
    let whole : Adds (first_constant p) (with_first 0 (pos 0) es) (ss ++ sum ∷ sums sum found.0) =
    subst (λ (xs : List ℤ). Adds (first_constant p) (with_first 0 (pos 0) xs) (ss ++ sum ∷ sums sum found.0))
    (sym found.1) added in
    subst (λ (m : ℕ). IsFrameFault s p n (Overflow m)) (same ∙ place)
    (overflow ss sum (sums sum found.0) (sums_of s p n items later es (ss ++ sum ∷ sums sum found.0) g all count long
    whole) fit not)

pub is_fault : (s : Scheme) (p : List ℕ) (n : ℕ) (mets : List ℤ) (items : Items) (f : ReadFault)
    → Gives s (data_words p) items → Folds n 0 (first_constant p) items mets (Err f) → Lacks n items None
    → IsFrameFault s p n f
is_fault s p n mets items f g (ended k ds rest e end count less) all =
    subst (λ (m : ℕ). IsFrameFault s p n (lack_at m rest)) (omega arith)
    (is_lacking s p n items rest ds g e end (omega arith))
is_fault s p n mets items f g (over_folds k ds d more e count less same adds fit not) all =
    is_over s p n k items more all.1.0 ds mets all.0 d g all.1.1.0 all.1.1.1 e (omega arith) less same adds fit not
