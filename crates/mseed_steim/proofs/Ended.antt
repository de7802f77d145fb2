-- The ends of samples.
use Rattle.mseed_steim.specs.private.Sums.{Keep}
use Rattle.mseed_steim.specs.Frames.{AreOctets}
use Rattle.std.proofs.Common.{length-append}
use Rattle.std.proofs.Common.{◌≡◌, ◌≢◌, ℕ, ◌-◌, ◌<◌, List, [], ◌∷◌, ◌++◌, length, ℤ, arith, refl, ap, sym, ◌∙◌}
use Rattle.std.proofs.Common.{subst, slice_get, Option, Some, None, Result, Ok, Err, All, IfOk, IfErr, OnOk, IsOkAnd}
use Rattle.mseed_time.specs.declared.order.Order.TheVariants.{Big}
use Rattle.mseed_steim.specs.declared.scheme.Scheme.{Scheme}
use Rattle.mseed_steim.specs.declared.form.Form.TheVariants.{Frames}
use Rattle.mseed_steim.specs.declared.fault.Ends.{Ends}
use Rattle.mseed_steim.specs.declared.fault.ReadFault.{ReadFault}
use Rattle.mseed_steim.specs.declared.fault.ReadFault.TheVariants.{Short, LastDiffers}
use Rattle.mseed_steim.specs.declared.sum.Sum.{Sum}
use Rattle.mseed_steim.specs.Frames.{word_count, data_words, first_constant, last_constant}
use Rattle.mseed_steim.specs.private.Items.{items_of}
use Rattle.mseed_steim.specs.Runs.{Gives}
use Rattle.mseed_steim.specs.Samples.{IsSample, AreSums, IsFrameFault, StartsAndAdds, short, last_differs}
use Rattle.mseed_steim.specs.private.Sums.{AreKept, IsKept, Lacks, in_places, kept_in, met_in, walk}
use Rattle.mseed_steim.proofs.Walking.{words_none}
use Rattle.mseed_steim.proofs.Given.{items_given, words_small}
use Rattle.mseed_steim.proofs.Folded.{Folds, folds, last_of}
use Rattle.mseed_steim.proofs.Framed.{Met, all_met, is_lacking, is_fault}

-- the last of samples by its place, and what stands before it
get_last : (x : ℤ) (ss : List ℤ) → 0 < length ss → slice_get ss (length ss - 1) ≡ Some (last_of x ss)
get_last x [] some = absurd (omega (arith, some))
get_last x (s ∷ []) some = refl
get_last x (s ∷ t ∷ ss) some = grind (arith, get_last s (t ∷ ss) (omega arith))

before_last : (x : ℤ) (ss : List ℤ) → 0 < length ss → (prefix : List ℤ) × (ss ≡ prefix ++ last_of x ss ∷ [])
before_last x [] some = absurd (omega (arith, some))
before_last x (s ∷ []) some = ([], refl)
before_last x (s ∷ t ∷ ss) some =
    let found = before_last s (t ∷ ss) (omega arith) in (s ∷ found.0, ap (λ (xs : List ℤ). s ∷ xs) found.1)

-- the samples that a walk meets
abbrev pub mets_of : Scheme → List ℕ → ℕ → List ℤ
mets_of s p n = met_in n (record { met = 0; last = first_constant p }) (items_of s (data_words p))

folds_of : (s : Scheme) (p : List ℕ) (n : ℕ) (r : Result Sum ReadFault) → r ≡ walk s p n
    → Folds n 0 (first_constant p) (items_of s (data_words p)) (mets_of s p n) r
folds_of s p n r e = grind (arith, folds)

gives : (s : Scheme) (p : List ℕ) → AreOctets p → Gives s (data_words p) (items_of s (data_words p))
gives s p octets = items_given s (data_words p) (words_small p octets 3 _)

-- a walk that met all samples, from what it answers
pub walked : (s : Scheme) (p : List ℕ) (n : ℕ) (sum : Sum) → AreOctets p → Ok sum ≡ walk s p n
    → Met s p n (mets_of s p n) sum.last
walked s p n sum octets e = all_met s p n _ _ sum (gives s p octets) (folds_of s p n (Ok sum) e)

pub ends_differ : (s : Scheme) (p : List ℕ) (n : ℕ) (sum : Sum) → 0 < n → AreOctets p → Ok sum ≡ walk s p n → (a c : ℤ)
    → a ≡ sum.last → c ≡ last_constant p → a ≢ c → IsFrameFault s p n (LastDiffers a c)
ends_differ s p n sum h octets e a c found constant differ =
    let m = walked s p n sum octets e in
    let split = before_last (first_constant p) (mets_of s p n) (omega (arith, m.sums.count)) in
    let last : a ≡ last_of (first_constant p) (mets_of s p n) = found ∙ m.ends in
    let whole : mets_of s p n ≡ split.0 ++ a ∷ [] = rw last split.1 in
    subst (λ (z : ℤ). IsFrameFault s p n (LastDiffers a z)) (sym constant)
    (last_differs split.0 a (subst (AreSums s p n) whole m.sums)
    (subst (All IsSample) whole m.range) (λ q. differ (q ∙ sym constant)))

-- a walk that ended with a fault
pub lacking_fault : (s : Scheme) (p : List ℕ) (n : ℕ) (f : ReadFault) → AreOctets p
    → Lacks n (items_of s (data_words p)) (Some f) → IsFrameFault s p n f
lacking_fault s p n f octets l = subst (IsFrameFault s p n) (sym l.1.1.3)
    (is_lacking s p n _ l.1.0 l.0 (gives s p octets) l.1.1.0 l.1.1.1 l.1.1.2)

pub walk_fault : (s : Scheme) (p : List ℕ) (n : ℕ) (f : ReadFault) → AreOctets p
    → Err f ≡ walk s p n → Lacks n (items_of s (data_words p)) None → IsFrameFault s p n f
walk_fault s p n f octets e l = is_fault s p n _ _ f (gives s p octets) (folds_of s p n (Err f) e) l

last_pushed : (x : ℤ) (prefix : List ℤ) (last : ℤ) → last_of x (prefix ++ last ∷ []) ≡ last
last_pushed x [] last = refl
last_pushed x (y ∷ prefix) last = last_pushed y prefix last

-- the last of samples, one of which was pushed
pub get_pushed : (prefix : List ℤ) (last : ℤ) → slice_get (prefix ++ last ∷ []) (length (prefix ++ last ∷ []) - 1)
    ≡ Some last
get_pushed prefix last = get_last last (prefix ++ last ∷ []) (omega (arith, length-append prefix (last ∷ [])))
    ∙ ap Some (last_pushed last prefix last)

-- without a frame there are no words
pub no_frame : (s : Scheme) (p : List ℕ) (n : ℕ) → length p < 64 → 0 < n → IsFrameFault s p n (Short 0)
no_frame s p n small some =
    let over : word_count p - 3 ≡ 0 = omega arith in
    let none : data_words p ≡ [] = rw over (words_none p 3) in
    short [] (rw none refl) some

pub first_is : (first : ℤ) (ds s : List ℤ) → 0 < length s → StartsAndAdds first ds s → slice_get s 0 ≡ Some first
first_is first ds s some h = search arith

-- what the tail of a walk answers, and what is kept
ends_kept : (keep : Option Keep) (s : Scheme) (p : List ℕ) (n : ℕ) (out before : List ℤ)
    → in_places keep out
    ≡ kept_in keep n (record { met = 0; last = first_constant p }) before (items_of s (data_words p))
    → AreKept keep (mets_of s p n) out
ends_kept None s p n out before e = tt
ends_kept (Some keep) s p n out before e = e

pub walk_kept : (keep : Option Keep) (s : Scheme) (p : List ℕ) (n : ℕ) (constants : Ends)
    (walked : Result Sum ReadFault) (out before : List ℤ) (r : Result Ends ReadFault) → 0 < n → AreOctets p
    → walked ≡ walk s p n → OnOk walked (in_places keep out
    ≡ kept_in keep n (record { met = 0; last = first_constant p }) before (items_of s (data_words p)))
    → constants.first ≡ first_constant p → constants.last ≡ last_constant p → IfOk r (λ ends. ends ≡ constants)
    → OnOk r (IsOkAnd walked (λ sum. sum.last ≡ last_constant p)) → IfErr r (λ fault. IsFrameFault s p n fault)
    → IsKept keep (Frames s) Big p n out r
walk_kept keep s p n constants (Ok sum) out before (Ok ends) h octets e kept first last same met fault =
    let m = walked s p n sum octets e in
    let some : 0 < length (mets_of s p n) = omega (arith, m.sums.count, h) in
    let found : slice_get (mets_of s p n) (length (mets_of s p n) - 1) ≡ Some (last_constant p) =
    get_last (first_constant p) (mets_of s p n) some ∙ ap Some (sym m.ends ∙ met) in
    let starts = ap (λ (x : Ends). x.first) same ∙ first in
    let ends_on = ap (λ (x : Ends). x.last) same ∙ last in (
      mets_of s p n,
      (
        (refl, m.sums, m.range),
        found,
        (
          (
            first_is (first_constant p) m.sums.differences (mets_of s p n) some m.sums.sums
                ∙ ap Some (sym starts),
            found ∙ ap Some (sym ends_on),
          ),
          ends_kept keep s p n out before kept,
        ),
      ),
    )
walk_kept keep s p n constants (Err f) out before (Ok ends) h octets e kept first last same met fault = absurd met
walk_kept keep s p n constants (Ok sum) out before (Err g) h octets e kept first last same met fault = fault
walk_kept keep s p n constants (Err f) out before (Err g) h octets e kept first last same met fault = fault
