-- A walk that goes on, step by step.
use Rattle.mseed_steim.specs.private.Sums.{Keep}
use Rattle.std.proofs.Common.{◌≡◌, ◌⊎◌, ℕ, suc, ◌+◌, ◌-◌, ◌<◌, ◌≤◌, ◌^◌, List, [], ◌∷◌, ◌++◌, map}
use Rattle.std.proofs.Common.{take, drop, length}
use Rattle.std.proofs.Common.{ℤ, pos, ◌+ℤ◌, nat_abs, Option, Some, None, Result, Ok, Err, arith, refl, ap, sym}
use Rattle.std.proofs.Common.{◌∙◌, append_assoc}
use Rattle.std.specs.Prelude.{IfOk, IfSome, OnOk, min}
use Rattle.std.proofs.lemmas.Bool.{eq-eqb}
use Rattle.std.proofs.lemmas.List.{take-append-drop, take-take}
use Rattle.mseed_steim.specs.private.Items.{Items}
use Rattle.mseed_steim.specs.declared.fault.ReadFault.{ReadFault}
use Rattle.mseed_steim.specs.declared.keep.Taken.{Taken}
use Rattle.mseed_steim.specs.declared.keep.Task.{Task}
use Rattle.mseed_steim.specs.declared.sum.Sum.{Sum}
use Rattle.mseed_steim.specs.private.Lanes.{span, total}
use Rattle.mseed_steim.specs.private.Sums.{Continues, IsCounted, Puts, Takes, Walks, fold, in_places, kept_along}
use Rattle.mseed_steim.specs.private.Sums.{kept_in, kept_on, met_in, places_for, with_first}
use Rattle.mseed_steim.proofs.Far.{goes_far, sum_after, sums_kept_on}
use Rattle.mseed_steim.proofs.Folds.{fold_done, fold_ended, met_enough}
use Rattle.mseed_steim.proofs.Folded.{all_kept, joined, kept_none, length-with_first}
use Rattle.mseed_steim.proofs.FrameItems.{span-append}

pub continues_self : {keep : Option Keep} {n : ℕ} {s : Sum} {out : List ℤ}
    {items : Items} → s.met ≤ n → length out ≡ places_for keep n
    → Continues keep n s out items items out s
continues_self met places = record { folded = refl; kept = refl; met = met; places = places }

-- from what is kept so far, over the items that are left
pub walks_on : {keep : Option Keep} {n : ℕ} {s t next : Sum} {before between same after : List ℤ}
    {items later others behind : Items} → Continues keep n s before items later between t
    → later ≡ others → same ≡ between → Continues keep n t same others behind after next
    → Continues keep n s before items behind after next
walks_on {n = n} {t = t} c e f d = grind arith

-- over the same items
pub walks_over : (keep : Option Keep) (n : ℕ) (s : Sum) (before after : List ℤ)
    (items others behind : Items) (r : Result Sum ReadFault) → items ≡ others
    → Walks keep n s before others behind after r → Walks keep n s before items behind after r
walks_over keep n s before after items others behind r e w = grind arith

-- no more is needed, whatever stands after
kept_done : (keep : Option Keep) (n : ℕ) (s : Sum) (out : List ℤ) (items later : Items)
    → s.met ≡ n → kept_in keep n s out items ≡ kept_in keep n s out later
kept_done keep n s out items later e = search (arith, kept_none, met_enough)

pub continues_done : {keep : Option Keep} {n : ℕ} {s next : Sum} {before after : List ℤ}
    {items behind : Items} (later : Items)
    → Continues keep n s before items behind after next → next.met ≡ n
    → Continues keep n s before items later after next
continues_done {keep} {n} {next = next} {after = after} {behind = behind} later c e =
    grind (arith, fold_done, kept_done)

-- all places are filled, or a sample lacks
pub ends_kept : (keep : Option Keep) (n : ℕ) (s : Sum) (out : List ℤ) (items : Items)
    → length out ≡ places_for keep n → s.met ≡ n → in_places keep out ≡ kept_in keep n s out items
ends_kept None n s out items places e = refl
ends_kept (Some keep) n s out items places e = all_kept keep n s out items places e

on_any : (r : Result Sum ReadFault) (X : Type 0) → X → OnOk r X
on_any (Ok sum) X x = x
on_any (Err fault) X x = tt

pub all_ends : (keep : Option Keep) (n : ℕ) (s : Sum) (out : List ℤ) (r : Result Sum ReadFault)
    → length out ≡ places_for keep n → r ≡ fold n s [] → OnOk r (in_places keep out ≡ kept_in keep n s out [])
all_ends keep n s out r places e = search (arith, ends_kept, fold_ended, on_any)

-- what is put in its places is kept
pub puts_kept : (keep : Option Keep) (n : ℕ) (s next : Sum) (before after : List ℤ)
    (put : Keep → List ℤ) (items behind : Items)
    → ((k : Keep) → next.met ≡ s.met + length (put k)) → Puts keep s.met put before after
    → ((k : Keep) → kept_on k s.met s.last (met_in n s items)
    ≡ put k ++ kept_on k next.met next.last (met_in n next behind))
    → kept_in keep n next after behind ≡ kept_in keep n s before items
puts_kept keep n s next before after put items behind count puts met = search (arith, append_assoc)

length-kept_along : (keep : Keep) (m : ℕ) (l : ℤ) (ds : List ℤ) → length (kept_along keep m l ds) ≡ length ds
length-kept_along keep m l [] = refl
length-kept_along keep m l (d ∷ ds) = ap suc (length-kept_along keep (m + 1) (l +ℤ d) ds)

-- the first sample's difference isn't used
pub first_counted : (m : ℕ) (ds : List ℤ) → IsCounted m (with_first m (pos 0) ds)
first_counted m [] = tt
first_counted m (d ∷ ds) = λ e. rw (eq-eqb m 0 e) refl

pub first_span : (m : ℕ) (ds : List ℤ) → span (with_first m (pos 0) ds) ≤ span ds
first_span m xs = search arith

-- while the limits of 32 bits are out of reach
pub continues_near : {keep : Option Keep} {n : ℕ} {before after : List ℤ} (ds : List ℤ) (s next : Sum)
    (more : Items) → s.met + length ds ≤ n → nat_abs s.last + span (with_first s.met (pos 0) ds) < 2 ^ 31
    → next ≡ sum_after s ds
    → Puts keep s.met (λ k. kept_along k s.met s.last (with_first s.met (pos 0) ds)) before after
    → length after ≡ places_for keep n → Continues keep n s before (map Ok ds ++ more) more after next
continues_near {keep} {n} {before} {after} ds s next more room near is puts places =
    let used : List ℤ = with_first s.met (pos 0) ds in
    let far = rw (← is) at (goes_far n ds s more room near) in
    let long : length used ≡ length ds = length-with_first s.met (pos 0) ds in
    let met : next.met ≡ s.met + length ds = ap (λ (x : Sum). x.met) is in
    let last : next.last ≡ s.last +ℤ total used = ap (λ (x : Sum). x.last) is in
    record {
      folded = far.0;
      kept = puts_kept keep n s next before after (λ k. kept_along k s.met s.last used) (map Ok ds ++ more) more
          (λ k. met ∙ ap (λ (m : ℕ). s.met + m) (sym (length-kept_along k s.met s.last used ∙ long))) puts
          (λ k. ap (kept_on k s.met s.last) far.1 ∙ rw (met, last, ← long) (sums_kept_on k s.met s.last used _
          (first_counted s.met ds)));
      met = omega (arith, met, room);
      places = places;
    }

-- where nothing is kept, the sum alone goes on
pub nothing_kept : (keep : Option Keep) (task : Task) (p : List ℕ) (i : ℕ) (s : Sum) (out : List ℤ)
    (o : Option Taken) → keep ≡ None → length out ≡ places_for keep task.samples
    → IfSome o (Takes None task p i s [] []) → IfSome o (Takes keep task p i s out out)
nothing_kept keep task p i s out o e places takes = search arith

-- Differences of which the first alone are needed: those after them aren't looked at.
parts : (k count : ℕ) (ds : List ℤ) → k ≤ count → take count ds ≡ take k ds ++ drop k (take count ds)
parts k count ds less =
    sym (take-append-drop k (take count ds))
    ∙ ap (λ (xs : List ℤ). xs ++ drop k (take count ds)) (take-take k count ds less)

cut : (k count : ℕ) (ds : List ℤ) (rest : Items) → k ≤ count
    → map Ok (take count ds) ++ rest ≡ map Ok (take k ds) ++ (map Ok (drop k (take count ds)) ++ rest)
cut k count ds rest less = grind (arith, joined, parts)

-- all are taken, or as many as are needed
all_or_enough : (count left k : ℕ) → k ≡ min count left → (k ≡ count) ⊎ ((k ≡ left) × (k ≤ count))
all_or_enough count left k e = search arith

enough : (keep : Option Keep) (n : ℕ) (s : Sum) (ds : List ℤ) (count k : ℕ) (before after : List ℤ)
    (rest : Items) (r : Result Sum ReadFault) → k ≤ count → s.met + k ≡ n
    → ((more : Items) → Walks keep n s before (map Ok (take k ds) ++ more) more after r)
    → IfOk r (λ next. next.met ≡ s.met + k) → Walks keep n s before (map Ok (take count ds) ++ rest) rest after r
enough keep n s ds count k before after rest (Ok next) less all walks met =
    let behind : Items = map Ok (drop k (take count ds)) ++ rest in
    continues_done rest
    (walks_over keep n s before after (map Ok (take count ds) ++ rest) (map Ok (take k ds) ++ behind) behind (Ok next)
    (cut k count ds rest less) (walks behind)) (met ∙ all)
enough keep n s ds count k before after rest (Err fault) less all walks met = ap (fold n s) (cut k count ds rest less)
    ∙ walks (map Ok (drop k (take count ds)) ++ rest)

-- a walk over the first of them, as far as they are needed, is one over all
pub walks_needed : (keep : Option Keep) (n : ℕ) (s : Sum) (ds : List ℤ) (count k : ℕ) (before after : List ℤ)
    (rest : Items) (r : Result Sum ReadFault) → s.met ≤ n → k ≡ min count (n - s.met)
    → ((more : Items) → Walks keep n s before (map Ok (take k ds) ++ more) more after r)
    → IfOk r (λ next. next.met ≡ s.met + k) → Walks keep n s before (map Ok (take count ds) ++ rest) rest after r
walks_needed keep n s ds count k before after rest r inside e walks met = search (arith, all_or_enough, enough)

-- the first of them go no further than all do
pub span_needed : (ds : List ℤ) (k count : ℕ) → k ≤ count → span (take k ds) ≤ span (take count ds)
span_needed ds k count less =
    let all = ap span (parts k count ds less) ∙ span-append (take k ds) (drop k (take count ds)) in
    omega (arith, all)
