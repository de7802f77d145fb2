-- The leap seconds before a sample, and the next one.
use Rattle.std.proofs.Common.{◌≡◌, ℕ, ◌+◌, ◌^◌, ◌<◌, ◌≤◌, List, [], ◌∷◌, ◌++◌, length, take, drop}
use Rattle.std.proofs.Common.{get_or, refl, sym, ap, ◌∙◌, arith, ◌+ℤ◌, ◌-ℤ◌, Option, Some, None}
use Rattle.std.proofs.Common.{nat_abs, inl, inr}
use Rattle.std.specs.List.{AllByRecursion}
use Rattle.std.proofs.lemmas.Bool.{cases_lt, eq-eqb, le-leb, le-ltb, lt-ltb, ne_eqb}
use Rattle.std.proofs.lemmas.Int.{ints}
use Rattle.std.proofs.lemmas.List.{drop_all, drop_more, take_more, take-append-drop}
use Rattle.mseed_time.specs.declared.outcome.LeapStep.{LeapStep}
use Rattle.mseed_time.specs.declared.outcome.LeapStep.TheVariants.{Plus, Minus}
use Rattle.mseed_time.specs.Join.{step_of}
use Rattle.mseed_audit.specs.Series.{AreStepsFrom, AreSteps}
use Rattle.mseed_pack.specs.declared.span.Span.{Span}
use Rattle.mseed_pack.specs.Clock.{added_before}
use Rattle.mseed_pack.specs.private.Spans.{end_by, IsSpan}
use Rattle.mseed_pack.proofs.Leaps.{Before, before, end_in, passes, step_in}

-- of two parts of the leap seconds, the first of which stands up to a place: what is so at a later place
record Skips (steps xs ys : List (ℕ × LeapStep)) (size a n : ℕ) : Type 0 where
  added : added_before steps n ≡ added_before xs a +ℤ added_before ys n
  end_is : end_in steps size n ≡ end_in ys size n
  step_is : a < n → step_in steps n ≡ step_in ys n

skips : (xs ys : List (ℕ × LeapStep)) (size a n : ℕ) → AllByRecursion (λ (x : ℕ × LeapStep). x.0 ≤ a) xs → a ≤ n
    → Skips (xs ++ ys) xs ys size a n
skips [] ys size a n h l = record { added = omega (arith, ints); end_is = refl; step_is = λ _. refl }
skips (x ∷ xs) ys size a n h l =
    let rest = skips xs ys size a n h.1 l in
    record {
      added = rw (le-leb x.0 a h.0, le-leb x.0 n (omega (arith, h.0, l))) (omega (arith, ints, rest.added));
      end_is = rw (le-ltb n x.0 (omega (arith, h.0, l))) rest.end_is;
      step_is = λ less. rw (ne_eqb x.0 n (λ e. omega (arith, h.0, less, e))) (rest.step_is less);
    }

-- before the next one
here : (xs : List (ℕ × LeapStep)) (low size n : ℕ) → AreStepsFrom low size xs → n < end_by xs size → Before xs n
here [] low size n h l = before n size [] n (omega arith) tt
here (x ∷ xs) low size n h l = before n size (x ∷ xs) n (omega arith) (l, h.1, h.2)

end_prefix : (xs : List (ℕ × LeapStep)) (size n : ℕ) → n < end_by xs size → end_in xs size n ≡ end_by xs size
end_prefix [] size n l = refl
end_prefix (x ∷ xs) size n l = rw (lt-ltb n x.0 l)

-- the one at a record's end
abbrev pub kind_by : List (ℕ × LeapStep) → Option LeapStep
kind_by [] = None
kind_by (x ∷ xs) = Some x.1

at_end : (xs : List (ℕ × LeapStep)) (size n : ℕ) → n ≡ end_by xs size → step_in xs n ≡ kind_by xs
at_end [] size n e = refl
at_end (x ∷ xs) size n e = rw (eq-eqb x.0 n (sym e))

-- all are before a later sample, too, and one more
before_more : (xs : List (ℕ × LeapStep)) (x : ℕ × LeapStep) (a : ℕ) → AllByRecursion (λ (y : ℕ × LeapStep). y.0 ≤ a) xs
    → a ≤ x.0 → AllByRecursion (λ (y : ℕ × LeapStep). y.0 ≤ x.0) (xs ++ x ∷ [])
before_more [] x a h l = (omega arith, tt)
before_more (y ∷ xs) x a h l = (omega (arith, h.0, l), before_more xs x a h.1 l)

step_bound : (o : Option LeapStep) → nat_abs (step_of o) ≤ 10 ^ 6
step_bound None = omega arith
step_bound (Some Plus) = omega arith
step_bound (Some Minus) = omega arith

-- between a sample and the next one there is one leap second at most
end_later : (steps : List (ℕ × LeapStep)) (size n : ℕ) → n < size → n < end_in steps size n
end_later [] size n h = h
end_later (t ∷ ts) size n h = elim (cases_lt n t.0) [
  | inl next ↦ rw (lt-ltb n t.0 next) next
  | inr past ↦ rw (le-ltb n t.0 past) (end_later ts size n h)
]

pub added_near : (steps : List (ℕ × LeapStep)) (size n : ℕ) → AreSteps size steps → n < size
    → nat_abs (added_before steps (n + 1) -ℤ added_before steps n) ≤ 10 ^ 6
added_near steps size n are h =
    let more = end_later steps size n h in
    let pass = passes 0 size steps n 1 are (omega arith) (omega (arith, more)) in
    omega (arith, ints, pass.added, step_bound (step_in steps (n + 1)))

-- a span ends within all, and has some samples where any are left
pub ended : (left : List (ℕ × LeapStep)) (size begin end : ℕ) → AreStepsFrom begin size left → end ≡ end_by left size
    → (end ≤ size) × (begin < size → begin < end)
ended [] size begin end b e = (omega (arith, e), λ l. omega (arith, e, l))
ended (x ∷ left) size begin end b e = (omega (arith, b.1, e), λ l. omega (arith, b.0, e))

-- what is so of a span, and of the one after it
module _ {steps : List (ℕ × LeapStep)} {size : ℕ} {span : Span} (h : IsSpan steps size span) where
  skipped : (n : ℕ) → span.begin ≤ n
      → Skips steps (take span.passed steps) (drop span.passed steps) size span.begin n
  skipped n low =
      rw take-append-drop at (skips (take span.passed steps) (drop span.passed steps) size span.begin n h.before low)

  none_here : (n : ℕ) → n < span.end → Before (drop span.passed steps) n
  none_here n high = here (drop span.passed steps) span.begin size n h.behind (omega arith)

  pub end_at : (n : ℕ) → span.begin ≤ n → n < span.end → end_in steps size n ≡ span.end
  end_at n low high =
      (skipped n low).end_is ∙ end_prefix (drop span.passed steps) size n (omega arith) ∙ sym h.end_is

  pub added_at : (n : ℕ) → span.begin ≤ n → n < span.end → added_before steps n ≡ span.added
  added_at n low high = omega (arith, ints, (skipped n low).added, (none_here n high).added)

  pub none_after : (n : ℕ) → span.begin < n → n < span.end → step_in steps n ≡ None
  none_after n low high = (skipped n (omega arith)).step_is low ∙ (none_here n high).none

  pub one_after : (n : ℕ) → span.begin < n → n ≡ span.end → step_in steps n ≡ kind_by (drop span.passed steps)
  one_after n low e =
      (skipped n (omega arith)).step_is low ∙ at_end (drop span.passed steps) size n (e ∙ h.end_is)

  -- a leap second stands at the end of one that isn't the last
  some_left : span.end < size → span.passed < length steps
  some_left more = elim (cases_lt span.passed (length steps)) [
    | inl some ↦ some
    | inr past ↦ absurd (omega (arith, rw (drop_all span.passed steps past) at h.end_is))
  ]

  -- the next span, by that leap second
  pub next_is : (next : Span) (d : ℕ × LeapStep) → span.end < size → next.passed ≡ span.passed + 1
      → next.begin ≡ span.end → next.added ≡ span.added +ℤ step_of (Some (get_or steps span.passed d).1)
      → next.end ≡ end_by (drop next.passed steps) size → IsSpan steps size next
  next_is next d more p b a e =
      let some = some_left more in
      let x = get_or steps span.passed d in
      let left : drop span.passed steps ≡ x ∷ drop (span.passed + 1) steps = drop_more steps span.passed d some in
      let behind = rw left at h.behind in
      let begin_is : next.begin ≡ x.0 = b ∙ (rw left at h.end_is) in
      let taken : take next.passed steps ≡ take span.passed steps ++ x ∷ [] =
      ap (λ (n : ℕ). take n steps) p ∙ take_more steps span.passed d some in
      let sum = (skips (take span.passed steps) (x ∷ []) size span.begin x.0 h.before (omega
      (arith, behind.0))).added in
      let within = ended (drop next.passed steps) size next.begin next.end (rw (p, begin_is) behind.2) e in
      let one : added_before (x ∷ []) x.0 ≡ step_of (Some x.1) =
      rw (le-leb x.0 x.0 (omega arith)) (omega (arith, ints)) in
      record {
        few = omega (arith, some, p);
        before = rw (taken, begin_is)
            (before_more (take span.passed steps) x span.begin h.before (omega (arith, behind.0)));
        behind = rw (p, begin_is) behind.2;
        end_is = e;
        added_is = rw (taken, begin_is) (omega (arith, ints, a, sum, one, h.added_is));
        added_bound = omega (arith, ints, a, h.added_bound, p, step_bound (Some x.1));
        most = within.0;
        some = within.1;
      }

-- the leap second that comes next
pub kind_some : (steps : List (ℕ × LeapStep)) (place : ℕ) (d : ℕ × LeapStep) → place < length steps
    → kind_by (drop place steps) ≡ Some (get_or steps place d).1
kind_some steps place d l = rw (drop_more steps place d l)
