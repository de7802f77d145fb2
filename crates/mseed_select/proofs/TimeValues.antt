-- The texts of a time of day are those that its clock text is filled up from.
use Rattle.std.proofs.Common.{◌≡◌, ◌⊎◌, ℕ, zero, suc, ◌+◌, ◌/◌, ◌%◌, ◌<◌, ◌≤◌, refl, sym, ap, ◌∙◌, arith}
use Rattle.std.proofs.Common.{List, [], ◌∷◌, ◌++◌, length, take, drop, replicate, inl, inr, append_assoc}
use Rattle.std.specs.Prelude.{codes}
use Rattle.std.proofs.lemmas.List.{length-append, length-replicate}
use Rattle.mseed_time.specs.Text.{clock_text, padded_decimal}
use Rattle.mseed_select.specs.TimeTexts.{IsClockText, IsLeapText, IsOneOf, endings}
use Rattle.mseed_select.specs.Word.{number_of}
use Rattle.mseed_select.proofs.Padded.{IsFraction, number_of-2, number_of-6}
use Rattle.mseed_select.proofs.TimeClocks.{IsForm, IsShape, fine_text, hour_text, minute_text, second_text, value_of}
use Rattle.mseed_select.proofs.TimeParts.{cut_after, exactly}

-- the whole text of some fields
abbrev whole_text : ℕ → ℕ → ℕ → ℕ → List ℕ
whole_text h m s u = 84 ∷ fine_text h m s (padded_decimal 6 u)

clock_fields : (h m s u : ℕ) → h ≤ 23 → m ≤ 59 → s ≤ 59 → u < 1_000_000
    → codes "T" ++ clock_text (value_of h m s u) ≡ whole_text h m s u
clock_fields h m s u k l n o =
    let hour : value_of h m s u / 3_600_000_000 ≡ h = omega arith in
    let minute : value_of h m s u / 60_000_000 % 60 ≡ m = omega arith in
    let second : value_of h m s u / 1_000_000 % 60 ≡ s = omega arith in
    let micros : value_of h m s u % 1_000_000 ≡ u = omega arith in
    λ i. whole_text (hour i) (minute i) (second i) (micros i)

-- ---- of fields
zeros_end : (j : ℕ) → j ≤ 5 → IsOneOf endings (replicate j 48)
zeros_end zero h = inl refl
zeros_end (suc zero) h = inr (inl refl)
zeros_end (suc (suc zero)) h = inr (inr (inl refl))
zeros_end (suc (suc (suc zero))) h = inr (inr (inr (inl refl)))
zeros_end (suc (suc (suc (suc zero)))) h = inr (inr (inr (inr (inl refl))))
zeros_end (suc (suc (suc (suc (suc zero))))) h = inr (inr (inr (inr (inr (inl refl)))))
zeros_end (suc (suc (suc (suc (suc (suc j)))))) h = absurd (omega (arith, h))

pub shape_text : (text : List ℕ) (h m s u : ℕ) → IsShape text h m s u → s ≤ 59
    → IsClockText (84 ∷ text) (value_of h m s u)
shape_text text h m s u is few = by is.form
  where
    ends : (ending : List ℕ) → IsOneOf endings ending → text ++ ending ≡ fine_text h m s (padded_decimal 6 u)
        → u < 1_000_000 → IsClockText (84 ∷ text) (value_of h m s u)
    ends ending left_out e below = record {
      within = omega (arith, is.hour, is.minute, few, below);
      ending = ending;
      left_out = left_out;
      whole = rw (clock_fields h m s u is.hour is.minute few below, e) refl;
    }

    by : IsForm text h m s u → IsClockText (84 ∷ text) (value_of h m s u)
    by (inl a) = ends (codes ":00:00.000000") (inr (inr (inr (inr (inr (inr (inr (inr (inl refl)))))))))
        (rw (a.0, a.1, a.2, a.3) refl) (omega (arith, a.3))
    by (inr (inl a)) = ends (codes ":00.000000") (inr (inr (inr (inr (inr (inr (inr (inl refl))))))))
        (rw (a.0, a.1, a.2) refl) (omega (arith, a.2))
    by (inr (inr (inl a))) = ends (codes ".000000") (inr (inr (inr (inr (inr (inr (inl refl)))))))
        (rw (a.0, a.1) refl) (omega (arith, a.1))
    by (inr (inr (inr a))) =
        ends (replicate a.2.zeros 48) (zeros_end a.2.zeros a.2.few) (rw (a.1, a.2.whole) refl) a.2.below

-- ---- of a text
pub record IsOfBody (text : List ℕ) (micros : ℕ) : Type 0 where
  pub body : List ℕ
  pub h : ℕ
  pub m : ℕ
  pub s : ℕ
  pub u : ℕ
  pub text_is : text ≡ 84 ∷ body
  pub shape : IsShape body h m s u
  pub value_is : value_of h m s u ≡ micros

-- the fields of so many microseconds
abbrev hour_in : ℕ → ℕ
hour_in t = t / 3_600_000_000

abbrev minute_in : ℕ → ℕ
minute_in t = t / 60_000_000 % 60

abbrev second_in : ℕ → ℕ
second_in t = t / 1_000_000 % 60

abbrev micros_in : ℕ → ℕ
micros_in t = t % 1_000_000

made : (text body : List ℕ) (t : ℕ) → t < 86_400_000_000 → text ≡ 84 ∷ body
    → IsForm body (hour_in t) (minute_in t) (second_in t) (micros_in t) → IsOfBody text t
made text body t within is form = record {
  body = body;
  h = hour_in t;
  m = minute_in t;
  s = second_in t;
  u = micros_in t;
  text_is = is;
  shape = record { hour = omega arith; minute = omega arith; second = omega arith; form = form };
  value_is = omega arith;
}

abbrev AsWhole : List ℕ → List ℕ → ℕ → Type 0
AsWhole text ending t = text ++ ending ≡ whole_text (hour_in t) (minute_in t) (second_in t) (micros_in t)

of_fine : (text : List ℕ) (t j : ℕ) → t < 86_400_000_000 → j ≤ 5 → AsWhole text (replicate j 48) t → IsOfBody text t
of_fine text t j within few e =
    let front : List ℕ = 84 ∷ fine_text (hour_in t) (minute_in t) (second_in t) [] in
    let long : length text + j ≡ 16 =
    omega (arith, length-append {A = ℕ}, length-replicate {A = ℕ}, ap (λ (xs : List ℕ). length xs) e) in
    let cut =
    cut_after front (padded_decimal 6 (micros_in t)) text (replicate j 48) e (omega (arith, long, few)) in
    let fraction : IsFraction cut.0 (micros_in t) =
    record { zeros = j; few = few; below = omega arith; whole = cut.1.rest_is } in
    made text (fine_text (hour_in t) (minute_in t) (second_in t) cut.0) t within cut.1.whole_is
    (inr (inr (inr (cut.0, refl, fraction))))

-- zeros at the end
zeros : (m s u : ℕ) → m < 60 → s < 60 → u < 1_000_000
    → codes ":00:00.000000" ≡ 58 ∷ (padded_decimal 2 m ++ 58 ∷ (padded_decimal 2 s ++ 46 ∷ padded_decimal 6 u))
    → (m ≡ 0) × (s ≡ 0) × (u ≡ 0)
zeros m s u k l n e = (
  sym (ap (λ (xs : List ℕ). number_of (take 2 (drop 1 xs))) e ∙ number_of-2 m (omega (arith, k))),
  sym (ap (λ (xs : List ℕ). number_of (take 2 (drop 4 xs))) e ∙ number_of-2 s (omega (arith, l))),
  sym (ap (λ (xs : List ℕ). number_of (drop 7 xs)) e ∙ number_of-6 u n),
)

of_second : (text : List ℕ) (t : ℕ) → t < 86_400_000_000 → AsWhole text (codes ".000000") t → IsOfBody text t
of_second text t within e =
    let both =
    exactly (84 ∷ second_text (hour_in t) (minute_in t) (second_in t)) (46 ∷ padded_decimal 6 (micros_in t))
    text (codes ".000000") e refl in
    let none = zeros 0 0 (micros_in t) (omega arith) (omega arith) (omega arith)
    (ap (λ (xs : List ℕ). codes ":00:00" ++ xs) both.1) in
    made text (second_text (hour_in t) (minute_in t) (second_in t)) t within both.0 (inr (inr (inl (refl, none.2))))

of_minute : (text : List ℕ) (t : ℕ) → t < 86_400_000_000 → AsWhole text (codes ":00.000000") t → IsOfBody text t
of_minute text t within e =
    let both = exactly (84 ∷ minute_text (hour_in t) (minute_in t))
    (58 ∷ (padded_decimal 2 (second_in t) ++ 46 ∷ padded_decimal 6 (micros_in t))) text (codes ":00.000000") e refl in
    let none = zeros 0 (second_in t) (micros_in t) (omega arith) (omega arith) (omega arith)
    (ap (λ (xs : List ℕ). codes ":00" ++ xs) both.1) in
    made text (minute_text (hour_in t) (minute_in t)) t within both.0 (inr (inl (refl, none.1, none.2)))

-- what stands behind the hour
abbrev behind_hour : ℕ → List ℕ
behind_hour t =
    58 ∷ (padded_decimal 2 (minute_in t) ++ 58
    ∷ (padded_decimal 2 (second_in t) ++ 46 ∷ padded_decimal 6 (micros_in t)))

of_hour : (text : List ℕ) (t : ℕ) → t < 86_400_000_000 → AsWhole text (codes ":00:00.000000") t → IsOfBody text t
of_hour text t within e =
    let both = exactly (84 ∷ hour_text (hour_in t)) (behind_hour t) text (codes ":00:00.000000") e refl in
    let none =
    zeros (minute_in t) (second_in t) (micros_in t) (omega arith) (omega arith) (omega arith) both.1 in
    made text (hour_text (hour_in t)) t within both.0 (inl (refl, none.0, none.1, none.2))

of_nothing : (text : List ℕ) (t : ℕ) → t < 86_400_000_000 → AsWhole text (codes "T00:00:00.000000") t
    → (text ≡ []) × (t ≡ 0)
of_nothing text t within e =
    let both =
    exactly [] (84 ∷ (padded_decimal 2 (hour_in t) ++ behind_hour t)) text (codes "T00:00:00.000000") e
    refl in
    let none = zeros (minute_in t) (second_in t) (micros_in t) (omega arith) (omega arith) (omega arith)
    (ap (λ (xs : List ℕ). drop 3 xs) both.1) in
    let hour : 0 ≡ hour_in t = ap (λ (xs : List ℕ). number_of (take 2 (drop 1 xs))) both.1
    ∙ number_of-2 (hour_in t) (omega (arith, within)) in
    (both.0, omega (arith, hour, none.0, none.1, none.2))

pub text_shape : (text : List ℕ) (t : ℕ) → IsClockText text t → ((text ≡ []) × (t ≡ 0)) ⊎ IsOfBody text t
text_shape text t is = by is.left_out
  where
    by : IsOneOf endings is.ending → ((text ≡ []) × (t ≡ 0)) ⊎ IsOfBody text t
    by (inl e) = inr (of_fine text t 0 is.within (omega arith) (rw e at is.whole))
    by (inr (inl e)) = inr (of_fine text t 1 is.within (omega arith) (rw e at is.whole))
    by (inr (inr (inl e))) = inr (of_fine text t 2 is.within (omega arith) (rw e at is.whole))
    by (inr (inr (inr (inl e)))) = inr (of_fine text t 3 is.within (omega arith) (rw e at is.whole))
    by (inr (inr (inr (inr (inl e))))) = inr (of_fine text t 4 is.within (omega arith) (rw e at is.whole))
    by (inr (inr (inr (inr (inr (inl e)))))) = inr (of_fine text t 5 is.within (omega arith) (rw e at is.whole))
    by (inr (inr (inr (inr (inr (inr (inl e))))))) = inr (of_second text t is.within (rw e at is.whole))
    by (inr (inr (inr (inr (inr (inr (inr (inl e)))))))) = inr (of_minute text t is.within (rw e at is.whole))
    by (inr (inr (inr (inr (inr (inr (inr (inr (inl e))))))))) =
        inr (of_hour text t is.within (rw e at is.whole))
    by (inr (inr (inr (inr (inr (inr (inr (inr (inr (inl e)))))))))) =
        inl (of_nothing text t is.within (rw e at is.whole))
    by (inr (inr (inr (inr (inr (inr (inr (inr (inr (inr none)))))))))) = absurd none

-- ---- second 60
abbrev minute_front : ℕ → ℕ → List ℕ
minute_front h m = 84 ∷ (padded_decimal 2 h ++ 58 ∷ (padded_decimal 2 m ++ 58 ∷ []))

pub shape_leap : (text : List ℕ) (h m s u : ℕ) → IsShape text h m s u → s ≡ 60
    → IsLeapText (84 ∷ text) (value_of h m s u)
shape_leap text h m s u is sixty = by is.form
  where
    whole : (tail : List ℕ) → text ≡ second_text h m s ++ tail → IsForm (second_text h m 59 ++ tail) h m 59 u
        → IsLeapText (84 ∷ text) (value_of h m s u)
    whole tail e form = record {
      minute = minute_front h m;
      fraction = tail;
      before = value_of h m 59 u;
      minute_is = refl;
      text_is = rw (e, sixty) refl;
      before_is = shape_text (second_text h m 59 ++ tail) h m 59 u
          (record { hour = is.hour; minute = is.minute; second = omega arith; form = form }) (omega arith);
      micros_is = omega (arith, sixty);
    }

    by : IsForm text h m s u → IsLeapText (84 ∷ text) (value_of h m s u)
    by (inl a) = absurd (omega (arith, sixty, a.2))
    by (inr (inl a)) = absurd (omega (arith, sixty, a.1))
    by (inr (inr (inl a))) = whole [] a.0 (inr (inr (inl (refl, a.1))))
    by (inr (inr (inr a))) = whole (46 ∷ a.0) a.1 (inr (inr (inr (a.0, refl, a.2))))

pub leap_shape : (text : List ℕ) (t : ℕ) → IsLeapText text t → IsOfBody text t
leap_shape text t is = by (text_shape (is.minute ++ codes "59" ++ is.fraction) is.before is.before_is)
  where
    long : length (is.minute ++ codes "59" ++ is.fraction) ≡ 9 + length is.fraction
    long = omega (arith, is.minute_is, length-append {A = ℕ})

    whole : (o : IsOfBody (is.minute ++ codes "59" ++ is.fraction) is.before) (tail : List ℕ)
        → o.body ≡ second_text o.h o.m o.s ++ tail → IsForm (second_text o.h o.m 60 ++ tail) o.h o.m 60 o.u
        → IsOfBody text t
    whole o tail e form =
        let all : is.minute ++ (codes "59" ++ is.fraction) ≡ minute_front o.h o.m ++ (padded_decimal 2 o.s ++ tail) =
        sym (append_assoc is.minute (codes "59") is.fraction) ∙ rw e at o.text_is in
        let size : length is.fraction ≡ length tail = omega (arith, long, ap length (rw e at o.text_is)) in
        let both =
        exactly (minute_front o.h o.m) (padded_decimal 2 o.s ++ tail) is.minute (codes "59" ++ is.fraction)
        all (omega (arith, size)) in
        let second : 59 ≡ o.s = ap (λ (xs : List ℕ). number_of (take 2 xs)) both.1
        ∙ number_of-2 o.s (omega (arith, o.shape.second)) in
        let fraction : is.fraction ≡ tail = ap (λ (xs : List ℕ). drop 2 xs) both.1 in record {
          body = second_text o.h o.m 60 ++ tail;
          h = o.h;
          m = o.m;
          s = 60;
          u = o.u;
          text_is = rw (is.text_is, both.0, fraction) refl;
          shape = record { hour = o.shape.hour; minute = o.shape.minute; second = omega arith; form = form };
          value_is = omega (arith, second, o.value_is, is.micros_is);
        }

    by_form : (o : IsOfBody (is.minute ++ codes "59" ++ is.fraction) is.before) → IsForm o.body o.h o.m o.s o.u
        → IsOfBody text t
    by_form o (inl a) = absurd (omega (arith, long, ap length (rw a.0 at o.text_is)))
    by_form o (inr (inl a)) = absurd (omega (arith, long, ap length (rw a.0 at o.text_is)))
    by_form o (inr (inr (inl a))) = whole o [] a.0 (inr (inr (inl (refl, a.1))))
    by_form o (inr (inr (inr a))) = whole o (46 ∷ a.0) a.1 (inr (inr (inr (a.0, refl, a.2))))

    by : (((is.minute ++ codes "59" ++ is.fraction) ≡ []) × (is.before ≡ 0))
        ⊎ IsOfBody (is.minute ++ codes "59" ++ is.fraction) is.before → IsOfBody text t
    by (inl none) = absurd (omega (arith, long, ap length none.0))
    by (inr o) = by_form o o.shape.form
