-- A word is read as an instant exactly where it is a text of it.
use Rattle.std.proofs.Common.{◌≡◌, ◌⊎◌, ℕ, ◌+◌, ◌-◌, ◌*◌, ◌/◌, ◌%◌, ◌<◌, ◌≤◌, refl, sym, ap, ◌∙◌, arith, Bool}
use Rattle.std.proofs.Common.{false, eqb, List, [], ◌∷◌, ◌++◌, length, take, get_or, Option, Some, inl}
use Rattle.std.proofs.Common.{inr}
use Rattle.std.proofs.Common.{ℤ, pos, negsuc, ◌+ℤ◌, unsigned_abs, ◌≤ℤ◌, ◌<ℤ◌}
use Rattle.std.specs.Prelude.{codes}
use Rattle.std.specs.List.{join_with_byte, slice_split}
use Rattle.std.proofs.lemmas.Bool.{cases_Bool, cases_lt, eqb-true}
use Rattle.std.proofs.lemmas.Bool.Decides.{nat_tests}
use Rattle.std.proofs.lemmas.List.{append-nil, get_or_at, length-append, take_all, take_at, take_more}
use Rattle.jiff_core.proofs.SignedLemmas.{signed_arith}
use Rattle.mseed_time.specs.Btime.{microsecond_of}
use Rattle.mseed_time.specs.Calendar.{year_start}
use Rattle.mseed_time.specs.Naming.{year_begins}
use Rattle.mseed_time.specs.Text.{clock_text, date_text, padded_decimal, since_1800, time_text}
use Rattle.mseed_time.proofs.Dating.{day_of-place, microsecond_of-days}
use Rattle.mseed_select.specs.declared.clocks.Clock.{Clock}
use Rattle.mseed_select.specs.declared.dates.Date.{Date}
use Rattle.mseed_select.specs.TimeTexts.{IsClockText, IsLeapText, IsWordFor}
use Rattle.mseed_select.specs.Word.{clock_of, date_of, instant_at, instant_by, midnight, time_by_parts, time_of}
use Rattle.mseed_select.specs.Word.{without_zone}
use Rattle.mseed_select.proofs.Padded.{Lacks, digits_lack, lacks_both, fraction_digits, padded_lack}
use Rattle.mseed_select.proofs.TimeParts.{joined, lacks_at, one_part, two_parts}
use Rattle.mseed_select.proofs.TimeClocks.{IsForm, IsShape, clock_read}
use Rattle.mseed_select.proofs.TimeClocks.{shape_read, value_of}
use Rattle.mseed_select.proofs.TimeValues.{IsOfBody, leap_shape, shape_leap, shape_text, text_shape}
use Rattle.mseed_select.proofs.TimeDates.{IsDayShape, date_lacks, date_read, day_shape, day_shape_read}
use Rattle.mseed_select.proofs.TimeDates.{shape_day}

-- ---- the instant of fields
instant_is : (y n h m s u : ℕ) → 1800 ≤ y → 1 ≤ n
    → instant_at (record { year = y; day = n }) (record { hour = h; minute = m; second = s; micros = u })
    +ℤ pos 5_364_662_400_000_000 ≡ pos (86_400_000_000 * (year_start y + n - 1) + value_of h m s u)
instant_is y n h m s u low first =
    let whole = microsecond_of-days
    (record { year = y; day = n; hour = h; minute = m; second = s; fraction = 0 }) (year_start y + (n - 1))
    (day_of-place y n low first) in
    let day : year_start y + n - 1 ≡ year_start y + (n - 1) = omega (arith, first) in
    rw day (by (microsecond_of (record { year = y; day = n; hour = h; minute = m; second = s; fraction = 0 }))
    (year_start y + (n - 1)) whole)
  where
    by : (w : ℤ) (d : ℕ) → w +ℤ pos 5_364_662_400_000_000
        ≡ pos (((d * 24 + h) * 60 + m) * 60 * 1_000_000 + s * 1_000_000 + 0 * 100)
        → w +ℤ pos u +ℤ pos 5_364_662_400_000_000 ≡ pos (86_400_000_000 * d + value_of h m s u)
    by w d e = omega (arith, signed_arith, e)

-- an instant is known by its microseconds from 1800
same_instant : (a b : ℤ) (x y : ℕ) → a +ℤ pos 5_364_662_400_000_000 ≡ pos x → b +ℤ pos 5_364_662_400_000_000 ≡ pos y
    → x ≡ y → a ≡ b
same_instant a b x y e f g = omega (arith, signed_arith, e, f, g)

-- ---- the zone
abbrev zone_test : List ℕ → Bool
zone_test word = eqb (get_or word (length word - 1) 0) 90

no_zone : (word : List ℕ) → Lacks 90 word → without_zone word ≡ word
no_zone word none = rw (lacks_at 90 word (length word - 1) (omega arith) none) refl

a_zone : (front : List ℕ) → without_zone (front ++ 90 ∷ []) ≡ front
a_zone front =
    let last : length (front ++ 90 ∷ []) - 1 ≡ length front = omega (arith, length-append front (90 ∷ [])) in
    rw (last, get_or_at front 90 [] 0 (length front) refl) (take_at front (90 ∷ []) (length front) refl)

some_before : (word : List ℕ) → get_or word (length word - 1) 0 ≡ 90 → 1 ≤ length word
some_before [] last = absurd (omega (arith, last))
some_before (x ∷ xs) last = omega arith

-- what a word is without its zone
has_zone : (word : List ℕ)
    → (zone : List ℕ) × ((zone ≡ []) ⊎ (zone ≡ codes "Z")) × (word ≡ without_zone word ++ zone)
has_zone word = elim (cases_Bool (zone_test word)) [
  | inl e ↦
      let last : get_or word (length word - 1) 0 ≡ 90 = eqb-true (get_or word (length word - 1) 0) 90 e in
      let some = some_before word last in
      let whole = take_more word (length word - 1) 0 (omega (arith, some)) in
      let all : word ≡ take (length word - 1) word ++ codes "Z" =
      sym (take_all (length word - 1 + 1) word (omega (arith, some))) ∙ rw last at whole in
      (codes "Z", inr refl, rw e all)
  | inr e ↦ ([], inl refl, rw e (sym (append-nil word)))
]

-- ---- no character of a time of day is one past `:`
clock_lacks : (c : ℕ) (text : List ℕ) (h m s u : ℕ) → 58 < c → IsShape text h m s u → Lacks c text
clock_lacks c text h m s u over is = by is.form
  where
    digits : (x : ℕ) → Lacks c (padded_decimal 2 x)
    digits x = padded_lack c 2 x (inl (omega (arith, over)))

    next : (x b : ℕ) (rest : List ℕ) → b ≤ 58 → Lacks c rest → Lacks c (padded_decimal 2 x ++ b ∷ rest)
    next x b rest few none =
        let other : eqb b c ≡ false = grind (arith, nat_tests, over, few) in
        lacks_both c (padded_decimal 2 x) b rest (digits x) other none

    by : IsForm text h m s u → Lacks c text
    by (inl a) = rw a.0 (digits h)
    by (inr (inl a)) = rw a.0 (next h 58 (padded_decimal 2 m) (omega arith) (digits m))
    by (inr (inr (inl a))) = rw a.0 (next h 58 (padded_decimal 2 m ++ 58 ∷ padded_decimal 2 s) (omega arith)
        (next m 58 (padded_decimal 2 s) (omega arith) (digits s)))
    by (inr (inr (inr a))) = rw a.1 (next h 58 (padded_decimal 2 m ++ 58 ∷ (padded_decimal 2 s ++ 46 ∷ a.0))
        (omega arith) (next m 58 (padded_decimal 2 s ++ 46 ∷ a.0) (omega arith)
        (next s 46 a.0 (omega arith) (digits_lack c a.0 (inl (omega (arith, over))) (fraction_digits a.0 u a.2)))))

-- ---- what a word without its zone is read as
alone_read : (date : List ℕ) (y n : ℕ) → IsDayShape date y n
    → time_by_parts (slice_split (λ (x : ℕ). eqb x 84) date)
    ≡ Some (instant_at (record { year = y; day = n }) (record { hour = 0; minute = 0; second = 0; micros = 0 }))
alone_read date y n is =
    rw (one_part 84 date (date_lacks 84 date y n (omega arith) is), day_shape_read date y n is) refl

both_read : (date body : List ℕ) (y n h m s u : ℕ) → IsDayShape date y n → IsShape body h m s u
    → time_by_parts (slice_split (λ (x : ℕ). eqb x 84) (date ++ 84 ∷ body))
    ≡ Some (instant_at (record { year = y; day = n }) (record { hour = h; minute = m; second = s; micros = u }))
both_read date body y n h m s u is shape =
    rw (two_parts 84 date body (date_lacks 84 date y n (omega arith) is)
    (clock_lacks 84 body h m s u (omega arith) shape))
    (rw (day_shape_read date y n is, shape_read body h m s u shape) refl)

-- a word by its parts
word_read : (word front zone : List ℕ) (o : Option ℤ) → Lacks 90 front → (zone ≡ []) ⊎ (zone ≡ codes "Z")
    → word ≡ front ++ zone → time_by_parts (slice_split (λ (x : ℕ). eqb x 84) front) ≡ o → time_of word ≡ o
word_read word front zone o none zone_is word_is e =
    ap (λ (w : List ℕ). time_by_parts (slice_split (λ (x : ℕ). eqb x 84) w)) (by zone_is) ∙ e
  where
    by : (zone ≡ []) ⊎ (zone ≡ codes "Z") → without_zone word ≡ front
    by (inl z) = rw (word_is, z, append-nil) (no_zone front none)
    by (inr z) = rw (word_is, z) (a_zone front)

body_read : (word : List ℕ) (t : ℤ) (is : IsWordFor word t) → IsOfBody is.clock is.micros → time_of word ≡ Some t
body_read word t is o =
    let day = day_shape is.date is.day is.date_is in
    let none =
    lacks_both 90 is.date 84 o.body (date_lacks 90 is.date day.y day.n (omega arith) day.shape) refl
    (clock_lacks 90 o.body o.h o.m o.s o.u (omega arith) o.shape) in
    let e =
    word_read word (is.date ++ 84 ∷ o.body) is.zone _ none is.zone_is (rw o.text_is at is.word_is)
    (both_read is.date o.body day.y day.n o.h o.m o.s o.u day.shape o.shape) in
    let low : 1800 ≤ day.y = omega (arith, day.shape.low) in
    e ∙ ap (λ (x : ℤ). Some x) (same_instant _ t _ _ (instant_is day.y day.n o.h o.m o.s o.u low day.shape.first)
    is.instant_is (omega (arith, day.day_is, o.value_is)))

date_alone_read : (word : List ℕ) (t : ℤ) (is : IsWordFor word t) → is.clock ≡ [] → is.micros ≡ 0
    → time_of word ≡ Some t
date_alone_read word t is none zero =
    let day = day_shape is.date is.day is.date_is in
    let e =
    word_read word is.date is.zone _ (date_lacks 90 is.date day.y day.n (omega arith) day.shape) is.zone_is
    (rw (none, append-nil is.date) at is.word_is) (alone_read is.date day.y day.n day.shape) in
    let low : 1800 ≤ day.y = omega (arith, day.shape.low) in
    e ∙ ap (λ (x : ℤ). Some x) (same_instant _ t _ _ (instant_is day.y day.n 0 0 0 0 low day.shape.first)
    is.instant_is (omega (arith, day.day_is, zero)))

pub word_back : (word : List ℕ) (t : ℤ) → IsWordFor word t → time_of word ≡ Some t
word_back word t is = by is.clock_is
  where
    plain : ((is.clock ≡ []) × (is.micros ≡ 0)) ⊎ IsOfBody is.clock is.micros → time_of word ≡ Some t
    plain (inl none) = date_alone_read word t is none.0 none.1
    plain (inr o) = body_read word t is o

    by : IsClockText is.clock is.micros ⊎ IsLeapText is.clock is.micros → time_of word ≡ Some t
    by (inl c) = plain (text_shape is.clock is.micros c)
    by (inr l) = body_read word t is (leap_shape is.clock is.micros l)

-- ---- what is read is a text of it
instant_by_is : (od : Option Date) (oc : Option Clock) (t : ℤ) → instant_by od oc ≡ Some t
    → (date : Date) × (clock : Clock) × (od ≡ Some date) × (oc ≡ Some clock) × (t ≡ instant_at date clock)
instant_by_is (Some date) (Some clock) t e = (date, clock, refl, refl, sym (cc e))
instant_by_is od oc t e = cc (e)

midnight_text : IsClockText [] 0
midnight_text = record {
  within = omega arith;
  ending = codes "T00:00:00.000000";
  left_out = inr (inr (inr (inr (inr (inr (inr (inr (inr (inl refl)))))))));
  whole = refl;
}

clock_text_is : (body : List ℕ) (h m s u : ℕ) → IsShape body h m s u
    → IsClockText (84 ∷ body) (value_of h m s u) ⊎ IsLeapText (84 ∷ body) (value_of h m s u)
clock_text_is body h m s u shape = by (cases_lt s 60)
  where
    by : (s < 60) ⊎ (60 ≤ s)
        → IsClockText (84 ∷ body) (value_of h m s u) ⊎ IsLeapText (84 ∷ body) (value_of h m s u)
    by (inl lt) = inl (shape_text body h m s u shape (omega (arith, lt)))
    by (inr ge) = inr (shape_leap body h m s u shape (omega (arith, ge, shape.second)))

-- by its date and its time of day
word_as : (word date clock zone : List ℕ) (t : ℤ) (y n h m s u : ℕ) → IsDayShape date y n
    → t ≡ instant_at (record { year = y; day = n }) (record { hour = h; minute = m; second = s; micros = u })
    → IsClockText clock (value_of h m s u) ⊎ IsLeapText clock (value_of h m s u) → (zone ≡ []) ⊎ (zone ≡ codes "Z")
    → word ≡ date ++ clock ++ zone → IsWordFor word t
word_as word date clock zone t y n h m s u shape e clock_is zone_is word_is = record {
  day = year_start y + n - 1;
  micros = value_of h m s u;
  date = date;
  clock = clock;
  zone = zone;
  instant_is = rw e (instant_is y n h m s u (omega (arith, shape.low)) shape.first);
  date_is = shape_day date y n shape;
  clock_is = clock_is;
  zone_is = zone_is;
  word_is = word_is;
}

parts_word : (word front zone : List ℕ) (parts : List (List ℕ)) (t : ℤ) → (zone ≡ []) ⊎ (zone ≡ codes "Z")
    → word ≡ front ++ zone → front ≡ join_with_byte 84 parts → time_by_parts parts ≡ Some t → IsWordFor word t
parts_word word front zone (date ∷ []) t zone_is word_is joins e =
    let is = instant_by_is (date_of date) (Some midnight) t e in
    let day = date_read date is.0 is.2 in
    let clock : is.1 ≡ midnight = sym (cc is.3) in
    word_as word date [] zone t day.y day.n 0 0 0 0 day.shape (rw (day.date_is, clock) at is.4)
    (inl midnight_text) zone_is (word_is ∙ ap (λ (xs : List ℕ). xs ++ zone) (joins ∙ sym (append-nil date)))
parts_word word front zone (date ∷ clock ∷ []) t zone_is word_is joins e =
    let is = instant_by_is (date_of date) (clock_of clock) t e in
    let day = date_read date is.0 is.2 in
    let time = clock_read clock is.1 is.3 in
    word_as word date (84 ∷ clock) zone t day.y day.n time.hour time.minute time.second time.micros day.shape
    (rw (day.date_is, time.clock) at is.4)
    (clock_text_is clock time.hour time.minute time.second time.micros time.shape) zone_is
    (rw joins at word_is)
parts_word word front zone parts t zone_is word_is joins e = cc (e)

pub word_is_text : (word : List ℕ) (t : ℤ) → time_of word ≡ Some t → IsWordFor word t
word_is_text word t e =
    let z = has_zone word in
    let parts : List (List ℕ) = slice_split (λ (x : ℕ). eqb x 84) (without_zone word) in
    parts_word word (without_zone word) z.0 parts t z.1 z.2 (joined 84 (without_zone word) parts refl) e

-- ---- the text of an instant
counted : (z : ℤ) → pos 0 ≤ℤ z → z ≡ pos (unsigned_abs z)
counted (pos n) h = refl
counted (negsuc n) h = absurd (omega (arith, signed_arith, h))

pub shown_back : (t : ℤ) → year_begins 1900 ≤ℤ t → t <ℤ year_begins 2101 → time_of (time_text t) ≡ Some t
unfolding time_text
shown_back t low high =
    let is : t +ℤ pos 5_364_662_400_000_000 ≡ pos (since_1800 t) =
    counted (t +ℤ pos 5_364_662_400_000_000) (omega (arith, signed_arith, low)) in
    let whole : since_1800 t ≡ 86_400_000_000 *
    (since_1800 t / 86_400_000_000) + since_1800 t % 86_400_000_000 = omega arith in
    let early : year_start 1900 ≤ since_1800 t / 86_400_000_000 = omega (arith, signed_arith, low, is) in
    let late : since_1800 t / 86_400_000_000 < year_start 2101 = omega (arith, signed_arith, high, is) in
    let within : since_1800 t % 86_400_000_000 < 86_400_000_000 = omega arith in
    let date : List ℕ = date_text (since_1800 t / 86_400_000_000) in
    let clock : List ℕ = codes "T" ++ clock_text (since_1800 t % 86_400_000_000) in
    word_back (date ++ clock) t (record {
      day = since_1800 t / 86_400_000_000;
      micros = since_1800 t % 86_400_000_000;
      date = date;
      clock = clock;
      zone = [];
      instant_is = is ∙ ap pos whole;
      date_is = record { from_1900 = early; to_2100 = late; text_is = inl refl };
      clock_is = inl (record { within = within; ending = []; left_out = inl refl; whole = append-nil clock });
      zone_is = inl refl;
      word_is = sym (append-nil (date ++ clock));
    })
