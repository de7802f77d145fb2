-- A date is read from its texts, and from no other.
use Rattle.std.proofs.Common.{◌≡◌, ◌⊎◌, ℕ, ◌+◌, ◌-◌, ◌<◌, ◌≤◌, refl, sym, ◌∙◌, arith, false, eqb}
use Rattle.std.proofs.Common.{List, [], ◌∷◌, ◌++◌, Option, Some, None, inl, inr, pos}
use Rattle.std.specs.List.{join_with_byte, slice_split}
use Rattle.std.proofs.lemmas.Bool.Decides.{nat_tests}
use Rattle.jiff_core.proofs.CalendarLemmas.{days_in_month_bounds}
use Rattle.mseed_time.specs.Btime.{days_in_year}
use Rattle.mseed_time.specs.Calendar.{day_in_year, day_of_month, month_start, months_over, place_in_year, year_of}
use Rattle.mseed_time.specs.Calendar.{year_start}
use Rattle.mseed_time.specs.Text.{date_text, ordinal_text, padded_decimal}
use Rattle.mseed_time.proofs.Civil.{begun_most}
use Rattle.mseed_time.proofs.Dating.{day_at, day_in_its_year, day_in_year-is, day_of_place, day_within, dated}
use Rattle.mseed_time.proofs.Dating.{days_in_month-jiff}
use Rattle.mseed_time.proofs.Naming.{days_before-next}
use Rattle.mseed_time.proofs.Ranges.{year_days}
use Rattle.mseed_select.specs.declared.dates.Date.{Date}
use Rattle.mseed_select.specs.TimeTexts.{IsDateText}
use Rattle.mseed_select.specs.Word.{date_by_day, date_by_month, date_by_parts, date_in_year, date_of, number_in}
use Rattle.mseed_select.specs.Word.{number_of}
use Rattle.mseed_select.proofs.Padded.{Lacks, lacks_both, number_in-is, number_in-padded, number_of-2}
use Rattle.mseed_select.proofs.Padded.{padded_lack}
use Rattle.mseed_select.proofs.TimeParts.{joined, three_parts, two_parts}

abbrev pub day_text : ℕ → ℕ → List ℕ
day_text y n = padded_decimal 4 y ++ 45 ∷ padded_decimal 3 n

abbrev pub month_text : ℕ → ℕ → ℕ → List ℕ
month_text y m d = padded_decimal 4 y ++ 45 ∷ (padded_decimal 2 m ++ 45 ∷ padded_decimal 2 d)

-- a text by the month
pub record IsMonthForm (text : List ℕ) (y n : ℕ) : Type 0 where
  pub m : ℕ
  pub d : ℕ
  pub text_is : text ≡ month_text y m d
  pub short_month : m ≤ 99
  pub short_day : d ≤ 99
  pub day_is : day_in_year y m d ≡ Some n

-- a text of a day of a year
pub record IsDayShape (text : List ℕ) (y n : ℕ) : Type 0 where
  pub low : 1900 ≤ y
  pub high : y ≤ 2100
  pub first : 1 ≤ n
  pub last : n ≤ days_in_year y
  pub form : (text ≡ day_text y n) ⊎ IsMonthForm text y n

-- ---- read
lack_45 : (n x : ℕ) → Lacks 45 (padded_decimal n x)
lack_45 n x = padded_lack 45 n x (inr (omega arith))

year_read : (y : ℕ) → 1900 ≤ y → y ≤ 2100 → number_in 4 1900 2100 (padded_decimal 4 y) ≡ Some y
year_read y low high = number_in-padded 4 1900 2100 y (omega (arith, high)) low high

two_read : (x : ℕ) → x ≤ 99 → number_in 2 0 99 (padded_decimal 2 x) ≡ Some x
two_read x few = number_in-padded 2 0 99 x (number_of-2 x (omega arith)) (omega arith) few

pub day_shape_read : (text : List ℕ) (y n : ℕ) → IsDayShape text y n
    → date_of text ≡ Some (record { year = y; day = n })
day_shape_read text y n is = by is.form
  where
    by : (text ≡ day_text y n) ⊎ IsMonthForm text y n → date_of text ≡ Some (record { year = y; day = n })
    by (inl e) =
        let day : number_of (padded_decimal 3 n) ≡ n = omega (arith, is.last, year_days y) in
        rw (e, two_parts 45 (padded_decimal 4 y) (padded_decimal 3 n) (lack_45 4 y) (lack_45 3 n))
        (rw (year_read y is.low is.high, number_in-padded 3 1 (days_in_year y) n day is.first is.last) refl)
    by (inr f) =
        let three =
        three_parts 45 (padded_decimal 4 y) (padded_decimal 2 f.m) (padded_decimal 2 f.d) (lack_45 4 y)
        (lack_45 2 f.m) (lack_45 2 f.d) in
        rw f.text_is (rw (three, year_read y is.low is.high, two_read f.m f.short_month, two_read f.d f.short_day) (
        rw f.day_is refl))

-- ---- known by what was read
pub record IsDateRead (text : List ℕ) (date : Date) : Type 0 where
  pub y : ℕ
  pub n : ℕ
  pub shape : IsDayShape text y n
  pub date_is : date ≡ record { year = y; day = n }

read_as : {text : List ℕ} (y n : ℕ) (date : Date) → date ≡ record { year = y; day = n } → 1900 ≤ y → y ≤ 2100 → 1 ≤ n
    → n ≤ days_in_year y → (text ≡ day_text y n) ⊎ IsMonthForm text y n → IsDateRead text date
read_as y n date is low high first last form = record {
  y = y;
  n = n;
  shape = record { low = low; high = high; first = first; last = last; form = form };
  date_is = is;
}

by_day_is : (y : ℕ) (o : Option ℕ) (date : Date) → date_by_day y o ≡ Some date
    → (n : ℕ) × (o ≡ Some n) × (date ≡ record { year = y; day = n })
by_day_is y (Some n) date e = (n, refl, sym (cc e))
by_day_is y None date e = absurd (let f : None ≡ Some date = e in cc f)

by_month_is : (y : ℕ) (om od : Option ℕ) (date : Date) → date_by_month y om od ≡ Some date
    → (m : ℕ) × (d : ℕ) × (om ≡ Some m) × (od ≡ Some d) × (date_by_day y (day_in_year y m d) ≡ Some date)
by_month_is y (Some m) (Some d) date e = (m, d, refl, refl, e)
by_month_is y om od date e = cc (e)

in_year_is : (year : List ℕ) (oy : Option ℕ) (parts : List (List ℕ)) (date : Date) → number_in 4 1900 2100 year ≡ oy
    → date_in_year oy parts ≡ Some date → IsDateRead (join_with_byte 45 (year ∷ parts)) date
in_year_is year (Some y) (day ∷ []) date year_in e =
    let first = number_in-is 4 1900 2100 year y year_in in
    let is = by_day_is y (number_in 3 1 (days_in_year y) day) date e in
    let n = number_in-is 3 1 (days_in_year y) day is.0 is.1 in
    read_as y is.0 date is.2 first.least first.most n.least n.most (inl (λ i. first.text_is i ++ 45 ∷ n.text_is i))
in_year_is year (Some y) (month ∷ day ∷ []) date year_in e =
    let first = number_in-is 4 1900 2100 year y year_in in
    let is = by_month_is y (number_in 2 0 99 month) (number_in 2 0 99 day) date e in
    let of_day = by_day_is y (day_in_year y is.0 is.1) date is.4 in
    let m = number_in-is 2 0 99 month is.0 is.2 in
    let d = number_in-is 2 0 99 day is.1 is.3 in
    let in_month = day_in_year-is y is.0 is.1 of_day.0 of_day.1 in
    read_as y of_day.0 date of_day.2 first.least first.most (omega (arith, in_month.first, in_month.is))
    (day_within y is.0 is.1 of_day.0 in_month) (inr (record {
      m = is.0;
      d = is.1;
      text_is = λ i. first.text_is i ++ 45 ∷ (m.text_is i ++ 45 ∷ d.text_is i);
      short_month = m.most;
      short_day = d.most;
      day_is = of_day.1;
    }))
in_year_is year oy parts date year_in e = cc (e)

parts_is : (parts : List (List ℕ)) (date : Date) → date_by_parts parts ≡ Some date
    → IsDateRead (join_with_byte 45 parts) date
parts_is [] date e = absurd (let f : None ≡ Some date = e in cc f)
parts_is (year ∷ parts) date e = in_year_is year (number_in 4 1900 2100 year) parts date refl e

pub date_read : (text : List ℕ) (date : Date) → date_of text ≡ Some date → IsDateRead text date
date_read text date e =
    let parts : List (List ℕ) = slice_split (λ (x : ℕ). eqb x 45) text in
    rw (joined 45 text parts refl) (parts_is parts date e)

-- ---- the texts of a day
year_ends : (y n : ℕ) → 1900 ≤ y → y ≤ 2100 → n ≤ days_in_year y → 1 ≤ n
    → (year_start 1900 ≤ year_start y + n - 1) × (year_start y + n - 1 < year_start 2101)
year_ends y n low high last first =
    let next = days_before-next y (omega arith) in
    (omega (arith, first), omega (arith, next, last, first))

pub shape_day : (text : List ℕ) (y n : ℕ) → IsDayShape text y n → IsDateText text (year_start y + n - 1)
shape_day text y n is =
    let ends = year_ends y n is.low is.high is.last is.first in
    record { from_1900 = ends.0; to_2100 = ends.1; text_is = by is.form }
  where
    day : ℕ
    day = year_start y + n - 1

    by_place : (year_of (year_start y + n - 1) ≡ y) × (place_in_year (year_start y + n - 1) + 1 ≡ n)
    by_place =
        let same : year_start y + n - 1 ≡ year_start y + (n - 1) = omega (arith, is.first) in
        let few : n - 1 < days_in_year y = omega (arith, is.last, is.first) in
        let both = day_of_place y (n - 1) (omega (arith, is.low)) (omega (arith, is.high)) few in
        rw same (both.0, omega (arith, both.1, is.first))

    by : (text ≡ day_text y n) ⊎ IsMonthForm text y n
        → (text ≡ date_text (year_start y + n - 1)) ⊎ (text ≡ ordinal_text (year_start y + n - 1))
    by (inl e) = inr (e ∙ (λ i. day_text (sym by_place.0 i) (sym by_place.1 i)))
    by (inr f) =
        let is_dated = (dated y f.m f.d n (omega (arith, is.low)) (omega (arith, is.high))).0 f.day_is in
        inl (f.text_is ∙ (λ i. month_text (sym is_dated.year_is i) (sym is_dated.month_is i) (sym is_dated.day_is i)))

year_range : (y day : ℕ) → 1800 ≤ y → y ≤ 2199 → year_start y ≤ day → day - year_start y < days_in_year y
    → year_start 1900 ≤ day → day < year_start 2101 → (1900 ≤ y) × (y ≤ 2100)
year_range y day low high begins within early late =
    let next = days_before-next y (omega arith) in
    (omega (arith, next, begins, within, early), omega (arith, begins, late))

-- what a text says of its day
pub record IsOfShape (text : List ℕ) (day : ℕ) : Type 0 where
  pub y : ℕ
  pub n : ℕ
  pub shape : IsDayShape text y n
  pub day_is : year_start y + n - 1 ≡ day

pub day_shape : (text : List ℕ) (day : ℕ) → IsDateText text day → IsOfShape text day
day_shape text day is =
    let here = day_in_its_year day (omega (arith, is.to_2100)) in
    let range =
    year_range (year_of day) day here.low here.high here.begins here.within is.from_1900 is.to_2100 in
    record {
      y = year_of day;
      n = place_in_year day + 1;
      shape = record {
        low = range.0;
        high = range.1;
        first = omega arith;
        last = omega (arith, here.within);
        form = by here.within is.text_is;
      };
      day_is = omega (arith, here.begins);
    }
  where
    by : place_in_year day < days_in_year (year_of day) → (text ≡ date_text day) ⊎ (text ≡ ordinal_text day)
        → (text ≡ day_text (year_of day) (place_in_year day + 1)) ⊎ IsMonthForm text (year_of day)
        (place_in_year day + 1)
    by within (inr e) = inl e
    by within (inl e) =
        let y : ℕ = year_of day in
        let m : ℕ = months_over day + 1 in
        let d : ℕ = day_of_month day in
        let few = begun_most (month_start (year_of day)) 11 (place_in_year day) in
        let here = day_at (year_of day) (place_in_year day) within in
        let in_month = day_in_year-is (year_of day) (months_over day + 1) (day_of_month day)
        (place_in_year day + 1) here in
        let days = days_in_month-jiff (year_of day) (months_over day + 1) in_month.low in_month.high in
        let bounds = days_in_month_bounds (pos (year_of day)) (months_over day + 1) in
        inr (record {
          m = months_over day + 1;
          d = day_of_month day;
          text_is = e;
          short_month = omega (arith, few);
          short_day = omega (arith, in_month.last, days, bounds);
          day_is = here;
        })

-- ---- no separator of a time of day stands in a date
digits_and : (c n x : ℕ) (rest : List ℕ) → 57 < c → Lacks c rest → Lacks c (padded_decimal n x ++ 45 ∷ rest)
digits_and c n x rest over none =
    let other : eqb 45 c ≡ false = grind (arith, nat_tests, over) in
    lacks_both c (padded_decimal n x) 45 rest (padded_lack c n x (inl over)) other none

pub date_lacks : (c : ℕ) (text : List ℕ) (y n : ℕ) → 57 < c → IsDayShape text y n → Lacks c text
date_lacks c text y n over is = by is.form
  where
    by : (text ≡ day_text y n) ⊎ IsMonthForm text y n → Lacks c text
    by (inl e) = rw e (digits_and c 4 y (padded_decimal 3 n) over (padded_lack c 3 n (inl over)))
    by (inr f) = rw f.text_is (digits_and c 4 y (padded_decimal 2 f.m ++ 45 ∷ padded_decimal 2 f.d) over
        (digits_and c 2 f.m (padded_decimal 2 f.d) over (padded_lack c 2 f.d (inl over))))
