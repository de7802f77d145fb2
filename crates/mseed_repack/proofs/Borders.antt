-- What is written where two stretches border on one another.
use Rattle.std.proofs.Common.{◌≡◌, ◌≢◌, ℕ, ◌+◌, ◌*◌, ◌^◌, ◌<◌, ◌≤◌, List, [], ◌∷◌, ◌++◌, length}
use Rattle.std.proofs.Common.{refl, sym, ap, ◌∙◌, arith, ℤ, pos, ◌+ℤ◌, ◌-ℤ◌, unsigned_abs, Option, Some}
use Rattle.std.proofs.Common.{length-append}
use Rattle.std.specs.List.{AllByRecursion}
use Rattle.std.proofs.lemmas.Bool.Decides.{nat_tests}
use Rattle.std.proofs.lemmas.Int.{ints}
use Rattle.mseed_time.specs.declared.outcome.LeapStep.{LeapStep}
use Rattle.mseed_time.specs.Join.{miss_of, step_of}
use Rattle.mseed_time.specs.Rate.{Ratio, SameRate}
use Rattle.mseed_time.specs.Ratios.{ratio_of}
use Rattle.mseed_record.specs.declared.leap.Leap.TheVariants.{Both}
use Rattle.mseed_record.specs.View.{View, leap_of, start_of}
use Rattle.mseed_steim.specs.Reading.{count_of, IsWhole}
use Rattle.mseed_audit.specs.Follows.{IsSound}
use Rattle.mseed_audit.specs.Judging.{known_rate, step_in}
use Rattle.mseed_audit.specs.Series.{Trace, AreJoined, IsSeriesOf, none, one, step_at, steps_from}
use Rattle.mseed_audit.proofs.Joined.{count_is}
use Rattle.mseed_repack.specs.Stretches.{IsStretch, added_by, drift_of, samples_of}
use Rattle.mseed_repack.proofs.Drifts.{miss_is}
use Rattle.mseed_repack.proofs.Joining.{added_one, both_some, samples_one, stands_first}
use Rattle.mseed_repack.proofs.Times.{stands_at}
use Rattle.mseed_pack.specs.Clock.{added_before}
use Rattle.mseed_pack.specs.Fitting.{IsTooFast}
use Rattle.mseed_pack.specs.Outcome.{IsTrace}
use Rattle.mseed_pack.specs.Stretches.{step_after}
use Rattle.mseed_pack.proofs.Followed.{AreAt, series_at}
use Rattle.mseed_pack.proofs.Leaps.{passes}
use Rattle.mseed_pack.proofs.Viewed.{IsAt}
use Rattle.mseed_repack.proofs.Misses.{rounded}
use Rattle.mseed_repack.proofs.Written.{rate_as}

-- the records of a stretch, and the views of those that it was packed into
pub record IsLaid (s own : List View) : Type 0 where
  pub trace : Trace
  pub is : IsTrace trace
  pub slow : ¬ (IsTooFast trace)
  pub some : trace.samples ≢ []
  pub series : IsSeriesOf trace s
  pub at : AreAt trace 0 own trace.samples
  pub stretch : IsStretch s
  pub sound : AllByRecursion IsSound s

-- How many samples they have, and what their leap seconds added.

pub samples_at : (s : Trace) (first : ℕ) (vs : List View) (samples : List ℤ) → AreAt s first vs samples
    → samples_of vs ≡ length samples
samples_at s first [] samples h = sym (ap (λ (xs : List ℤ). length xs) h)
samples_at s first (v ∷ vs) samples h = grind (arith, length-append, samples_at s (first + length h.0) vs h.1.0 h.1.1.2)

pub joined_samples : (vs : List View) (samples : List ℤ) → AreJoined vs samples → samples_of vs ≡ length samples
joined_samples _ _ none = refl
joined_samples _ _ (one v vs samples rest whole behind) =
    grind (arith, count_is, length-append, joined_samples vs rest behind)

added_append : (xs ys : List (ℕ × LeapStep)) (n : ℕ)
    → added_before (xs ++ ys) n ≡ added_before xs n +ℤ added_before ys n
added_append [] ys n = omega (arith, ints)
added_append (x ∷ xs) ys n = let rest = added_append xs ys n in omega (arith, ints, rest)

step_added : (place size : ℕ) (o : Option LeapStep) → place ≤ size → added_before (step_at place o) size ≡ step_of o
step_added place size o h = grind (arith, nat_tests, ints)

added_all : (place size : ℕ) (vs : List View) → place + samples_of vs ≤ size
    → added_before (steps_from place vs) size ≡ added_by vs
added_all place size [] h = refl
added_all place size (v ∷ vs) h =
    grind (arith, step_added, added_append, ints, added_all (place + count_of v) size vs (omega (arith, h)))

-- The last of the records that were written ends where the series does.

record EndsAt (s : Trace) (vs : List View) (end : ℕ) : Type 0 where
  before : List View
  last : View
  place : ℕ
  samples : List ℤ
  parts : vs ≡ before ++ last ∷ []
  is : IsAt s place last samples
  end_is : place + length samples ≡ end

ends_at : (s : Trace) (first : ℕ) (v : View) (vs : List View) (samples : List ℤ) → AreAt s first (v ∷ vs) samples
    → EndsAt s (v ∷ vs) (first + length samples)
ends_at s first v [] samples h =
    let all = ap (λ (xs : List ℤ). length xs) h.1.1.0 ∙ length-append h.0 h.1.0 in
    let nothing : length h.1.0 ≡ 0 = ap (λ (xs : List ℤ). length xs) h.1.1.2 in
    let size : first + length h.0 ≡ first + length samples = omega (arith, all, nothing) in
    record { before = []; last = v; place = first; samples = h.0; parts = refl; is = h.1.1.1; end_is = size }
ends_at s first v (w ∷ vs) samples h =
    let all = ap (λ (xs : List ℤ). length xs) h.1.1.0 ∙ length-append h.0 h.1.0 in
    let rest = ends_at s (first + length h.0) w vs h.1.0 h.1.1.2 in
    let end_there = rest.end_is in
    record {
      before = v ∷ rest.before;
      last = rest.last;
      place = rest.place;
      samples = rest.samples;
      parts = ap (λ (us : List View). v ∷ us) rest.parts;
      is = rest.is;
      end_is = omega (arith, all, end_there);
    }

-- by how much a record misses the end of another, by a rate
abbrev pub miss_at : View → View → Ratio → ℤ
miss_at b v rate = miss_of (start_of b) (count_of b) rate (step_in (leap_of b.bytes)) (start_of v)

-- the first record that was written of a stretch comes as the first that was read does
pub record Comes (v next : View) : Type 0 where
  pub rate : Ratio
  pub rate_is : known_rate next ≡ Some rate
  pub read_is : known_rate v ≡ Some rate
  pub start : start_of next ≡ start_of v
  pub samples : List ℤ
  pub whole : IsWhole next samples

-- What is known of the two records that are written on both sides of a border, by the two that were read there: what
-- the later one misses the end of the one before by is what it was before, moved by a quarter of a period at most, and
-- less than a microsecond more.
pub record IsBorder (b v last next : View) : Type 0 where
  pub rate : Ratio
  pub rate_is : known_rate last ≡ Some rate
  pub counts : (0 < rate.num) × (0 < rate.den)
  pub reported : leap_of last.bytes ≢ Both
  pub own : Ratio
  pub own_is : known_rate b ≡ Some own
  pub same : SameRate rate own
  pub own_counts : (0 < own.num) × (0 < own.den)
  pub comes : Comes v next
  pub drift : ℤ
  pub near : 4 * unsigned_abs drift ≤ rate.den * 10 ^ 6
  pub left : ℕ
  pub small : left < rate.num
  pub miss : miss_at last next rate ≡ (miss_at b v rate +ℤ drift) +ℤ pos left

-- the last record written of a stretch misses the next start as the stretch's clock does, and less than a microsecond
-- more
record IsPast (s : List View) (first last : View) (rate : Ratio) (t : ℤ) : Type 0 where
  left : ℕ
  small : left < rate.num
  miss : miss_of (start_of last) (count_of last) rate (step_in (leap_of last.bytes)) t
      ≡ drift_of (start_of first) (samples_of s) rate (added_by s) t +ℤ pos left

past : (s own : List View) (h : IsLaid s own) (first : View) → start_of first ≡ h.trace.start
    → (e : EndsAt h.trace own (length h.trace.samples)) → (t : ℤ) → 0 < (ratio_of h.trace.rate).num
    → IsPast s first e.last (ratio_of h.trace.rate) t
past s own h first begin e t some =
    let trace : Trace = h.trace in
    let rate : Ratio = ratio_of trace.rate in
    let n : ℕ = length e.samples in
    let step : Option LeapStep = step_after trace (e.place + n) in
    let pass = passes 0 (length trace.samples) trace.steps e.place n h.is.steps e.is.some e.is.within in
    let by = rounded trace.start t (added_before trace.steps e.place) (step_of step) e.place n rate.num rate.den some in
    let size : e.place + n ≡ samples_of s = e.end_is ∙ sym (joined_samples s trace.samples h.series.samples) in
    let inside : 0 + samples_of s ≤ e.place + n = omega (arith, size) in
    let added = sym pass.added ∙ ap (λ (xs : List (ℕ × LeapStep)). added_before xs (e.place + n)) h.series.steps ∙
    added_all 0 (e.place + n) s inside in
    record {
      left = by.0;
      small = by.1.0;
      miss = rw (e.is.start, e.is.count, e.is.step, begin, ← size, ← added) by.1.1;
    }

-- so does the last record that was read of it, moved by what it stood beside the clock
moved : (x y z : ℤ) → x ≡ y -ℤ z → y ≡ x +ℤ z
moved x y z e = omega (arith, ints, e)

beside : (first : View) (s before : List View) (b : View) (rate : Ratio) (t : ℤ) → s ≡ before ++ b ∷ []
    → drift_of (start_of first) (samples_of s) rate (added_by s) t
    ≡ miss_of (start_of b) (count_of b) rate (step_in (leap_of b.bytes)) t
    +ℤ drift_of (start_of first) (samples_of before) rate (added_by before) (start_of b)
beside first s before b rate t e =
    let step : ℤ = step_of (step_in (leap_of b.bytes)) in
    rw (e, samples_one before b, added_one before b)
    (moved _ _ _ (miss_is (start_of first) (start_of b) t (added_by before) step rate.num (samples_of before) (count_of
    b) rate.den))

-- The records of two stretches, one after the other, and what was written of them.
pub record AreBordering (b v : View) (own others : List View) : Type 0 where
  pub before : List View
  pub last : View
  pub next : View
  pub behind : List View
  pub parts : own ≡ before ++ last ∷ []
  pub parts_after : others ≡ next ∷ behind
  pub border : IsBorder b v last next

first_of : (s own : List View) (h : IsLaid s own) → known_rate h.series.first ≡ Some (ratio_of h.trace.rate)
first_of s own h =
    let sound = rw h.series.parts at h.sound in
    rate_as h.series.first h.trace.rate sound.0 h.series.factor h.series.multiplier

comes : (v next : View) (vs behind : List View) → IsLaid (v ∷ vs) (next ∷ behind) → Comes v next
comes v next vs behind h =
    let is = h.at.1.1.1 in
    let same : h.series.first ≡ v = cc (h.series.parts) in
    let back : IsSeriesOf h.trace (next ∷ behind) = series_at h.trace h.is h.some (next ∷ behind) h.at in
    let here : next ≡ back.first = cc (back.parts) in
    record {
      rate = ratio_of h.trace.rate;
      rate_is = is.rate;
      read_is = ap (λ (w : View). known_rate w) (sym same) ∙ first_of (v ∷ vs) (next ∷ behind) h;
      start = ap start_of here ∙ sym back.start ∙ h.series.start ∙ ap start_of same;
      samples = h.at.0;
      whole = is.whole;
    }

pub bordering : (s before others own written : List View) (b v : View) → IsLaid s own
    → IsLaid (v ∷ others) written → s ≡ before ++ b ∷ [] → AreBordering b v own written
bordering s before others [] written b v h k e = absurd (h.some h.at)
bordering s before others (w ∷ ws) [] b v h k e = absurd (k.some k.at)
bordering s before others (w ∷ ws) (next ∷ behind) b v h k e =
    let first : View = h.series.first in
    let rest = h.series.rest in
    let rate : Ratio = ratio_of h.trace.rate in
    let known : known_rate first ≡ Some rate = first_of s (w ∷ ws) h in
    let counts = both_some first rate known in
    let whole : 0 + length h.trace.samples ≡ length h.trace.samples = omega arith in
    let ends = rw whole at (ends_at h.trace 0 w ws h.trace.samples h.at) in
    let coming = comes v next others behind k in
    let way = past s (w ∷ ws) h first (sym h.series.start) ends (start_of v) counts.0 in
    let stretch = rw h.series.parts at h.stretch in
    let parts = sym h.series.parts ∙ e in
    let stands = stands_at _ _ _ _ _ _ _ _ _ known refl (stands_first rate first known) stretch parts in
    record {
      before = ends.before;
      last = ends.last;
      next = next;
      behind = behind;
      parts = ends.parts;
      parts_after = refl;
      border = record {
        rate = rate;
        rate_is = ends.is.rate;
        counts = counts;
        reported = ends.is.reported;
        own = stands.own;
        own_is = stands.known;
        same = stands.same;
        own_counts = both_some b stands.own stands.known;
        comes = coming;
        drift = drift_of (start_of first) (samples_of before) rate (added_by before) (start_of b);
        near = stands.on_time;
        left = way.left;
        small = way.small;
        miss = ap (λ (t : ℤ). miss_of (start_of ends.last) (count_of ends.last) rate
            (step_in (leap_of ends.last.bytes)) t) coming.start ∙ way.miss
            ∙ ap (λ (z : ℤ). z +ℤ pos way.left) (beside first s before b rate (start_of v) e);
      };
    }
