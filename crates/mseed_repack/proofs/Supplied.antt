-- Differences that are unpacked record by record.
use Rattle.mseed_pack.proofs.Called.{OneSeries}
use Rattle.mseed_audit.proofs.OneSeries.{joined_one}
use Rattle.mseed_steim.proofs.Laws.{reading_one}
use Rattle.std.proofs.Common.{◌≡◌, ℕ, suc, ◌+◌, ◌-◌, ◌<◌, ◌≤◌, List, [], ◌∷◌, ◌++◌, length, take, drop, min, refl, sym}
use Rattle.std.proofs.Common.{ap, ◌∙◌, arith, append_assoc, length-append, ℤ, pos, ◌-ℤ◌, Some, slice_get}
use Rattle.std.proofs.Common.{FitsSigned, IsTrue, w32, set, get_or, to_z, of_z}
use Rattle.std.specs.List.{AllByRecursion}
use Rattle.std.specs.Prelude.{slice_range}
use Rattle.std.proofs.ByRecursion.{All-weaker}
use Rattle.std.proofs.lemmas.Bool.{false≢true}
use Rattle.std.proofs.lemmas.Int.{ints, to_z-of_z}
use Rattle.std.proofs.lemmas.List.{drop-drop, drop-take, take-take}
use Rattle.std.proofs.Math.Seq.{drop-append_seam, take-append_seam}
use Rattle.mseed_time.specs.declared.outcome.LeapStep.{LeapStep}
use Rattle.mseed_record.specs.View.{View}
use Rattle.mseed_steim.specs.Reading.{IsSteim, IsWhole, count_of}
use Rattle.mseed_steim.specs.Samples.{AreEnds, differences_from, steps_of}
use Rattle.mseed_steim.specs.Spelling.{IsWithin}
use Rattle.mseed_steim.specs.declared.fault.Ends.{Ends}
use Rattle.mseed_audit.specs.Follows.{IsSound}
use Rattle.mseed_audit.specs.Series.{AreJoined, IsSeriesOf, none, one}
use Rattle.mseed_audit.proofs.Joined.{count_is}
use Rattle.mseed_pack.specs.Fitting.{Fits}
use Rattle.mseed_pack.specs.Stretches.{differences}
use Rattle.mseed_pack.specs.Supplies.{IsNextGiven}
use Rattle.mseed_pack.specs.Traces.{headed}
use Rattle.mseed_pack.specs.declared.options.Options.{Options}
use Rattle.mseed_pack.specs.declared.series_head.SeriesHead.{SeriesHead}
use Rattle.mseed_repack.specs.Repack.{StretchFits}
use Rattle.mseed_repack.specs.private.Outline.{AreNear, IsKnown, IsOutline, last_after, says_near}
use Rattle.mseed_repack.specs.private.Supplying.{AreCut, AreUnread, IsLast, IsSupplied, IsUnpackable}
use Rattle.mseed_repack.specs.declared.outline.Nearness.{Nearness}
use Rattle.mseed_repack.proofs.Each.{each_at_back, each_in_leading}
use Rattle.mseed_repack.proofs.Near.{ends_on, last_append}

pub within_fits : (z : ℤ) → IsWithin 30 z → FitsSigned w32 z
within_fits z h = grind (arith, ints)

pub held_fits : (a b : ℤ) → FitsSigned w32 a → FitsSigned w32 b → IsWithin 30 (a -ℤ b)
    → FitsSigned w32 (to_z w32 (of_z w32 a) -ℤ to_z w32 (of_z w32 b))
held_fits a b left right both = rw (to_z-of_z w32 a left, to_z-of_z w32 b right) (within_fits (a -ℤ b) both)

-- ---- a record's differences, as they are unpacked
pub first_near : (before : ℤ) (out s : List ℤ) → 0 < length s → out ≡ steps_of s
    → AllByRecursion (IsWithin 30) (differences_from before s) → IsWithin 30 (get_or out 0 (pos 0) -ℤ before)
first_near before out s h h2 h3 = grind (arith)

pub first_set : (before d : ℤ) (out s : List ℤ) → 0 < length s → out ≡ steps_of s
    → d ≡ get_or out 0 (pos 0) -ℤ before → set out 0 d ≡ differences_from before s
first_set before d out s h h2 h3 = grind (arith)

pub last_is_end : (before : ℤ) (ends : Ends) (s : List ℤ) → AreEnds ends s → last_after before s ≡ ends.last
last_is_end before ends [] h = let none : slice_get {X = ℤ} [] 0 ≡ Some ends.first = h.0 in cc
last_is_end before ends (x ∷ s) h = ends_on ends x s h

pub only_one : (v : View) (s t : List ℤ) → IsSound v → IsWhole v s → IsWhole v t → t ≡ s
only_one v s t sound whole other = sound.only t other.0 ∙ sym (sound.only s whole.0)

-- ---- differences of samples, part by part
from_append : (before : ℤ) (xs ys : List ℤ)
    → differences_from before (xs ++ ys) ≡ differences_from before xs ++ differences_from (last_after before xs) ys
from_append before [] ys = refl
from_append before (x ∷ xs) ys = ap (λ (ds : List ℤ). (x -ℤ before) ∷ ds) (from_append x xs ys)

from_length : (before : ℤ) (xs : List ℤ) → length (differences_from before xs) ≡ length xs
from_length before [] = refl
from_length before (x ∷ xs) = ap (λ (n : ℕ). suc n) (from_length x xs)

none_between : (y last : ℤ) → y ≡ last → pos 0 ≡ y -ℤ last
none_between y last e = omega (arith, ints, e)

after_are : (last : ℤ) (xs behind : List ℤ) → IsLast last xs behind
    → drop (length xs) (differences (xs ++ behind)) ≡ differences_from last behind
after_are last xs behind h = grind (arith, none_between, from_append, from_length, drop-append_seam)

first_are : (last : ℤ) (s more : List ℤ) → take (length s) (differences_from last (s ++ more)) ≡ differences_from last s
first_are last s more = grind (arith, from_append, from_length, take-append_seam)

near_begin : (first : ℤ) (xs : List ℤ) → get_or xs 0 (pos 0) ≡ first → AreNear xs
    → AllByRecursion (IsWithin 30) (differences_from first xs)
near_begin first xs h h2 = grind (arith, none_between)

last_more : (last next : ℤ) (xs s more : List ℤ) → IsLast last xs (s ++ more) → 0 < length s
    → last_after last s ≡ next → IsLast next (xs ++ s) more
last_more last next xs s more h h2 h3 = grind (arith, last_append)

-- ---- the next record
joined_next : (v : View) (vs : List View) (samples : List ℤ) → AreJoined (v ∷ vs) samples
    → (s : List ℤ) × ((more : List ℤ) × (IsWhole v s × (AreJoined vs more × (samples ≡ s ++ more))))
joined_next _ _ _ (one v vs s more whole rest) = (s, (more, (whole, (rest, refl))))

joined_none : (samples : List ℤ) → AreJoined [] samples → samples ≡ []
joined_none _ none = refl

range_is : (xs : List ℤ) (i n : ℕ) → slice_range xs i (i + n) ≡ take n (drop i xs)
range_is xs i n = let size : i + n - i ≡ n = omega arith in ap (λ (k : ℕ). take k (drop i xs)) size

-- what a call of the supply comes to
abbrev Given : List View → ℤ → List ℤ → ℕ → ℕ → List ℤ → ℕ → List ℤ → ℕ → Type 0
Given vs last room at end samples given out n =
    IsNextGiven samples given out n × IsSupplied vs last room at end samples (given + n)

-- the last of those that were given
last_at : (x : ℤ) (xs behind : List ℤ) → get_or (x ∷ xs ++ behind) (length xs) (pos 0) ≡ last_after x xs
last_at x [] behind = refl
last_at x (y ∷ xs) behind = last_at y xs behind

last_unpacked : (last : ℤ) (xs behind : List ℤ) → IsLast last xs behind → 0 < length xs
    → last ≡ get_or (xs ++ behind) (length xs - 1) (pos 0)
last_unpacked last [] behind h some = absurd (omega (arith, some))
last_unpacked last (x ∷ xs) behind h some =
    let at : length xs ≡ length (x ∷ xs) - 1 = omega arith in
    sym (sym (ap (λ (n : ℕ). get_or (x ∷ xs ++ behind) n (pos 0)) at) ∙ last_at x xs behind ∙ h)

-- ---- what is left of a supply
module _ {vs : List View} {last : ℤ} {room : List ℤ} {at end given : ℕ} {samples : List ℤ}
    (h : IsSupplied vs last room at end samples given) where
  all_size : length samples ≡ length h.unpacked + length h.behind
  all_size = ap (λ (zs : List ℤ). length zs) h.cut.parts ∙ length-append h.unpacked h.behind

  -- some of the room
  pub part_given : (out : List ℤ) (n : ℕ) → at < end → n ≡ min (length out) (end - at)
      → take n out ≡ take n (drop at room) → Given vs last room (at + n) end samples given out n
  part_given out n some e items =
      let ds : List ℤ = differences samples in
      let few : n ≤ end - at = omega (arith, e) in
      let later : ℕ = end - (at + n) in
      let size : end - at ≡ n + later = omega (arith, few, h.order) in
      let both : take (n + later) (drop at room) ≡ take (n + later) (drop given ds) = rw size at h.held in (
        record {
          inside = omega (arith, all_size, h.given_is, few);
          items = items ∙ sym (take-take n (end - at) (drop at room) few) ∙ ap (λ (zs : List ℤ). take n zs) h.held
              ∙ take-take n (end - at) (drop given ds) few ∙ sym (range_is ds given n);
          some = λ left room. omega (arith, e, some, room);
        },
        record {
          unpacked = h.unpacked;
          behind = h.behind;
          cut = h.cut;
          order = omega (arith, few, h.order);
          inside = h.inside;
          given_is = omega (arith, h.given_is, few, h.order);
          held = sym (ap (λ (zs : List ℤ). take later zs) (drop-drop n at room))
              ∙ sym (drop-take n later (drop at room)) ∙ ap (λ (zs : List ℤ). drop n zs) both
              ∙ drop-take n later (drop given ds)
              ∙ ap (λ (zs : List ℤ). take later zs) (drop-drop n given ds);
        },
      )

  -- where no record is left, and nothing in the room, all was given
  pub given_all : end ≤ at → vs ≡ [] → (out : List ℤ) → IsNextGiven samples given out 0
  given_all empty e out =
      let none : h.behind ≡ [] = joined_none h.behind (rw e at h.cut.joined) in
      let size : length samples ≡ given =
      omega (arith, all_size, ap (λ (zs : List ℤ). length zs) none, h.given_is, empty) in
      record {
        inside = omega (arith, size);
        items = sym (range_is (differences samples) given 0);
        some = λ left room. absurd (omega (arith, left, size));
      }

  pub last_given : end ≤ at → 0 < given → last ≡ get_or samples (given - 1) (pos 0)
  last_given done some =
      let all : length h.unpacked ≡ given = omega (arith, h.order, h.given_is, done) in
      rw (h.cut.parts, ← all) (last_unpacked last h.unpacked h.behind h.cut.last_is (omega (arith, all, some)))

-- ---- the next record is unpacked
record IsCutOn (v : View) (vs : List View) (most : ℕ) (last : ℤ) (samples unpacked behind : List ℤ) : Type 0 where
  s : List ℤ
  more : List ℤ
  whole : IsWhole v s
  long : length s ≡ count_of v
  parts : behind ≡ s ++ more
  near : AllByRecursion (IsWithin 30) (differences_from last s)
  cut : AreCut vs most (last_after last s) samples (unpacked ++ s) more

cut_on : {v : View} {vs : List View} {most : ℕ} {last : ℤ} {samples unpacked behind : List ℤ}
    → AreCut (v ∷ vs) most last samples unpacked behind → IsCutOn v vs most last samples unpacked behind
cut_on {v = v} {vs = vs} {last = last} {samples = samples} {unpacked = unpacked} {behind = behind} h =
    let found = joined_next v vs behind h.joined in
    let s : List ℤ = found.0 in
    let more : List ℤ = found.1.0 in
    let whole = found.1.1.0 in
    let same : behind ≡ s ++ more = found.1.1.1.1 in
    let last_is : IsLast last unpacked (s ++ more) = rw same at h.last_is in
    let parts : samples ≡ unpacked ++ (s ++ more) = rw same at h.parts in
    let long = count_is v s whole in
    let near = rw (same, from_append) at h.near in
    record {
      s = s;
      more = more;
      whole = whole;
      long = long;
      parts = same;
      near = each_in_leading (IsWithin 30) (differences_from last s) _ near;
      cut = record {
        sound = h.sound.1;
        steim = h.steim.1;
        fits = h.fits.1;
        parts = parts ∙ sym (append_assoc unpacked s more);
        joined = found.1.1.1.0;
        near = each_at_back (IsWithin 30) (differences_from last s) _ near;
        last_is = last_more last (last_after last s) unpacked s more last_is (omega (arith, long, whole.0.some)) refl;
      };
    }

module _ {v : View} {vs : List View} {last : ℤ} {room samples : List ℤ} {at end given : ℕ}
    (h : IsSupplied (v ∷ vs) last room at end samples given) (empty : end ≤ at) where
  abbrev next : IsCutOn v vs (length room) last samples h.unpacked h.behind
  next = cut_on h.cut

  -- its differences are near
  pub next_near : (s : List ℤ) → IsWhole v s → AllByRecursion (IsWithin 30) (differences_from last s)
  next_near s whole = rw (only_one v next.s s h.cut.sound.0 next.whole whole) next.near

  -- they are the next ones
  next_are : (out : List ℤ) → out ≡ differences_from last next.s
      → out ≡ take (count_of v) (drop given (differences samples))
  next_are out e =
      let at_end : given ≡ length h.unpacked = omega (arith, h.given_is, empty) in
      let place = ap (λ (n : ℕ). drop n (differences samples)) at_end ∙ ap (λ (zs : List ℤ). drop (length h.unpacked)
      (differences zs)) h.cut.parts ∙ after_are last h.unpacked h.behind h.cut.last_is in
      rw (place, next.parts, ← next.long) (e ∙ sym (first_are last next.s next.more))

  -- into their place
  pub record_given : (then : ℤ) (d more : List ℤ) (n : ℕ) → n ≡ count_of v
      → ((s : List ℤ) → IsWhole v s → d ≡ differences_from last s)
      → ((s : List ℤ) → IsWhole v s → last_after last s ≡ then) → Given vs then room at end samples given (d ++ more) n
  record_given then d more n count are ends =
      let is : d ≡ differences_from last next.s = are next.s next.whole in
      let long = ap (λ (zs : List ℤ). length zs) is ∙ from_length last next.s ∙ next.long in
      let first = ap (λ (k : ℕ). take k (d ++ more)) (sym long) ∙ take-append_seam d more in
      let none : end - at ≡ 0 = omega (arith, empty) in
      let some = next.whole.0.some in
      rw (count, ← ends next.s next.whole) (
        record {
          inside = omega (
            arith,
            all_size h,
            ap (λ (zs : List ℤ). length zs) next.parts,
            length-append next.s next.more,
            h.given_is,
            next.long,
            empty,
          );
          items = first ∙ next_are d is ∙ sym (range_is (differences samples) given (count_of v));
          some = λ left room. some;
        },
        record {
          unpacked = h.unpacked ++ next.s;
          behind = next.more;
          cut = next.cut;
          order = h.order;
          inside = h.inside;
          given_is = omega (arith, length-append h.unpacked next.s, h.given_is, next.long, none);
          held = rw none refl;
        },
      )

  -- or through the room
  pub room_given : (then : ℤ) (now out : List ℤ) (count n : ℕ) → count ≡ count_of v → length now ≡ length room
      → ((s : List ℤ) → IsWhole v s → take count now ≡ differences_from last s)
      → ((s : List ℤ) → IsWhole v s → last_after last s ≡ then) → n ≡ min (length out) (count - 0)
      → take n out ≡ take n (drop 0 now) → Given vs then now n count samples given out n
  room_given then now out count n count_is same are ends size items =
      let is : take (count_of v) now ≡ differences_from last next.s = rw count_is at (are next.s next.whole) in
      let whole : count_of v - 0 ≡ count_of v = omega arith in
      let fits = h.cut.fits.0 in
      let here : IsSupplied vs then now 0 count samples given = rw (count_is, ← ends next.s next.whole) (record {
        unpacked = h.unpacked ++ next.s;
        behind = next.more;
        cut = rw same next.cut;
        order = omega arith;
        inside = omega (arith, fits, same);
        given_is = omega (arith, length-append h.unpacked next.s, h.given_is, next.long, empty);
        held = rw whole (next_are (take (count_of v) now) is);
      }) in
      let zero_on : 0 + n ≡ n = omega arith in
      let some = next.whole.0.some in
      rw zero_on at (part_given here out n (omega (arith, count_is, some)) size items)

-- ---- the beginning
begins_on : (xs : List ℤ) (first : ℤ) → get_or xs 0 (pos 0) ≡ first → IsLast first [] xs
begins_on xs first h = grind (arith)

-- the first sample of some records
pub first_joined : (v : View) (vs : List View) (xs : List ℤ) (ends : Ends)
    → ((s : List ℤ) → IsWhole v s → AreEnds ends s) → AreJoined (v ∷ vs) xs → get_or xs 0 (pos 0) ≡ ends.first
first_joined v vs xs ends h h2 = grind (arith, joined_next)

near_known : (n : Nearness) (xs : List ℤ) → IsTrue (says_near n) → IsKnown n xs → AreNear xs
near_known n xs h h2 = grind (arith, false≢true)

-- records that go from frames to frames, by their outline
pub unread_by : {vs : List View} {count bears : ℕ} {nearness : Nearness} {steps : List (ℕ × LeapStep)}
    → IsOutline vs count bears nearness steps → IsTrue (says_near nearness) → AllByRecursion IsUnpackable vs
    → AreUnread vs
unread_by {vs = vs} {nearness = nearness} h says unpackable = record {
  unpackable = unpackable;
  near = λ xs joined. rw (joined_one reading_one vs xs h.samples joined h.read.are.samples_are)
      (near_known nearness h.samples says h.known);
}

-- what packing from a supply wants to know, of records of Steim frames that fit as a series
pub record HasSupply (vs : List View) (room : List ℤ) (head : SeriesHead) (o : Options) : Type 0 where
  pub samples : List ℤ
  pub supplied : IsSupplied vs head.first room 0 0 samples 0
  pub count : length samples ≡ head.count
  pub first_is : get_or samples 0 (pos 0) ≡ head.first
  pub series : IsSeriesOf (headed head samples) vs
  pub fits : Fits (headed head samples) o

pub has_supply : {vs : List View} {count bears : ℕ} {nearness : Nearness} {steps : List (ℕ × LeapStep)}
    (head : SeriesHead) (o : Options) (room : List ℤ) (h : IsOutline vs count bears nearness steps)
    → AreUnread vs → AllByRecursion IsSound vs → IsSeriesOf (headed head h.samples) vs → head.count ≡ count
    → 7056 ≤ length room → ((xs : List ℤ) → AreJoined vs xs → get_or xs 0 (pos 0) ≡ head.first) → StretchFits o vs
    → OneSeries → HasSupply vs room head o
has_supply {vs = vs} head o room h unread sound series size long is can one_series =
    let joined : AreJoined vs h.samples = h.read.are.samples_are in
    let same = one_series can.trace (headed head h.samples) vs can.series series in
    record {
      samples = h.samples;
      supplied = record {
        unpacked = [];
        behind = h.samples;
        cut = record {
          sound = sound;
          steim = All-weaker IsUnpackable IsSteim (λ v can. can.0) vs unread.unpackable;
          fits = All-weaker IsUnpackable (λ (v : View). count_of v ≤ length room) (λ v can. omega (arith, can.1, long))
              vs unread.unpackable;
          parts = refl;
          joined = joined;
          near = near_begin head.first h.samples (is h.samples joined) (unread.near h.samples joined);
          last_is = begins_on h.samples head.first (is h.samples joined);
        };
        order = omega arith;
        inside = omega arith;
        given_is = refl;
        held = refl;
      };
      count = h.read.size ∙ sym size;
      first_is = is h.samples joined;
      series = series;
      fits = rw same at can.fits;
    }
