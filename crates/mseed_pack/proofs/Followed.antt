-- The records that a series is packed into follow one another, and hold the series.
use Rattle.std.proofs.Common.{◌≡◌, ◌≢◌, ℕ, ◌+◌, ◌*◌, ◌^◌, List, [], ◌∷◌, ◌++◌, length, map}
use Rattle.std.proofs.Common.{take, drop, refl, sym, ap, ◌∙◌, arith, ℤ}
use Rattle.std.proofs.Common.{length-append}
use Rattle.std.specs.List.{AllByRecursion, flat_map}
use Rattle.std.proofs.lemmas.List.{take_at, drop_at, drop-drop}
use Rattle.mseed_time.specs.Ratios.{ratio_of}
use Rattle.mseed_record.specs.View.{View, IsView}
use Rattle.mseed_record.specs.Written.{headed_view}
use Rattle.mseed_steim.specs.Reading.{HasOneReading}
use Rattle.mseed_audit.specs.Follows.{Follows, AllNeighbours, IsSound, IsContinuous, FollowsAt}
use Rattle.mseed_audit.specs.Series.{Trace, AreSteps, AreJoined, none, one, steps_from, IsSeriesOf}
use Rattle.mseed_pack.specs.declared.options.Options.{Options}
use Rattle.mseed_pack.specs.Clock.{added_before}
use Rattle.mseed_pack.specs.Fitting.{IsTooFast, Fits}
use Rattle.mseed_pack.specs.Outcome.{IsTrace}
use Rattle.mseed_pack.specs.Packing.{Piece, ArePlaced, IsPacked}
use Rattle.mseed_pack.specs.Stretches.{step_after}
use Rattle.mseed_pack.proofs.Leaps.{later, passes, before, none_left}
use Rattle.mseed_pack.proofs.Neighbours.{joins}
use Rattle.mseed_pack.proofs.Times.{reading_first}
use Rattle.std.proofs.Common.{append_assoc, append-nil}
use Rattle.mseed_pack.proofs.Viewed.{HeadersReadBack, PackedSpells, IsAt, at, has_ratio}

-- one after another the views hold these samples of the series, from one on
abbrev pub AreAt : Trace → ℕ → List View → List ℤ → Type 0
AreAt s first [] samples = samples ≡ []
AreAt s first (v ∷ vs) samples =
    (prefix : List ℤ) × ((rest : List ℤ)
    × ((samples ≡ prefix ++ rest) × IsAt s first v prefix × AreAt s (first + length prefix) vs rest))

abbrev pub samples_in : List Piece → List ℤ
samples_in ps = flat_map (λ (p : Piece). p.samples) ps

abbrev pub bytes_in : List View → List (List ℕ)
bytes_in vs = map (λ (v : View). v.bytes) vs

pub record Laid (s : Trace) (first : ℕ) (ps : List Piece) : Type 0 where
  pub views : List View
  pub bytes : bytes_in views ≡ map (λ (p : Piece). p.bytes) ps
  pub at : AreAt s first views (samples_in ps)

-- the views of packed records are such
pub laid : HeadersReadBack → PackedSpells → (s : Trace) (o : Options) → IsTrace s → Fits s o
    → (number first : ℕ) (ps : List Piece) → samples_in ps ≡ drop first s.samples → ArePlaced number first ps
    → AllByRecursion (IsPacked s o) ps → Laid s first ps
laid headers spells s o trace fits number first [] joined placed each = record { views = []; bytes = refl; at = refl }
laid headers spells s o trace fits number first (p ∷ ps) joined placed each =
    let n = length p.samples in
    let own : p.samples ≡ take n (drop p.first s.samples) =
    rw (placed.1, ← joined) (sym (take_at p.samples (samples_in ps) n refl)) in
    let behind : samples_in ps ≡ drop (first + n) s.samples =
    rw (← drop-drop, ← joined) (sym (drop_at p.samples (samples_in ps) n refl)) in
    let rest = laid headers spells s o trace fits (number + 1) (first + n) ps behind placed.2 each.1 in
    record {
      views = headed_view each.0.header p.bytes ∷ rest.views;
      bytes = ap (λ (bs : List (List ℕ)). p.bytes ∷ bs) rest.bytes;
      at = (p.samples, (samples_in ps, (refl, rw placed.1 at (at each.0 headers spells trace fits own), rest.at)));
    }

-- what is so of the view of each record is so of each of these
pub each_at : (s : Trace) (P : View → Type 0) → ((first : ℕ) (v : View) (samples : List ℤ) → IsAt s first v samples
    → P v) → (first : ℕ) (vs : List View) (samples : List ℤ) → AreAt s first vs samples → AllByRecursion P vs
each_at s P is first [] samples h = tt
each_at s P is first (v ∷ vs) samples h =
    (is first v h.0 h.1.1.1, each_at s P is (first + length h.0) vs h.1.0 h.1.1.2)

pub are_views : (s : Trace) (first : ℕ) (vs : List View) (samples : List ℤ) → AreAt s first vs samples
    → AllByRecursion IsView vs
are_views s = each_at s IsView (λ first v samples is. is.is_view)

-- their samples, joined
pub joined_at : (s : Trace) (first : ℕ) (vs : List View) (samples : List ℤ) → AreAt s first vs samples
    → AreJoined vs samples
joined_at s first [] samples h = rw h none
joined_at s first (v ∷ vs) samples h =
    rw h.1.1.0 (one v vs h.0 h.1.0 h.1.1.1.whole (joined_at s (first + length h.0) vs h.1.0 h.1.1.2))

-- of the leap seconds that are left, theirs stand before those that are left after them
pub steps_on : (s : Trace) → AreSteps (length s.samples) s.steps → (first : ℕ) (vs : List View) (samples : List ℤ)
    → AreAt s first vs samples → later s.steps first ≡ steps_from first vs ++ later s.steps (first + length samples)
steps_on s are first [] samples h =
    let none : length samples ≡ 0 = ap (λ (xs : List ℤ). length xs) h in
    let same : first + length samples ≡ first = omega (arith, none) in
    rw same
steps_on s are first (v ∷ vs) samples h =
    let is = h.1.1.1 in
    let n = length h.0 in
    let end : first + length samples ≡ first + n + length h.1.0 =
    omega (arith, simp length-append at (ap (λ (xs : List ℤ). length xs) h.1.1.0)) in
    let pass = passes 0 (length s.samples) s.steps first n are is.some is.within in
    rw (is.count, is.step, end, pass.left, append_assoc, steps_on s are (first + n) vs h.1.0 h.1.1.2)

-- each has one reading
sound : ((v : View) → HasOneReading v) → (s : Trace) (first : ℕ) (v : View) (samples : List ℤ) → IsAt s first v samples
    → IsSound v
sound single s first v samples is = record {
  timed = rw is.rate refl;
  samples = samples;
  whole = is.whole;
  only = λ others r. single v others samples r is.whole.0;
}

-- the next one begins where this one ends
follows_at : (s : Trace) → IsTrace s → ¬ (IsTooFast s) → (first : ℕ) (b v : View) (samples next : List ℤ)
    → IsAt s first b samples → IsAt s (first + length samples) v next → Follows b v
follows_at s trace slow first b v samples next x y =
    let rate = ratio_of s.rate in
    let n = length samples in
    let pass = passes 0 (length s.samples) s.steps first n trace.steps x.some x.within in
    let some = (has_ratio s.rate.factor s.rate.multiplier trace.factor_counts trace.multiplier_counts).1 in
    let exact = joins s.start (added_before s.steps first) (added_before s.steps (first + n))
    (first * rate.den * 10 ^ 6) n rate (step_after s (first + n)) some (omega (arith, slow)) pass.added in
    let way : first * rate.den * 10 ^ 6 + n * rate.den * 10 ^ 6 ≡ (first + n) * rate.den * 10 ^ 6 = omega arith in
    let follows : FollowsAt rate rate b v = record {
      before_is = x.rate;
      next_is = y.rate;
      same = refl;
      one_step = x.reported;
      joins = rw (x.start, x.count, x.step, y.start) (rw way at exact);
    } in
    (rate, (rate, follows))

neighbours_at : (s : Trace) → IsTrace s → ¬ (IsTooFast s) → (first : ℕ) (vs : List View) (samples : List ℤ)
    → AreAt s first vs samples → AllNeighbours Follows vs
neighbours_at s trace slow first [] samples h = tt
neighbours_at s trace slow first (b ∷ []) samples h = tt
neighbours_at s trace slow first (b ∷ (v ∷ vs)) samples h =
    let rest = neighbours_at s trace slow (first + length h.0) (v ∷ vs) h.1.0 h.1.1.2 in
    (follows_at s trace slow first b v h.0 h.1.1.2.0 h.1.1.1 h.1.1.2.1.1.1, rest)

-- the channel is continuous
pub continuous_at : ((v : View) → HasOneReading v) → (s : Trace) → IsTrace s → ¬ (IsTooFast s) → s.samples ≢ []
    → (vs : List View) → AreAt s 0 vs s.samples → IsContinuous vs
continuous_at single s trace slow some vs h = record {
  some = λ e. some (rw e at h);
  each = each_at s IsSound (sound single s) 0 vs s.samples h;
  follow = neighbours_at s trace slow 0 vs s.samples h;
}

-- and its series is this one
pub series_at : (s : Trace) → IsTrace s → s.samples ≢ [] → (vs : List View) → AreAt s 0 vs s.samples → IsSeriesOf s vs
series_at s trace some [] h = absurd (some h)
series_at s trace some (v ∷ vs) h =
    let is = h.1.1.1 in
    let size : 0 + length s.samples ≡ length s.samples = omega arith in
    record {
      first = v;
      rest = vs;
      parts = refl;
      codes = sym is.key;
      start = sym (is.start ∙ reading_first s.start (ratio_of s.rate) s.steps (length s.samples) trace.steps);
      factor = sym is.factor;
      multiplier = sym is.multiplier;
      samples = joined_at s 0 (v ∷ vs) s.samples h;
      steps = sym (before 0 (length s.samples) s.steps 0 (omega arith) trace.steps).all
          ∙ steps_on s trace.steps 0 (v ∷ vs) s.samples h
          ∙ rw (size, none_left 0 (length s.samples) s.steps trace.steps, append-nil);
    }
