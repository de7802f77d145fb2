-- What is so of the series of a channel's records.
use Rattle.std.proofs.Common.{◌≡◌, ◌≢◌, ℕ, zero, suc, ℤ, pos, negsuc, ◌+◌, ◌*◌, ◌^◌, ◌<◌, ◌≤◌, ◌+ℤ◌}
use Rattle.std.proofs.Common.{List, [], ◌∷◌, ◌++◌, length, Option, Some, None, IsSome}
use Rattle.std.proofs.Common.{FitsSigned, sym, ap, ◌∙◌, arith, length-append}
use Rattle.std.specs.Prelude.{flat_map, neg_ℤ, ◌≤ℤ◌, ◌*ℤ◌}
use Rattle.std.specs.Int.{w16}
use Rattle.std.specs.List.{filter, AllByRecursion}
use Rattle.std.proofs.lemmas.Bool.{false≢true}
use Rattle.std.proofs.lemmas.Bool.Decides.{nat_tests}
use Rattle.std.proofs.lemmas.Int.{ints}
use Rattle.byteorder.specs.Endian.{twos_complement}
use Rattle.mseed_time.specs.declared.fault.TimeFault.{TimeFault}
use Rattle.mseed_time.specs.declared.order.Order.{Order}
use Rattle.mseed_time.specs.declared.outcome.LeapStep.{LeapStep}
use Rattle.mseed_time.specs.Btime.{Parts, IsInstant, day_of}
use Rattle.mseed_time.specs.Fields.{number_at}
use Rattle.mseed_time.specs.Naming.{Names}
use Rattle.mseed_time.specs.Rate.{Ratio, rate_of}
use Rattle.mseed_time.specs.Ratios.{ratio_of}
use Rattle.mseed_time.proofs.Ranges.{day_within, year_days}
use Rattle.mseed_record.specs.Header.{factor_at, multiplier_at}
use Rattle.mseed_record.specs.View.{View, IsView, leap_of}
use Rattle.mseed_record.proofs.Bytes.{key_long}
use Rattle.mseed_record.proofs.Called.{record_long}
use Rattle.mseed_steim.specs.Reading.{count_of}
use Rattle.mseed_stream.proofs.Records.{view_record}
use Rattle.mseed_audit.specs.Channels.{is_of_channel}
use Rattle.mseed_audit.specs.Follows.{IsContinuous}
use Rattle.mseed_audit.specs.Judging.{rate_unless, rate_in, time_fault_of, step_in}
use Rattle.mseed_audit.specs.Series.{Trace, AreJoined, none, one, AreStepsFrom, AreSteps, IsSeriesOf, step_at}
use Rattle.mseed_audit.specs.Series.{steps_from}
use Rattle.mseed_audit.proofs.Joined.{count_is}
use Rattle.mseed_pack.specs.Clock.{instant_at}
use Rattle.mseed_pack.specs.Fitting.{Fits}
use Rattle.mseed_pack.specs.Outcome.{IsTrace}
use Rattle.mseed_pack.specs.Packing.{IsPacked, IsPacking, Piece, ArePlaced}
use Rattle.mseed_pack.specs.declared.options.Options.{Options}
use Rattle.std.proofs.ByRecursion.{all_kept_by}
use Rattle.mseed_steim.specs.Frames.{AreOctets}
use Rattle.mseed_steim.proofs.Integers.{number_lt}
use Rattle.mseed_pack.proofs.Times.{reading_first}

-- a signed number of two bytes
fits_16 : (n : ℕ) → n < 2 ^ 16 → FitsSigned w16 (twos_complement 2 n)
fits_16 n h = grind (arith, nat_tests, ints)

fits_at : (order : Order) (b : List ℕ) (o : ℕ) → AreOctets b
    → FitsSigned w16 (twos_complement 2 (number_at order 2 o b))
fits_at order b o octets = fits_16 (number_at order 2 o b) (number_lt order 2 o b octets)

-- a factor and a multiplier that give a rate count
rate_counts : (f m : ℤ) → IsSome (rate_of f m) → (f ≢ pos 0) × (m ≢ pos 0)
rate_counts (pos zero) m some = absurd (false≢true some)
rate_counts (pos (suc f)) (pos zero) some = absurd (false≢true some)
rate_counts (negsuc f) (pos zero) some = absurd (false≢true some)
rate_counts f m some = (λ e. omega (arith, ints, e), λ e. omega (arith, ints, e))

some_rate : (o : Option TimeFault) (r : Option Ratio) → IsSome (rate_unless o r) → IsSome r
some_rate None r some = some
some_rate (Some fault) r some = absurd (false≢true some)

-- leap seconds stand after samples
lower : (a b size : ℕ) (xs : List (ℕ × LeapStep)) → a ≤ b → AreStepsFrom b size xs → AreStepsFrom a size xs
lower a b size [] le h = tt
lower a b size (x ∷ xs) le h = (omega (arith, h.0, le), h.1, h.2)

one_step : (place n size : ℕ) (o : Option LeapStep) (xs : List (ℕ × LeapStep)) → 0 < n → place + n ≤ size
    → AreStepsFrom (place + n) size xs → AreStepsFrom place size (step_at (place + n) o ++ xs)
one_step place n size None xs some inside h = lower place (place + n) size xs (omega arith) h
one_step place n size (Some step) xs some inside h = (omega (arith, some), inside, h)

steps_in : (place : ℕ) (vs : List View) (samples : List ℤ) → AreJoined vs samples
    → AreStepsFrom place (place + length samples) (steps_from place vs)
steps_in place [] [] none = tt
steps_in place [] (s ∷ samples) joined = elim joined [ ]
steps_in place (v ∷ vs) _ (one _ _ first rest is later) =
    let n : ℕ = count_of v in
    let count : length first ≡ n = count_is v first is in
    let some : 0 < n = is.0.some in
    let size : place + n + length rest ≡ place + length (first ++ rest) =
    omega (arith, count, length-append first rest) in
    one_step place n (place + length (first ++ rest)) (step_in (leap_of v.bytes)) (steps_from (place + n) vs) some
    (omega (arith, size)) (rw size at (steps_in (place + n) vs rest later))

-- the instants that have a name
within : (day : ℤ) (hour minute second fraction : ℕ) (us instant : ℤ) → neg_ℤ (pos 30_000) ≤ℤ day → day ≤ℤ pos 50_000
    → hour ≤ 23 → minute ≤ 59 → second ≤ 60 → fraction ≤ 9999
    → neg_ℤ (pos 50) ≤ℤ us → us ≤ℤ pos 49
    → (((day *ℤ pos 24 +ℤ pos hour) *ℤ pos 60 +ℤ pos minute) *ℤ pos 60 +ℤ pos second) *ℤ pos (10 ^ 6) +ℤ pos
    (100 * fraction) +ℤ us ≡ instant → IsInstant instant
within day hour minute second fraction us instant low high h m s f below above e = (
  omega (arith, ints, low, high, h, m, s, f, below, above, e),
  omega (arith, ints, low, high, h, m, s, f, below, above, e),
)

named : (instant : ℤ) (t : Parts) (us : ℤ) → Names instant t us → IsInstant instant
named instant t us n =
    let valid = n.valid in
    let few = year_days t.year in
    let day = day_within t.year t.day valid.0 valid.1 valid.2 (omega (arith, valid.3, few)) in
    within (day_of t.year t.day) t.hour t.minute t.second t.fraction us instant day.0 day.1 valid.4 valid.5 valid.6
    valid.7 n.low n.high n.value

-- the first sample has the instant at which the series starts
start_within : (s : Trace) (o : Options) (pieces : List Piece) (samples : List ℤ) → AreSteps (length s.samples) s.steps
    → samples ≢ [] → flat_map (λ (p : Piece). p.samples) pieces ++ [] ≡ samples → ArePlaced 0 0 pieces
    → AllByRecursion (IsPacked s o) pieces → IsInstant s.start
start_within s o [] samples steps some joined placed each = absurd (some (sym joined))
start_within s o (p ∷ ps) samples steps some joined placed each =
    let first : instant_at s p.first ≡ s.start =
    rw placed.1 (reading_first s.start (ratio_of s.rate) s.steps (length s.samples) steps) in
    named s.start each.0.header.start each.0.header.microseconds (rw first at each.0.fields.start)

-- each record of a channel is one
pub kept_views : (key : List ℕ) (vs : List View) → AllByRecursion IsView vs
    → AllByRecursion IsView (filter (is_of_channel key) vs)
kept_views key = all_kept_by (is_of_channel key) IsView

-- what is so of the trace of every series, of that of records
pub is_trace : (s : Trace) (o : Options) (vs : List View) (records : List (List ℕ)) → AllByRecursion IsView vs
    → IsContinuous vs → IsSeriesOf s vs → Fits s o → IsPacking s o records → IsTrace s
is_trace s o vs records each continuous series fits packing =
    let first : View = series.first in
    let view = (rw series.parts at each).0 in
    let sound = (rw series.parts at continuous.each).0 in
    let octets = view.1.1.1.record_is.octets in
    let counts = rate_counts (factor_at first.order first.bytes) (multiplier_at first.order first.bytes)
    (some_rate (time_fault_of first) (rate_in first) sound.timed) in
    let size : 0 + length s.samples ≡ length s.samples = omega arith in
    let steps : AreSteps (length s.samples) s.steps =
    rw series.steps (rw size at (steps_in 0 vs s.samples series.samples)) in
    record {
      key = ap (λ (k : List ℕ). length k) series.codes
          ∙ key_long first.bytes (omega (arith, record_long first.bytes (view_record first view)));
      start = start_within s o packing.pieces s.samples steps fits.some packing.joined packing.placed packing.each;
      factor = rw series.factor (fits_at first.order first.bytes 32 octets);
      factor_counts = λ e. counts.0 (sym series.factor ∙ e);
      multiplier = rw series.multiplier (fits_at first.order first.bytes 34 octets);
      multiplier_counts = λ e. counts.1 (sym series.multiplier ∙ e);
      steps = steps;
    }
