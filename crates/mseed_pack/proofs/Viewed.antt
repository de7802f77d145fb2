-- A packed record's bytes are a record, and its view says what was packed.
use Rattle.std.proofs.Common.{◌≡◌, ◌≢◌, ℕ, zero, suc, ◌+◌, ◌-◌, ◌^◌, ◌<◌, ◌≤◌, ◌==◌, cond, List, [], ◌∷◌, length, take}
use Rattle.std.proofs.Common.{drop, refl, sym, ap, ◌∙◌, arith, ℤ, pos, negsuc, All, Option, Some}
use Rattle.std.proofs.Common.{None, unwrap_or, length-append, w8}
use Rattle.std.specs.Prelude.{slice_get}
use Rattle.std.specs.Int.{bit_at}
use Rattle.std.proofs.Math.Pow.{pow_mono}
use Rattle.std.proofs.lemmas.Int.{fits_signed_from_abs, ints}
use Rattle.std.proofs.lemmas.List.{length-drop, length-take-le, length-take, take-take, take-append-drop}
use Rattle.std.proofs.lemmas.List.Elements.{All-take, All-drop}
use Rattle.mseed_time.specs.declared.order.Order.TheVariants.{Big}
use Rattle.mseed_time.specs.declared.outcome.LeapStep.{LeapStep}
use Rattle.mseed_time.specs.declared.outcome.LeapStep.TheVariants.{Plus, Minus}
use Rattle.mseed_time.specs.Btime.{Parts, first_fault}
use Rattle.mseed_time.specs.Rate.{Ratio, rate_of}
use Rattle.mseed_time.proofs.Reading.{first_fault-none}
use Rattle.mseed_time.specs.Ratios.{ratio_of}
use Rattle.mseed_record.specs.declared.leap.Leap.{Leap}
use Rattle.mseed_record.specs.declared.leap.Leap.TheVariants.{None as NoLeap, Positive, Negative, Both}
use Rattle.mseed_record.specs.Header.{key_at, time_at, factor_at, multiplier_at, activity_at}
use Rattle.mseed_record.specs.View.{View, IsView, start_of, leap_of, payload_of}
use Rattle.mseed_record.specs.Written.{Header, IsWritable, IsHeaded, ReadsBack, headed_view}
use Rattle.mseed_steim.specs.declared.scheme.Scheme.{Scheme}
use Rattle.mseed_steim.specs.declared.scheme.Scheme.TheVariants.{One as Steim1s, Two as Steim2s}
use Rattle.mseed_steim.specs.declared.form.Width.TheVariants.{Two, Four}
use Rattle.mseed_steim.specs.declared.form.Form.{Form}
use Rattle.mseed_steim.specs.declared.form.Form.TheVariants.{Integers, Frames}
use Rattle.mseed_steim.specs.Frames.{DataWord, data_words, first_constant}
use Rattle.mseed_steim.specs.Runs.{SpellsRun}
use Rattle.mseed_steim.specs.Samples.{form_of, IsSample, StartsAndAdds, IsPayloadReading, EndsOnConstant}
use Rattle.mseed_steim.specs.Reading.{count_of, IsWhole}
use Rattle.mseed_steim_pack.specs.Packing.{PacksRun}
use Rattle.mseed_audit.specs.Judging.{step_in, known_rate}
use Rattle.mseed_audit.specs.Series.{Trace}
use Rattle.mseed_steim.specs.declared.encoding.Encoding.{Encoding}
use Rattle.mseed_steim.specs.declared.encoding.Encoding.TheVariants.{Int16, Int32, Steim1, Steim2}
use Rattle.mseed_pack.specs.declared.options.Options.{Options}
use Rattle.mseed_pack.specs.Options.{code_of}
use Rattle.mseed_pack.specs.Clock.{instant_at}
use Rattle.mseed_pack.specs.Fitting.{IsSampleOf, Fits}
use Rattle.mseed_pack.specs.Outcome.{IsTrace}
use Rattle.mseed_pack.specs.Packing.{Piece, HoldsFrames, HoldsSamples, IsPacked}
use Rattle.mseed_pack.specs.Stretches.{differences, span_end, left_of, flags_of, step_after}
use Rattle.mseed_pack.proofs.Room.{run_few, words_fit}
use Rattle.mseed_pack.proofs.Spellings.{begins, length-all}
use Rattle.mseed_pack.proofs.Leaps.{end_in}
use Rattle.mseed_pack.proofs.Sums.{starts}

-- what the layers below say: a written header reads back, and packed words spell what they take
abbrev pub HeadersReadBack : Type 0
HeadersReadBack = (h : Header) (b : List ℕ) → IsWritable h → IsHeaded h b → ReadsBack h b

abbrev pub PackedSpells : Type 0
PackedSpells = (s : Scheme) (ws : List DataWord) (ds : List ℤ) (used : ℕ) → PacksRun s ws ds (drop used ds)
    → SpellsRun s ws (take used ds)

-- how an encoding holds samples
abbrev form_in : Encoding → Form
form_in Int16 = Integers Two
form_in Int32 = Integers Four
form_in Steim1 = Frames Steim1s
form_in Steim2 = Frames Steim2s

form_is : (e : Encoding) → form_of (code_of e) ≡ Some (form_in e)
form_is Int16 = refl
form_is e = refl

-- what is known of a record's samples and of the differences that are left at its first
record Slice (e : Encoding) (left samples : List ℤ) : Type 0 where
  some : 0 < length samples
  within : length samples ≤ length left
  sums : (first : ℤ) → slice_get samples 0 ≡ Some first → StartsAndAdds first (take (length samples) left) samples
  fit : All (IsSampleOf e) samples

-- What a payload says: the samples' reading, which ends on its constants. In 4096 bytes they are fewer than 2^16.
record Held (form : Form) (samples : List ℤ) (payload : List ℕ) : Type 0 where
  reading : IsPayloadReading form Big payload (length samples) samples
  ends : EndsOnConstant form payload samples
  few : length payload ≤ 4096 → length samples < 2 ^ 16

framed : PackedSpells → (e : Encoding) (scheme : Scheme) (left samples : List ℤ) (frames : ℕ) (payload : List ℕ)
    → Slice e left samples → All IsSample samples → HoldsFrames scheme left samples frames payload
    → Held (Frames scheme) samples payload
framed spells e scheme left samples frames payload slice small h =
    let ws = data_words payload in
    let size = length-take-le (length samples) left slice.within in
    record {
      reading = (
        refl,
        record {
          count = refl;
          prefix = take h.words ws;
          rest = drop h.words ws;
          cut = sym (take-append-drop h.words ws);
          differences = take (length samples) left;
          spelled = spells scheme (take h.words ws) left (length samples) h.packed;
          enough = omega arith;
          sums = slice.sums (first_constant payload) h.first_is;
        },
        small,
      );
      ends = h.last_is;
      few = λ short.
          let run = run_few scheme (take h.words ws) left (drop (length samples) left) h.packed in
          let used = length-take-le h.words ws h.inside in
          omega (arith, words_fit payload, length-drop (length samples) left);
    }

held : PackedSpells → (e : Encoding) (left samples : List ℤ) (frames : ℕ) (payload : List ℕ) → Slice e left samples
    → HoldsSamples e left samples frames payload → Held (form_in e) samples payload
held spells Steim1 left samples frames payload slice h =
    framed spells Steim1 Steim1s left samples frames payload slice slice.fit h
held spells Steim2 left samples frames payload slice h =
    framed spells Steim2 Steim2s left samples frames payload slice slice.fit h
held spells e left samples frames payload slice h = record {
  reading = (refl, begins _ samples [] _ payload 0 h.bytes refl slice.fit);
  ends = tt;
  few = λ small. omega (arith, simp (length-append, length-all) at (ap (λ (xs : List ℕ). length xs) h.bytes));
}

-- the leap second that the flags tell
abbrev leap_by : ℕ → Leap
leap_by flags =
    cond (bit_at flags 4 == 1) (cond (bit_at flags 5 == 1) Both Positive) (cond (bit_at flags 5 == 1) Negative NoLeap)

reported : (o : Option LeapStep) → (step_in (leap_by (flags_of o)) ≡ o) × (leap_by (flags_of o) ≢ Both)
reported None = (refl, λ e. cc)
reported (Some Plus) = (refl, λ e. cc)
reported (Some Minus) = (refl, λ e. cc)

-- a rate that isn't 0 has its ratio
pub has_ratio : (f m : ℤ) → f ≢ pos 0 → m ≢ pos 0
    → (rate_of f m ≡ Some (unwrap_or (rate_of f m) (record { num = 0; den = 0 })))
    × (0 < (unwrap_or (rate_of f m) (record { num = 0; den = 0 })).num)
has_ratio (pos zero) m f_counts m_counts = absurd (f_counts refl)
has_ratio (pos (suc f)) (pos zero) f_counts m_counts = absurd (m_counts refl)
has_ratio (negsuc f) (pos zero) f_counts m_counts = absurd (m_counts refl)
has_ratio f m f_counts m_counts = (refl, omega arith)

-- What the view of a record says that holds these samples of the series, with so many before them.
pub record IsAt (s : Trace) (first : ℕ) (v : View) (samples : List ℤ) : Type 0 where
  pub is_view : IsView v
  pub some : 0 < length samples
  pub within : first + length samples ≤ end_in s.steps (length s.samples) first
  pub key : key_at v.bytes ≡ s.codes
  pub factor : factor_at v.order v.bytes ≡ s.rate.factor
  pub multiplier : multiplier_at v.order v.bytes ≡ s.rate.multiplier
  pub rate : known_rate v ≡ Some (ratio_of s.rate)
  pub start : start_of v ≡ instant_at s first
  pub count : count_of v ≡ length samples
  pub step : step_in (leap_of v.bytes) ≡ step_after s (first + length samples)
  pub reported : leap_of v.bytes ≢ Both
  pub whole : IsWhole v samples

known : (v : View) (t : Parts) (f m : ℤ) (r : Ratio) → time_at v.order v.bytes ≡ t → first_fault t ≡ None
    → factor_at v.order v.bytes ≡ f → multiplier_at v.order v.bytes ≡ m → rate_of f m ≡ Some r → known_rate v ≡ Some r
known v t f m r time valid factor multiplier rate = cc

first_take : (n : ℕ) (xs : List ℤ) (x : ℤ) → slice_get (take n xs) 0 ≡ Some x → slice_get xs 0 ≡ Some x
first_take zero xs x e = cc
first_take (suc n) [] x e = cc
first_take (suc n) (y ∷ ys) x e = e

-- no sample stands after the next leap second
pub short : (s : Trace) (p : Piece) → length p.samples ≤ length (left_of s p.first)
    → length p.samples ≤ span_end s p.first - p.first
short s p h = omega (arith, h, length-take (span_end s p.first - p.first) (drop p.first (differences s.samples)))

module _ {s : Trace} {o : Options} {p : Piece} (k : IsPacked s o p) where
  -- the record's own samples and differences
  slice_of : Fits s o → p.samples ≡ take (length p.samples) (drop p.first s.samples)
      → Slice o.encoding (left_of s p.first) p.samples
  slice_of fits here =
      let n = length p.samples in
      record {
        some = k.some;
        within = k.within;
        sums = λ first e. rw (take-take n (span_end s p.first - p.first) (drop p.first (differences s.samples))
            (short s p k.within)) (rw (← here) at (starts s.samples p.first n first
            (first_take n (drop p.first s.samples) first (rw here at e))));
        fit = rw here (All-take (IsSampleOf o.encoding) n (drop p.first s.samples)
            (All-drop (IsSampleOf o.encoding) p.first s.samples fits.samples));
      }

  -- what the header says fits its fields
  writable : IsTrace s → (length (drop 64 p.bytes) ≤ 4096 → length p.samples < 2 ^ 16) → IsWritable k.header
  writable trace few =
      let long : 2 ^ k.header.exponent ≤ 4096 =
      pow_mono {i = k.header.exponent} {j = 12} (rw k.fields.exponent o.short) in
      record {
        key = ap (λ (xs : List ℕ). length xs) k.fields.key ∙ trace.key;
        time = k.fields.start.valid;
        samples = rw k.fields.samples (few (omega (arith, k.headed.size, long, length-drop 64 p.bytes)));
        factor = rw k.fields.factor trace.factor;
        multiplier = rw k.fields.multiplier trace.multiplier;
        microseconds = fits_signed_from_abs w8 k.header.microseconds (omega (arith, ints, k.fields.start));
      }

  whole_of : Held (form_in o.encoding) p.samples (drop 64 p.bytes) → ReadsBack k.header p.bytes
      → IsWhole (headed_view k.header p.bytes) p.samples
  whole_of holds back =
      let v = headed_view k.header p.bytes in
      let form : form_of v.encoding ≡ Some (form_in o.encoding) = ap form_of k.fields.encoding ∙ form_is o.encoding in
      let payload : payload_of v ≡ drop 64 p.bytes = back.payload in
      let count : count_of v ≡ length p.samples = back.samples ∙ k.fields.samples in (
        record {
          some = rw count k.some;
          one_rate = refl;
          form = form_in o.encoding;
          encoding = form;
          payload = back.has_payload;
          spelled = rw (payload, count) holds.reading;
        },
        λ other e. let same : other ≡ form_in o.encoding = cc (form, e) in rw (same, payload) holds.ends,
      )

  pub at : HeadersReadBack → PackedSpells → IsTrace s → Fits s o
      → p.samples ≡ take (length p.samples) (drop p.first s.samples)
      → IsAt s p.first (headed_view k.header p.bytes) p.samples
  at headers spells trace fits here =
      let v = headed_view k.header p.bytes in
      let holds = held spells o.encoding (left_of s p.first) p.samples k.frames (drop 64 p.bytes) (slice_of fits here)
      k.payload in
      let back = headers k.header p.bytes (writable trace holds.few) k.headed in
      let factor : factor_at v.order v.bytes ≡ s.rate.factor = back.factor ∙ k.fields.factor in
      let multiplier : multiplier_at v.order v.bytes ≡ s.rate.multiplier = back.multiplier ∙ k.fields.multiplier in
      let flags : activity_at v.bytes ≡ flags_of (step_after s (p.first + length p.samples)) =
      back.activity ∙ k.fields.activity in
      let leap : leap_of v.bytes ≡ leap_by (flags_of (step_after s (p.first + length p.samples))) = ap leap_by flags in
      let tells = reported (step_after s (p.first + length p.samples)) in
      let within = short s p k.within in
      record {
        is_view = back.is_view;
        some = k.some;
        within = omega (arith, k.some);
        key = back.key ∙ k.fields.key;
        factor = factor;
        multiplier = multiplier;
        rate = known v k.header.start s.rate.factor s.rate.multiplier (ratio_of s.rate) back.time
            (first_fault-none k.header.start k.fields.start.valid) factor multiplier
            (has_ratio s.rate.factor s.rate.multiplier trace.factor_counts trace.multiplier_counts).0;
        start = back.start ∙ k.fields.start.value;
        count = back.samples ∙ k.fields.samples;
        step = ap step_in leap ∙ tells.0;
        reported = λ e. tells.1 (sym leap ∙ e);
        whole = whole_of holds back;
      }
