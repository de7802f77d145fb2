-- What is kept of a series' leap seconds while its samples are gone through.
use Rattle.std.specs.Prelude.{◌≡◌, ℕ, ◌+◌, ◌*◌, ◌^◌, ◌<◌, ◌≤◌, ℤ, List, [], ◌∷◌, ◌++◌, length, nat_abs}
use Rattle.std.specs.Prelude.{slice_range, take, drop}
use Rattle.std.specs.Borrow.{Bor}
use Rattle.std.specs.List.{AllByRecursion, concat}
use Rattle.mseed_time.specs.declared.outcome.LeapStep.{LeapStep}
use Rattle.mseed_audit.specs.Series.{AreStepsFrom, Trace}
use Rattle.mseed_pack.specs.declared.options.Options.{Options}
use Rattle.mseed_pack.specs.declared.batch.Batch.{Batch}
use Rattle.mseed_pack.specs.declared.batch.Job.{Job}
use Rattle.mseed_pack.specs.declared.batch.PackedSoFar.{PackedSoFar}
use Rattle.mseed_steim.specs.declared.encoding.Encoding.{Encoding}
use Rattle.mseed_pack.specs.declared.payloads.Payloads.{Payloads}
use Rattle.mseed_pack.specs.declared.span.Span.{Span}
use Rattle.mseed_pack.specs.Clock.{added_before}
use Rattle.mseed_pack.specs.Fitting.{Fits}
use Rattle.mseed_stream.specs.Device.{BytesWritten}
use Rattle.mseed_pack.specs.Packing.{IsPacked, PacksUpTo}
use Rattle.mseed_pack.specs.Traces.{headed}
use Rattle.mseed_pack.specs.private.Filling.{StandsInList}

-- how many samples stand before the first of these leap seconds; all, where there's none
abbrev pub end_by : List (ℕ × LeapStep) → ℕ → ℕ
end_by [] size = size
end_by (step ∷ steps) size = step.0

-- The span lies between the leap seconds that were passed and those that are left. It ends within all the samples, and
-- has some where any are left.
pub record IsSpan (steps : List (ℕ × LeapStep)) (size : ℕ) (span : Span) : Type 0 where
  pub few : span.passed ≤ length steps
  pub before : AllByRecursion (λ (step : ℕ × LeapStep). step.0 ≤ span.begin) (take span.passed steps)
  pub behind : AreStepsFrom span.begin size (drop span.passed steps)
  pub end_is : span.end ≡ end_by (drop span.passed steps) size
  pub added_is : span.added ≡ added_before (take span.passed steps) span.begin
  pub added_bound : nat_abs span.added ≤ 10 ^ 6 * span.passed
  pub most : span.end ≤ size
  pub some : span.begin < size → span.begin < span.end

-- the span of a place is the one in which its sample stands, or the one before it where that begins there
pub record StandsAt (steps : List (ℕ × LeapStep)) (size : ℕ) (place : PackedSoFar) : Type 0 where
  pub span : IsSpan steps size place.span
  pub begun : place.span.begin ≤ place.first
  pub ends : place.first ≤ place.span.end
  pub inside : place.first ≤ size
  pub counted : place.number ≤ place.first

-- the samples are a series that fits, and with this filler and supply it's packed from its first sample on
pub record CanBegin {F S : Type 0} (stands : F → S → Encoding → List ℤ → ℕ → Type 0) (job : Job) (filler : F)
    (supply : S) (samples : List ℤ) : Type 0 where
  pub count : length samples ≡ job.head.now.count
  pub fits : Fits (headed job.head.now samples) job.options.now
  pub stands_first : stands filler supply job.options.now.encoding samples 0

-- the samples are a series that fits, and with this filler and supply it's packed on from a place that is none of its
-- last
pub record CanGoOn {F S : Type 0} (stands : F → S → Encoding → List ℤ → ℕ → Type 0) (job : Job) (filler : F)
    (supply : S) (place : PackedSoFar) (samples : List ℤ) : Type 0 where
  pub count : length samples ≡ job.head.now.count
  pub fits : Fits (headed job.head.now samples) job.options.now
  pub standing : StandsAt job.head.now.steps.now job.head.now.count place
  pub more : place.first < job.head.now.count
  pub stands_there : stands filler supply job.options.now.encoding samples place.first

-- the bytes are the records that pack the series up to a place
pub record PacksTo (s : Trace) (o : Options) (place : PackedSoFar) (bytes : List ℕ) : Type 0 where
  pub records : List (List ℕ)
  pub packing : PacksUpTo s o records (drop place.first s.samples)
  pub count_is : place.number ≡ length records
  pub long : length bytes ≡ place.number * 2 ^ o.exponent
  pub bytes_are : concat records ≡ bytes

-- after any that pack it up to one place, the bytes pack it on to another
pub record PacksOn (s : Trace) (o : Options) (place next : PackedSoFar) (bytes : List ℕ) : Type 0 where
  pub after : (before : List ℕ) → PacksTo s o place before → PacksTo s o next (before ++ bytes)

-- the sink accepted bytes that pack up to a place whatever samples begin so, and none of its calls failed
pub record Emits (job : Job) (place : PackedSoFar) (begins : List ℤ → Type 0) (old new : BytesWritten) : Type 0 where
  pub bytes : List ℕ
  pub to : (samples : List ℤ) → begins samples
      → PacksTo (headed job.head.now samples) job.options.now place bytes
  pub grown : new.bytes ≡ old.bytes ++ bytes
  pub fine : new.failures ≡ old.failures

-- some were packed from a place to the next into these bytes
pub record ComesTo {F S : Type 0} (stands : F → S → Encoding → List ℤ → ℕ → Type 0) (job : Job) (filler : F)
    (supply : S) (place next : PackedSoFar) (bytes : List ℕ) (samples : List ℤ) : Type 0 where
  pub on : PacksOn (headed job.head.now samples) job.options.now place next bytes
  pub stands_next : stands filler supply job.options.now.encoding samples next.first

-- a record holds so many of them, from a place on
pub record IsRecorded {F S : Type 0} (stands : F → S → Encoding → List ℤ → ℕ → Type 0) (job : Job) (filler : F)
    (supply : S) (place : PackedSoFar) (count : ℕ) (bytes : List ℕ) (samples : List ℤ) : Type 0 where
  pub packed : IsPacked (headed job.head.now samples) job.options.now (record {
    number = place.number;
    first = place.first;
    samples = slice_range samples place.first (place.first + count);
    bytes = bytes;
  })
  pub stands_after : stands filler supply job.options.now.encoding samples (place.first + count)

-- so many bytes of records from a place on were put over a room, as many of them as it has
pub record IsFilledTo (job : Job) (payloads : Payloads) (list : Bor (List ℤ)) (place : PackedSoFar) (batch : Batch)
    (old new : List ℕ) (samples : List ℤ) : Type 0 where
  pub bytes : List ℕ
  pub to : ComesTo StandsInList job payloads list place batch.next bytes samples
  pub room : new ≡ take (length old) bytes ++ drop (length bytes) old
  pub count : batch.bytes ≡ length bytes
