-- Steps of filling a payload.
use Rattle.std.specs.Prelude.{◌≡◌, ℕ, ◌+◌, ◌-◌, ◌*◌, ◌/◌, ◌%◌, ◌^◌, ◌<◌, ◌≤◌, List, length, drop, min}
use Rattle.std.specs.Prelude.{slice_index_or, slice_range, ℤ, pos, neg_ℤ, ◌≤ℤ◌, ◌<ℤ◌, All}
use Rattle.std.specs.Prelude.{◌⊎◌, Ok}
use Rattle.std.specs.Borrow.{Bor}
use Rattle.byteorder.specs.Endian.{big_bytes}
use Rattle.mseed_steim.specs.Spelling.{IsWithin, residue}
use Rattle.mseed_steim_pack.specs.declared.ahead.Lookahead.{Lookahead}
use Rattle.mseed_steim_pack.specs.declared.pack.Packed.{Packed}
use Rattle.mseed_steim_pack.specs.Lookahead.{IsLookahead}
use Rattle.mseed_steim_pack.specs.Packed.{IsRunPacked}
use Rattle.mseed_pack.specs.declared.frames.Frames.{Frames}
use Rattle.mseed_pack.specs.declared.integers.Width.{Width}
use Rattle.mseed_pack.specs.declared.listed.Listed.{Listed}
use Rattle.mseed_steim.specs.declared.encoding.Encoding.{Encoding}
use Rattle.mseed_steim.specs.declared.encoding.Encoding.TheVariants.{Int16, Int32, Steim1, Steim2}
use Rattle.mseed_pack.specs.declared.payload.Filled.{Filled}
use Rattle.mseed_pack.specs.declared.payload.Remaining.{Remaining}
use Rattle.mseed_pack.specs.declared.payloads.Payloads.{Payloads}
use Rattle.mseed_pack.specs.declared.window.TheConstants.{MOST_DIFFERENCES}
use Rattle.mseed_pack.specs.declared.window.Window.{Window}
use Rattle.mseed_pack.specs.private.KnownSamples.{AreKnownSamples, sample_before}
use Rattle.mseed_pack.specs.Packing.{HoldsFrames, HoldsSamples}
use Rattle.mseed_pack.specs.Stretches.{differences}
use Rattle.mseed_pack.specs.declared.integers.Width.TheVariants.{Two as Short, Four as Long}
use Rattle.mseed_steim.specs.declared.fault.Ends.{Ends}
use Rattle.mseed_steim.specs.declared.scheme.Scheme.{Scheme}
use Rattle.mseed_steim.specs.declared.scheme.Scheme.TheVariants.{One, Two}
use Rattle.mseed_steim.specs.Frames.{code_at, data_words, first_constant, last_constant}

-- in frames q that were p, the words 1 and 2 were made the first and the last sample, and nothing else changed
pub record AreSet (p q : List ℕ) (first last : ℤ) : Type 0 where
  pub words : data_words q ≡ data_words p
  pub codes : (k : ℕ) → code_at q k ≡ code_at p k
  pub first_is : first_constant q ≡ first
  pub last_is : last_constant q ≡ last

-- the widest difference of a scheme
abbrev pub width_of : Scheme → ℕ
width_of One = 32
width_of Two = 30

-- the bytes of an integer of a width
abbrev pub bytes_in : Width → ℕ
bytes_in Short = 2
bytes_in Long = 4

-- an integer in big-endian two's complement of so many bytes
abbrev pub integer_bytes : ℕ → ℤ → List ℕ
integer_bytes width z = big_bytes width (residue (2 ^ (8 * width)) z)

-- the window holds the differences of the samples from its first on, up to its end, and marks among the samples
pub record HoldsDifferences (samples : List ℤ) (window : Window) : Type 0 where
  pub order : window.first ≤ window.end
  pub inside : window.end ≤ length samples
  pub few : window.end ≤ window.first + MOST_DIFFERENCES
  pub each : (k : ℕ) → k < window.end - window.first
      → slice_index_or window.differences k (pos 0) ≡ slice_index_or (differences samples) (window.first + k) (pos 0)
  pub marked : AreKnownSamples samples window.marks

-- a number less than a limit, and no less than its negative
abbrev pub IsUnder : ℤ → ℤ → Type 0
IsUnder limit z = (neg_ℤ limit ≤ℤ z) × (z <ℤ limit)

-- so are four of some numbers, so many apart
abbrev pub AreFourUnder : ℤ → List ℤ → ℕ → ℕ → Type 0
AreFourUnder limit zs index part =
    (j : ℕ) → j < 4 → IsUnder limit (slice_index_or zs (index + j * part) (pos 0))

-- some are left
pub record AreRemaining (samples : List ℤ) (left : Remaining) : Type 0 where
  pub some : left.first < left.end
  pub inside : left.end ≤ length samples

-- frames, as a record's payload has them
pub record AreFrames (payload : List ℕ) : Type 0 where
  pub long : 64 ≤ length payload
  pub short : length payload ≤ 4032
  pub whole : length payload % 64 ≡ 0

-- some of them were put there
pub record AreTaken (left : Remaining) (count : ℕ) : Type 0 where
  pub some : 0 < count
  pub within : left.first + count ≤ left.end
  pub few : count < 2 ^ 16

-- What was packed of the differences up to a place, but for the first and the last sample: of all that are left, or of
-- seven for each word.
pub record Fills (scheme : Scheme) (samples : List ℤ) (left : Remaining) (until : ℕ) (packed : Packed)
    (payload : List ℕ) : Type 0 where
  pub are_left : AreRemaining samples left
  pub frames : AreFrames payload
  pub most : until ≤ left.end
  pub enough : (until ≡ left.end) ⊎ (left.first + 7 * (length payload / 4) ≤ until)
  pub run : IsRunPacked scheme (slice_range (differences samples) left.first until) payload (Ok packed)

-- the payload holds so many of those that are left, as the encoding has them
abbrev pub IsFilled : Encoding → List ℤ → Remaining → Filled → List ℕ → Type 0
IsFilled encoding samples left filled payload =
    HoldsSamples encoding (slice_range (differences samples) left.first left.end)
    (slice_range samples left.first (left.first + filled.samples)) filled.frames payload

-- the same, in frames
abbrev pub HoldsInFrames : Scheme → List ℤ → Remaining → Filled → List ℕ → Type 0
HoldsInFrames scheme samples left filled payload =
    HoldsFrames scheme (slice_range (differences samples) left.first left.end)
    (slice_range samples left.first (left.first + filled.samples)) filled.frames payload

-- a list of these samples, of which so many were given, supplies their differences
pub record IsListed (list : Listed) (samples : List ℤ) (given : ℕ) : Type 0 where
  pub samples_are : list.samples.now ≡ samples
  pub given_is : list.given ≡ given
  pub inside : given ≤ length samples
  pub fits : All (IsWithin 32) (differences samples)

-- the window holds differences of the samples around a place, and the supply goes on after them
pub record Draws {S : Type 0} (supplies : S → List ℤ → ℕ → Type 0) (samples : List ℤ) (supply : S) (window : Window)
    (place : ℕ) : Type 0 where
  pub held : HoldsDifferences samples window
  pub supplied : supplies supply samples window.end
  pub low : window.first ≤ place
  pub high : place ≤ window.end

-- frames before the first sample of a series
pub record AreBegun (frames : Frames) (first : ℤ) : Type 0 where
  pub before : frames.before ≡ first
  pub low : frames.window.first ≡ 0
  pub high : frames.window.end ≡ 0
  pub held : (samples : List ℤ) → first ≡ slice_index_or samples 0 (pos 0) → HoldsDifferences samples frames.window
  pub known : (scheme : Scheme) (ds : List ℤ) → IsLookahead scheme frames.known ds

-- a scheme holds the samples and their differences, of which this is known from a place on
pub record AreAhead (ahead : Lookahead) (scheme : Scheme) (samples : List ℤ) (place : ℕ) : Type 0 where
  pub fit : All (IsWithin 32) samples
  pub differences_fit : All (IsWithin (width_of scheme)) (differences samples)
  pub known : IsLookahead scheme ahead (drop place (differences samples))

-- frames go on in a scheme at a place of the samples, whose differences it holds
pub record GoesOn {S : Type 0} (supplies : S → List ℤ → ℕ → Type 0) (frames : Frames) (supply : S) (scheme : Scheme)
    (samples : List ℤ) (place : ℕ) : Type 0 where
  pub draws : Draws supplies samples supply frames.window place
  pub before : frames.before ≡ sample_before samples place
  pub ahead : AreAhead frames.known scheme samples place
  pub few : length samples < 2 ^ 64

-- frames hold differences of the samples that are left: of all, or at least seven for each word of so many bytes
pub record Holds (frames : Frames) (scheme : Scheme) (samples : List ℤ) (left : Remaining) (bytes : ℕ) : Type 0 where
  pub held : HoldsDifferences samples frames.window
  pub low : frames.window.first ≤ left.first
  pub high : min left.end (left.first + 7 * (bytes / 4)) ≤ frames.window.end
  pub before : frames.before ≡ sample_before samples left.first
  pub ahead : AreAhead frames.known scheme samples left.first
  pub are_left : AreRemaining samples left

-- frames go on so in an encoding, which is either Steim
abbrev pub GoesOnIn : {S : Type 0} → (S → List ℤ → ℕ → Type 0) → Frames → S → Encoding → List ℤ → ℕ → Type 0
GoesOnIn supplies frames supply Int16 samples place = ⊥
GoesOnIn supplies frames supply Int32 samples place = ⊥
GoesOnIn supplies frames supply Steim1 samples place = GoesOn supplies frames supply One samples place
GoesOnIn supplies frames supply Steim2 samples place = GoesOn supplies frames supply Two samples place

-- in an encoding, payloads go on at a place of these samples
abbrev pub GoOnAt : Payloads → Encoding → List ℤ → ℕ → Type 0
GoOnAt payloads Int16 samples place = All (IsWithin 16) samples
GoOnAt payloads Int32 samples place = All (IsWithin 32) samples
GoOnAt payloads Steim1 samples place = AreAhead payloads.known One samples place
GoOnAt payloads Steim2 samples place = AreAhead payloads.known Two samples place

-- a list is these samples, at a place of which payloads go on
abbrev pub StandsInList : Payloads → Bor (List ℤ) → Encoding → List ℤ → ℕ → Type 0
StandsInList payloads list encoding samples place = (list.now ≡ samples) × GoOnAt payloads encoding samples place

-- the first and the last of so many samples from a place on
pub record AreRunEnds (ends : Ends) (samples : List ℤ) (place count : ℕ) : Type 0 where
  pub first_is : ends.first ≡ slice_index_or samples place (pos 0)
  pub last_is : ends.last ≡ slice_index_or samples (place + count - 1) (pos 0)
