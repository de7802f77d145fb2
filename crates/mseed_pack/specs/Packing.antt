-- The records that a series is packed into (SEED manual, chapter 8 and appendix B).
use Rattle.std.specs.Prelude.{⊤, ◌≡◌, ◌⊎◌, ℕ, ◌+◌, ◌-◌, ◌*◌, ◌/◌, ◌%◌, ◌^◌, ◌<◌, ◌≤◌, List, [], ◌∷◌, ◌++◌, length, take}
use Rattle.std.specs.Prelude.{drop, map, flat_map, replicate, slice_get, ℤ, Some}
use Rattle.std.specs.List.{AllByRecursion}
use Rattle.byteorder.specs.Endian.{big_bytes}
use Rattle.mseed_time.specs.Naming.{Names}
use Rattle.mseed_record.specs.Written.{Header, IsHeaded}
use Rattle.mseed_steim.specs.declared.scheme.Scheme.{Scheme}
use Rattle.mseed_steim.specs.declared.scheme.Scheme.TheVariants.{One, Two}
use Rattle.mseed_steim.specs.Spelling.{residue}
use Rattle.mseed_steim.specs.Frames.{code_at, data_words, first_constant, last_constant, word_count}
use Rattle.mseed_steim_pack.specs.Packing.{IsEmptyWord, PacksRun}
use Rattle.mseed_audit.specs.Series.{Trace}
use Rattle.mseed_steim.specs.declared.encoding.Encoding.{Encoding}
use Rattle.mseed_steim.specs.declared.encoding.Encoding.TheVariants.{Int16, Int32, Steim1, Steim2}
use Rattle.mseed_pack.specs.declared.options.Options.{Options}
use Rattle.mseed_pack.specs.Options.{code_of}
use Rattle.mseed_pack.specs.Clock.{instant_at}
use Rattle.mseed_pack.specs.Stretches.{left_of, flags_of, step_after}

-- A record of a packing: how many records and how many samples stand before it, its samples, and its bytes.
pub record Piece : Type 0 where
  pub number : ℕ
  pub first : ℕ
  pub samples : List ℤ
  pub bytes : List ℕ

-- the pieces stand one after another, with `number` records and `first` samples before them
abbrev pub ArePlaced : ℕ → ℕ → List Piece → Type 0
ArePlaced number first [] = ⊤
ArePlaced number first (p ∷ ps) = (p.number ≡ number) × (p.first ≡ first)
    × ArePlaced (number + 1) (first + length p.samples) ps

-- What a record's header says. Sequence numbers have six digits: after 999999 comes 000000. The start is the instant
-- of the record's first sample, and a leap second at its end is flagged.
pub record IsHeaderOf (s : Trace) (o : Options) (p : Piece) (frames : ℕ) (h : Header) : Type 0 where
  pub sequence : h.sequence ≡ (o.first_sequence + p.number) % 1_000_000
  pub key : h.key ≡ s.codes
  pub start : Names (instant_at s p.first) h.start h.microseconds
  pub samples : h.samples ≡ length p.samples
  pub factor : h.factor ≡ s.rate.factor
  pub multiplier : h.multiplier ≡ s.rate.multiplier
  pub encoding : h.encoding ≡ code_of o.encoding
  pub exponent : h.exponent ≡ o.exponent
  pub frames_is : h.frames ≡ frames
  pub activity : h.activity ≡ flags_of (step_after s (p.first + length p.samples))

-- Integers in `width` bytes each, big-endian two's complement, one after another, until `left` of them are there or no
-- room is left for another; zeros after them. There are no frames.
pub record HoldsIntegers (width left : ℕ) (samples : List ℤ) (frames : ℕ) (payload : List ℕ) : Type 0 where
  pub bytes : payload
      ≡ flat_map (λ z. big_bytes width (residue (2 ^ (8 * width)) z)) samples ++ replicate
      (length payload - width * length samples) 0
  pub full : (length samples ≡ left) ⊎ (length payload < width * (length samples + 1))
  pub no_frames : frames ≡ 0

-- Steim frames: each data word in use takes the largest number of the differences that are left, until none of these or
-- no word is left. All else is 0, but for the first and the last sample. A frame has 15 data words, the first one two
-- fewer, and `frames` of them hold the words in use.
pub record HoldsFrames (scheme : Scheme) (left samples : List ℤ) (frames : ℕ) (payload : List ℕ) : Type 0 where
  pub words : ℕ
  pub inside : words ≤ length (data_words payload)
  pub packed : PacksRun scheme (take words (data_words payload)) left (drop (length samples) left)
  pub full : (length samples ≡ length left) ⊎ (words ≡ length (data_words payload))
  pub behind : AllByRecursion IsEmptyWord (drop words (data_words payload))
  pub codes : (k : ℕ) → k < word_count payload → (k < 3) ⊎ (k % 16 ≡ 0) → code_at payload k ≡ 0
  pub first_is : slice_get samples 0 ≡ Some (first_constant payload)
  pub last_is : slice_get samples (length samples - 1) ≡ Some (last_constant payload)
  pub frames_is : frames ≡ (words + 2 + 14) / 15

-- the samples as the encoding has them, where these differences are left
abbrev pub HoldsSamples : Encoding → List ℤ → List ℤ → ℕ → List ℕ → Type 0
HoldsSamples Int16 left = HoldsIntegers 2 (length left)
HoldsSamples Int32 left = HoldsIntegers 4 (length left)
HoldsSamples Steim1 left = HoldsFrames One left
HoldsSamples Steim2 left = HoldsFrames Two left

-- A record: some samples, none after the next leap second, as many as there is room for; the header's 64 bytes, and
-- the payload.
pub record IsPacked (s : Trace) (o : Options) (p : Piece) : Type 0 where
  pub some : 0 < length p.samples
  pub within : length p.samples ≤ length (left_of s p.first)
  pub frames : ℕ
  pub header : Header
  pub fields : IsHeaderOf s o p frames header
  pub headed : IsHeaded header p.bytes
  pub payload : HoldsSamples o.encoding (left_of s p.first) p.samples frames (drop 64 p.bytes)

-- records that the series is packed into, from its first sample on, up to some samples that are left
pub record PacksUpTo (s : Trace) (o : Options) (records : List (List ℕ)) (left : List ℤ) : Type 0 where
  pub pieces : List Piece
  pub bytes : map (λ (p : Piece). p.bytes) pieces ≡ records
  pub joined : flat_map (λ (p : Piece). p.samples) pieces ++ left ≡ s.samples
  pub placed : ArePlaced 0 0 pieces
  pub each : AllByRecursion (IsPacked s o) pieces

-- all records that the series is packed into
abbrev pub IsPacking : Trace → Options → List (List ℕ) → Type 0
IsPacking s o records = PacksUpTo s o records []
