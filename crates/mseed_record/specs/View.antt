-- What a record says: its header's fields, and what its chain of blockettes adds (SEED manual, chapter 8).
use Rattle.std.specs.Prelude.{◌≡◌, ℕ, ◌+◌, ◌≤◌, ◌==◌, Bool, if◌then◌else◌, List, ◌∷◌, ◌++◌, length, slice_index, drop}
use Rattle.std.specs.Prelude.{Option, Some, None, ℤ, pos}
use Rattle.std.specs.Int.{bit_at}
use Rattle.byteorder.specs.Endian.{twos_complement}
use Rattle.mseed_time.specs.declared.order.Order.{Order}
use Rattle.mseed_time.specs.declared.order.Order.TheVariants.{Big, Little}
use Rattle.mseed_time.specs.declared.outcome.LeapStep.{LeapStep}
use Rattle.mseed_time.specs.declared.outcome.LeapStep.TheVariants.{Plus, Minus}
use Rattle.mseed_time.specs.Btime.{instant_of}
use Rattle.mseed_record.specs.declared.leap.Leap.{Leap}
use Rattle.mseed_record.specs.declared.leap.Leap.TheVariants.{None as NoLeap, Positive, Negative, Both}
use Rattle.mseed_record.specs.Header.{time_at, correction_at, activity_at, data_at}
use Rattle.mseed_record.specs.Chain.{IsWholeChain, first_of, has_type}
use Rattle.mseed_record.specs.Record.{IsRecordBy}

-- the bytes of a record, the order of its header, and what stands on its chain
pub record View : Type 0 where
  pub bytes : List ℕ
  pub order : Order
  pub encoding : ℕ
  pub payload_order : Order
  pub microseconds : ℤ
  pub has_rate_blockette : Bool

-- blockette 1000's word order: 0 is little-endian, any other value big-endian
abbrev pub word_order_at : List ℕ → ℕ → Order
word_order_at b o = if slice_index b (o + 5) == 0 then Little else Big

-- the microseconds of a blockette 1001, and 0 where there is none
abbrev pub microseconds_at : List ℕ → Option ℕ → ℤ
microseconds_at b (Some o) = twos_complement 1 (slice_index b (o + 5))
microseconds_at b None = pos 0

-- what the blockettes say: the first 1000 of encoding and word order, the first 1001 on the whole chain of the
-- microseconds, and whether a 100 stands anywhere on it
pub record IsViewBy (os : List ℕ) (last : ℕ) (rest : List ℕ) (v : View) : Type 0 where
  pub record_is : IsRecordBy v.order os last v.bytes
  pub chain_is : IsWholeChain v.order v.bytes os last rest
  pub encoding_is : v.encoding ≡ slice_index v.bytes (last + 4)
  pub payload_order_is : v.payload_order ≡ word_order_at v.bytes last
  pub microseconds_is : v.microseconds ≡ microseconds_at v.bytes (first_of v.order 1001 v.bytes (os ++ last ∷ rest))
  pub rate_blockette_is : v.has_rate_blockette ≡ has_type v.order 100 v.bytes (os ++ last ∷ rest)

abbrev pub IsView : View → Type 0
IsView v = (os : List ℕ) × ((last : ℕ) × ((rest : List ℕ) × IsViewBy os last rest v))

-- the instant of the first sample: activity bit 1 says that the time correction has been applied
abbrev pub start_of : View → ℤ
start_of v = instant_of (time_at v.order v.bytes) (correction_at v.order v.bytes) (bit_at (activity_at v.bytes) 1 == 1)
    v.microseconds

-- the leap seconds that happened during the record: activity bit 4 is a positive one, bit 5 a negative one
abbrev pub leap_of : List ℕ → Leap
leap_of b =
    if bit_at (activity_at b) 4 == 1 then (if bit_at (activity_at b) 5 == 1 then Both else Positive)
    else if bit_at (activity_at b) 5 == 1 then Negative else NoLeap

-- the leap second at the record's end; with both flags nobody can say
abbrev pub step_in : Leap → Option LeapStep
step_in NoLeap = None
step_in Positive = Some Plus
step_in Negative = Some Minus
step_in Both = None

-- the data begin after the header, and within the record or at its end
pub record HasPayload (v : View) : Type 0 where
  pub after_header : 48 ≤ data_at v.order v.bytes
  pub within : data_at v.order v.bytes ≤ length v.bytes

-- from the beginning of data to the record's end
abbrev pub payload_of : View → List ℕ
payload_of v = drop (data_at v.order v.bytes) v.bytes
