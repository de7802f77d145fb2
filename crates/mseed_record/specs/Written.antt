-- The header that this project writes: a big-endian fixed section, then a blockette 1000 and a blockette
-- 1001, 64 bytes (SEED manual, chapter 8).
use Rattle.std.specs.Prelude.{◌≡◌, ℕ, ◌-◌, ◌^◌, ◌≤◌, ◌<◌, ◌&&◌, nat_le, not, Bool, false, if◌then◌else◌, replicate}
use Rattle.std.specs.Prelude.{List, [], ◌∷◌, ◌++◌, length, take, drop, slice_index, slice_range, codes, Option, Some}
use Rattle.std.specs.Prelude.{None, ℤ, ◌+ℤ◌, FitsSigned}
use Rattle.std.specs.Int.{w8, w16, cast_unsigned}
use Rattle.std.specs.List.{list_all}
use Rattle.byteorder.specs.Endian.{big_bytes}
use Rattle.mseed_time.specs.declared.order.Order.TheVariants.{Big}
use Rattle.mseed_time.specs.Btime.{Parts, IsTime, microsecond_of}
use Rattle.mseed_time.specs.Text.{padded_decimal}
use Rattle.mseed_record.specs.declared.naming.CodeField.{CodeField}
use Rattle.mseed_record.specs.declared.naming.CodeField.TheVariants.{Network, Station, Location, Channel}
use Rattle.mseed_record.specs.Header.{key_at, time_at, samples_at, factor_at, multiplier_at, activity_at}
use Rattle.mseed_record.specs.Record.{IsRecord}
use Rattle.mseed_record.specs.View.{View, IsView, HasPayload, start_of, payload_of}

-- a byte of a code: printable, and no space
abbrev pub is_code_byte : ℕ → Bool
is_code_byte c = nat_le 33 c && nat_le c 126

-- a code that fits a field of `width` bytes
abbrev pub is_code : ℕ → List ℕ → Bool
is_code width code = nat_le (length code) width && list_all is_code_byte code

-- the first code that doesn't fit its field
abbrev pub first_bad_code : List ℕ → List ℕ → List ℕ → List ℕ → Option CodeField
first_bad_code network station location channel =
    if not (is_code 2 network) then Some Network
    else if not (is_code 5 station) then Some Station
    else if not (is_code 2 location) then Some Location
    else if not (is_code 3 channel) then Some Channel
    else None

-- a code with spaces after it, up to the width of its field
abbrev pub filled : ℕ → List ℕ → List ℕ
filled width code = code ++ replicate (width - length code) 32

-- what a header says that this project writes: the key is the channel's 12 bytes, frames the frame count
-- of blockette 1001
pub record Header : Type 0 where
  pub sequence : ℕ
  pub key : List ℕ
  pub start : Parts
  pub microseconds : ℤ
  pub samples : ℕ
  pub factor : ℤ
  pub multiplier : ℤ
  pub encoding : ℕ
  pub exponent : ℕ
  pub frames : ℕ
  pub activity : ℕ

-- the fields of a header hold what they say
pub record IsWritable (h : Header) : Type 0 where
  pub key : length h.key ≡ 12
  pub time : IsTime h.start
  pub samples : h.samples < 2 ^ 16
  pub factor : FitsSigned w16 h.factor
  pub multiplier : FitsSigned w16 h.multiplier
  pub microseconds : FitsSigned w8 h.microseconds

-- a time as BTIME's 10 bytes, the unused one 0
abbrev pub time_bytes : Parts → List ℕ
time_bytes t =
    big_bytes 2 t.year ++ big_bytes 2 t.day ++ (t.hour ∷ t.minute ∷ t.second ∷ 0 ∷ []) ++ big_bytes 2 t.fraction

-- the bytes before the start: the sequence number in six digits, the quality D, a space, and the codes
abbrev pub name_bytes : Header → List ℕ
name_bytes h =
    padded_decimal 6 h.sequence ++ codes "D "
    ++ slice_range h.key 2 7 ++ slice_range h.key 7 9 ++ slice_range h.key 9 12 ++ slice_range h.key 0 2

-- the bytes after the start: the samples, the rate, the activity flags, no other flag, two blockettes, the
-- correction 0, the data at 64, the first blockette at 48
abbrev pub count_bytes : Header → List ℕ
count_bytes h =
    big_bytes 2 h.samples ++ big_bytes 2 (cast_unsigned w16 h.factor) ++ big_bytes 2 (cast_unsigned w16 h.multiplier)
    ++ (h.activity ∷ 0 ∷ 0 ∷ 2 ∷ []) ++ big_bytes 4 0 ++ big_bytes 2 64 ++ big_bytes 2 48

-- blockette 1000, the next one at 56: the encoding, big-endian words, the length exponent
abbrev pub blockette_1000 : Header → List ℕ
blockette_1000 h = big_bytes 2 1000 ++ big_bytes 2 56 ++ (h.encoding ∷ 1 ∷ h.exponent ∷ 0 ∷ [])

-- blockette 1001, the last: timing quality 0, the microseconds, the frame count
abbrev pub blockette_1001 : Header → List ℕ
blockette_1001 h =
    big_bytes 2 1001 ++ big_bytes 2 0 ++ (0 ∷ cast_unsigned w8 h.microseconds ∷ 0 ∷ h.frames ∷ [])

-- all 64 bytes: the fixed section and the two blockettes
abbrev pub header_bytes : Header → List ℕ
header_bytes h =
    name_bytes h ++ time_bytes h.start ++ count_bytes h ++ (blockette_1000 h ++ blockette_1001 h)

-- bytes that begin with the header and are as many as its length exponent says
pub record IsHeaded (h : Header) (b : List ℕ) : Type 0 where
  pub octets : (i : ℕ) → slice_index b i < 256
  pub begins : take 64 b ≡ header_bytes h
  pub exponent_low : 7 ≤ h.exponent
  pub exponent_high : h.exponent ≤ 20
  pub size : length b ≡ 2 ^ h.exponent

-- what such bytes say as a record
abbrev pub headed_view : Header → List ℕ → View
headed_view h b = record {
  bytes = b;
  order = Big;
  encoding = h.encoding;
  payload_order = Big;
  microseconds = h.microseconds;
  has_rate_blockette = false;
}

-- they are a record, and its fields are the header's
pub record ReadsBack (h : Header) (b : List ℕ) : Type 0 where
  pub is_record : IsRecord b
  pub is_view : IsView (headed_view h b)
  pub key : key_at b ≡ h.key
  pub time : time_at Big b ≡ h.start
  pub start : start_of (headed_view h b) ≡ microsecond_of h.start +ℤ h.microseconds
  pub samples : samples_at Big b ≡ h.samples
  pub factor : factor_at Big b ≡ h.factor
  pub multiplier : multiplier_at Big b ≡ h.multiplier
  pub activity : activity_at b ≡ h.activity
  pub has_payload : HasPayload (headed_view h b)
  pub payload : payload_of (headed_view h b) ≡ drop 64 b
