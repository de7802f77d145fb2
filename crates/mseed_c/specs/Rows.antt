-- What the rows of an archive say.
use Rattle.std.specs.Prelude.{◌≡◌, ◌≢◌, ◌≤◌, ◌<◌, ◌+◌, ◌==◌, if◌then◌else◌, ℕ, ℤ, pos, List, [], ◌∷◌, length, take}
use Rattle.std.specs.Prelude.{drop, All, Option, Some, None, unwrap_or, min}
use Rattle.mseed_time.specs.Btime.{first_fault}
use Rattle.mseed_time.specs.Rate.{Ratio, rate_of}
use Rattle.mseed_time.specs.declared.fault.TimeFault.{TimeFault}
use Rattle.mseed_time.specs.declared.fault.TimeFault.TheVariants.{Year, Day, Hour, Minute, Second, Fraction}
use Rattle.mseed_record.specs.declared.leap.Leap.{Leap}
use Rattle.mseed_record.specs.declared.leap.Leap.TheVariants.{None as NoLeap, Positive, Negative, Both}
use Rattle.mseed_record.specs.Header.{key_at, quality_at, factor_at, multiplier_at, time_at}
use Rattle.mseed_record.specs.View.{View, start_of, leap_of}
use Rattle.mseed_steim.specs.declared.fault.ReadFault.{ReadFault}
use Rattle.mseed_steim.specs.Reading.{count_of, IsFault, IsWhole}
use Rattle.mseed_c.specs.Codes.{code_of_read, code_of_stop, needed_by}
use Rattle.mseed_c.specs.Decoded.{IsFirst, IsStopAt}
use Rattle.mseed_c.specs.declared.codes.Stop.{Stop}
use Rattle.mseed_c.specs.declared.codes.Stop.TheVariants.{Rows, Room, Short, Not}
use Rattle.mseed_c.specs.declared.row.Row.{Row}
use Rattle.mseed_c.specs.declared.row.RowRate.{RowRate}
use Rattle.mseed_c.specs.declared.going.Progress.{Progress}

-- the record's rate, 0 by 0 where it has none
abbrev pub ratio_in : View → Ratio
ratio_in v =
    unwrap_or (rate_of (factor_at v.order v.bytes) (multiplier_at v.order v.bytes)) (record { num = 0; den = 0 })

-- a rate is the record's, by its ratio and by its fields; all are 0 where the record has none
pub record HasRate (r : RowRate) (v : View) : Type 0 where
  pub ratio : ratio_in v ≡ record { num = r.num; den = r.den }
  pub factor : 0 < r.den → r.factor ≡ factor_at v.order v.bytes
  pub multiplier : 0 < r.den → r.multiplier ≡ multiplier_at v.order v.bytes
  pub no_factor : r.den ≡ 0 → r.factor ≡ pos 0
  pub no_multiplier : r.den ≡ 0 → r.multiplier ≡ pos 0

-- which field of a start is the first that is out of its range, in the order of the fields; 0 for none
abbrev pub time_number : Option TimeFault → ℕ
time_number None = 0
time_number (Some Year) = 1
time_number (Some Day) = 2
time_number (Some Hour) = 3
time_number (Some Minute) = 4
time_number (Some Second) = 5
time_number (Some Fraction) = 6

-- the leap seconds of a record
abbrev pub leap_number : Leap → ℕ
leap_number NoLeap = 0
leap_number Positive = 1
leap_number Negative = 2
leap_number Both = 3

-- the row says this of the record
pub record Describes (row : Row) (v : View) : Type 0 where
  pub length_is : row.length ≡ length v.bytes
  pub samples_are : row.samples ≡ count_of v
  pub rate : HasRate (record { num = row.num; den = row.den; factor = row.factor; multiplier = row.multiplier }) v
  pub time_is : row.time ≡ time_number (first_fault (time_at v.order v.bytes))
  pub start_is : row.time ≡ 0 → row.start ≡ start_of v
  pub no_start : row.time ≢ 0 → row.start ≡ pos 0
  pub encoding_is : row.encoding ≡ v.encoding
  pub quality_is : row.quality ≡ quality_at v.bytes
  pub leap_is : row.leap ≡ leap_number (leap_of v.bytes)
  pub key_is : row.key ≡ key_at v.bytes

-- the samples of a row, among the first `filled` places
pub record HasSamples (row : Row) (v : View) (filled : ℕ) (out : List ℤ) : Type 0 where
  pub within : row.first + row.samples ≤ filled
  pub whole : 0 < row.samples → IsWhole v (drop row.first (take (row.first + row.samples) out))

-- The row is that of the record that begins at its offset; its samples are the record's one reading, or the code says
-- why it has none. That of a record without samples is 0.
pub record IsRow (bytes : List ℕ) (filled : ℕ) (out : List ℤ) (row : Row) : Type 0 where
  pub view : View
  pub at : IsFirst (drop row.offset bytes) view
  pub describes : Describes row view
  pub samples : row.code ≡ 0 → HasSamples row view filled out
  pub fault : row.code ≢ 0
      → (0 < row.samples) × ((f : ReadFault) × (IsFault view f × (row.code ≡ code_of_read f)))

-- how many samples a row filled in
abbrev pub filled_by : Row → ℕ
filled_by row = if row.code == 0 then row.samples else 0

-- The records of the rows stand one after another from an offset on, and their samples from a place on; where the next
-- ones would begin.
abbrev pub ArePlaced : ℕ → ℕ → List Row → ℕ → ℕ → Type 0
ArePlaced offset place [] next filled = (offset ≡ next) × (place ≡ filled)
ArePlaced offset place (row ∷ rows) next filled =
    (row.offset ≡ offset) × (row.first ≡ place)
    × ArePlaced (offset + row.length) (place + filled_by row) rows next filled

-- The rows that are counted were written of the records from an offset on, and of each row this is so, by the number of
-- samples that are counted. Rows after them stay.
pub record IsWalk (Is : ℕ → Row → Type 0) (bytes : List ℕ) (offset : ℕ) (old rows : List Row) (p : Progress)
    : Type 0 where
  pub counted : p.rows ≤ length rows
  pub inside : p.offset ≤ length bytes
  pub each : All (Is p.filled) (take p.rows rows)
  pub placed : ArePlaced (min offset (length bytes)) 0 (take p.rows rows) p.offset p.filled
  pub after : drop p.rows rows ≡ drop p.rows old

-- the same with the samples of the records, in the first places
pub record IsRead (bytes : List ℕ) (offset : ℕ) (old rows : List Row) (out : List ℤ) (p : Progress) : Type 0 where
  pub walk : IsWalk (λ filled. IsRow bytes filled out) bytes offset old rows p
  pub room : p.filled ≤ length out

-- a row is that of the record that begins at its offset, of which no samples were read
pub record IsHead (bytes : List ℕ) (filled : ℕ) (row : Row) : Type 0 where
  pub view : View
  pub at : IsFirst (drop row.offset bytes) view
  pub describes : Describes row view
  pub fine : row.code ≡ 0

-- the rows of records, without their samples, which are counted
abbrev pub IsHeads : List ℕ → ℕ → List Row → List Row → Progress → Type 0
IsHeads bytes offset old rows p = IsWalk (IsHead bytes) bytes offset old rows p

-- there are fewer places left than the next record has samples
pub record LacksPlaces (bytes : List ℕ) (room : ℕ) (p : Progress) (places : ℕ) : Type 0 where
  pub view : View
  pub at : IsFirst (drop p.offset bytes) view
  pub count : places ≡ count_of view
  pub fewer : room < p.filled + places

-- Why no row more was written, where there are `rows` places for rows, and `room` for samples: there is no place for a
-- row, or else what begins the bytes from the offset on says why.
abbrev pub EndsWalk : Stop → List ℕ → ℕ → ℕ → Progress → Type 0
EndsWalk Rows bytes rows room p = p.rows ≡ rows
EndsWalk (Room places) bytes rows room p = (p.rows < rows) × LacksPlaces bytes room p places
EndsWalk (Short k) bytes rows room p = (p.rows < rows) × IsStopAt (drop p.offset bytes) (Short k)
EndsWalk (Not fault) bytes rows room p = (p.rows < rows) × IsStopAt (drop p.offset bytes) (Not fault)

-- by the code: all bytes were read, or there's a reason why no more were, with its number
pub data IsEnd (bytes : List ℕ) (rows room : ℕ) (p : Progress) : ℕ → Type 0 where
  at_end : p.offset ≡ length bytes → p.needed ≡ 0 → IsEnd bytes rows room p 0
  stopped : (stop : Stop) → p.offset < length bytes → EndsWalk stop bytes rows room p → p.needed ≡ needed_by stop
      → IsEnd bytes rows room p (code_of_stop stop)
