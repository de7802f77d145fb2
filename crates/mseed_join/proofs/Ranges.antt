-- The ranges of what a record says.
use Rattle.std.proofs.Common.{◌≡◌, ℕ, suc, ℤ, pos, negsuc, ◌+◌, ◌-◌, ◌*◌, ◌^◌, ◌<◌, ◌≤◌, ◌+ℤ◌, ◌-ℤ◌, List, get_or}
use Rattle.std.proofs.Common.{ltb, Bool, cond, Option, Some, None, arith}
use Rattle.std.proofs.Common.{unsigned_abs}
use Rattle.std.specs.Prelude.{⊤, neg_ℤ, ◌≤ℤ◌, ◌*ℤ◌}
use Rattle.std.proofs.Math.Nat.{div-le_self}
use Rattle.std.proofs.lemmas.Bool.{cases_lt, lt-ltb, le-ltb}
use Rattle.std.proofs.lemmas.Bool.Decides.{nat_tests}
use Rattle.std.proofs.lemmas.Int.{ints, unsigned_abs-mul}
use Rattle.std.proofs.lemmas.Nat.{mul-le}
use Rattle.std.proofs.lemmas.Option.{same_Some}
use Rattle.mseed_time.specs.Btime.{Parts, IsInstant, IsTime, day_of, first_fault, instant_of, shift_of}
use Rattle.mseed_time.proofs.Ranges.{day_within, year_days}
use Rattle.mseed_time.specs.Fields.{number_at}
use Rattle.mseed_time.specs.Join.{join_of, miss_of, missed_by, step_of}
use Rattle.mseed_time.specs.Rate.{Ratio, IsRatio, rate_of}
use Rattle.mseed_time.specs.declared.fault.TimeFault.{TimeFault}
use Rattle.mseed_time.specs.declared.outcome.Join.{Join}
use Rattle.mseed_time.specs.declared.outcome.Join.TheVariants.{Meets, Late, Early}
use Rattle.mseed_time.specs.declared.outcome.LeapStep.{LeapStep}
use Rattle.mseed_record.specs.Header.{factor_at, multiplier_at, correction_at, time_at}
use Rattle.mseed_record.specs.View.{View, IsView, microseconds_at, start_of}
use Rattle.mseed_steim.specs.Reading.{count_of}
use Rattle.mseed_steim.proofs.Framed.{minus}
use Rattle.mseed_steim.proofs.Integers.{number_lt}
use Rattle.mseed_audit.specs.Judging.{known_rate, rate_in, rate_unless, time_fault_of}

abbrev pub AreOctets : List ℕ → Type 0
AreOctets bytes = (i : ℕ) → get_or bytes i 0 < 256

pub octets_of : (v : View) → IsView v → AreOctets v.bytes
octets_of v is = is.1.1.1.record_is.octets

-- ---- two's complement
abbrev IsBetween : ℕ → ℤ → Type 0
IsBetween half (pos n) = n < half
IsBetween half (negsuc n) = n < half

minus_all : (x m : ℕ) → x < m → pos x -ℤ pos m ≡ negsuc (m - 1 - x)
minus_all x m h1 = grind (arith, minus)

complement : (half x : ℕ) → x < half + half
    → IsBetween half (cond (ltb x half) (pos x) (pos x -ℤ pos (half + half)))
complement half x small = search (arith, lt-ltb, le-ltb, minus_all, cases_lt)

number_two : (v : View) → IsView v → (o : ℕ) → number_at v.order 2 o v.bytes < 2 ^ 16
number_two v is o = omega (arith, number_lt v.order 2 o v.bytes (octets_of v is))

number_four : (v : View) → IsView v → (o : ℕ) → number_at v.order 4 o v.bytes < 2 ^ 32
number_four v is o = omega (arith, number_lt v.order 4 o v.bytes (octets_of v is))

-- the number of samples
pub count_small : (v : View) → IsView v → count_of v < 2 ^ 16
count_small v is = number_two v is 30

-- ---- the rate
product : (a b : ℕ) → 0 < a → 0 < b → a ≤ 2 ^ 15 → b ≤ 2 ^ 15 → (0 < a * b) × (a * b ≤ 2 ^ 30)
product a b some any small few = (omega (arith, mul-le 1 1 a b some any), omega (arith, mul-le a b _ _ small few))

-- a ratio of two numbers within its range
ratio_within : (num den : ℕ) (r : Ratio) → (0 < num) × (num ≤ 2 ^ 30) → (0 < den) × (den ≤ 2 ^ 30)
    → Some (record { num = num; den = den }) ≡ Some r → IsRatio r
ratio_within num den r n d e = search (arith, same_Some)

-- a factor or a multiplier
part_within : (n : ℕ) → n < 2 ^ 15 → (0 < suc n) × (suc n ≤ 2 ^ 30)
part_within n h = (omega arith, omega (arith, h))

ratio_one : (f m : ℤ) (r : Ratio) → IsBetween (2 ^ 15) f → IsBetween (2 ^ 15) m → rate_of f m ≡ Some r → IsRatio r
ratio_one f m r h1 h2 h3 = grind (arith, ratio_within, product, part_within)

unless_some : (o : Option TimeFault) (rate : Option Ratio) (r : Ratio) → rate_unless o rate ≡ Some r
    → (o ≡ None) × (rate ≡ Some r)
unless_some o rate r h1 = grind arith

pub rate_within : (v : View) (r : Ratio) → IsView v → known_rate v ≡ Some r → IsRatio r
rate_within v r is e =
    ratio_one (factor_at v.order v.bytes) (multiplier_at v.order v.bytes) r
    (complement (2 ^ 15) (number_at v.order 2 32 v.bytes) (number_two v is 32))
    (complement (2 ^ 15) (number_at v.order 2 34 v.bytes) (number_two v is 34))
    (unless_some (time_fault_of v) (rate_in v) r e).1

-- ---- the start
is_time : (t : Parts) → first_fault t ≡ None → IsTime t
is_time t e = grind (arith, nat_tests, e)

within : (day shift us : ℤ) (hour minute second fraction : ℕ) → neg_ℤ (pos 30_000) ≤ℤ day → day ≤ℤ pos 50_000
    → hour ≤ 23 → minute ≤ 59 → second ≤ 60 → fraction ≤ 9999 → neg_ℤ (pos 300_000_000_000) ≤ℤ shift
    → shift ≤ℤ pos 300_000_000_000 → neg_ℤ (pos 128) ≤ℤ us → us ≤ℤ pos 128
    → IsInstant ((((day *ℤ pos 24 +ℤ pos hour) *ℤ pos 60 +ℤ pos minute) *ℤ pos 60 +ℤ pos second) *ℤ pos (10 ^ 6)
    +ℤ pos (100 * fraction) +ℤ shift +ℤ us)
within day shift us hour minute second fraction low high h m s f below above least most = (
  omega (arith, ints, low, high, h, m, s, f, below, above, least, most),
  omega (arith, ints, low, high, h, m, s, f, below, above, least, most),
)

shift_within : (c : ℤ) (b : Bool) → IsBetween (2 ^ 31) c → (neg_ℤ (pos 300_000_000_000) ≤ℤ shift_of c b)
    × (shift_of c b ≤ℤ pos 300_000_000_000)
shift_within c b h1 = grind arith

bounds : (z : ℤ) → IsBetween 128 z → (neg_ℤ (pos 128) ≤ℤ z) × (z ≤ℤ pos 128)
bounds z h1 = grind arith

micros_between : (b : List ℕ) (o : Option ℕ) → AreOctets b → IsBetween 128 (microseconds_at b o)
micros_between b o h1 = grind (arith, complement)

timed : (t : Parts) (c us : ℤ) (b : Bool) → IsTime t → IsBetween (2 ^ 31) c → IsBetween 128 us
    → IsInstant (instant_of t c b us)
timed t c us b valid correction micros =
    let few = year_days t.year in
    let day = day_within t.year t.day valid.0 valid.1 valid.2 (omega (arith, valid.3, few)) in
    let shift = shift_within c b correction in
    let last = bounds us micros in
    within (day_of t.year t.day) (shift_of c b) us t.hour t.minute t.second t.fraction day.0 day.1 valid.4 valid.5
    valid.6 valid.7 shift.0 shift.1 last.0 last.1

pub start_within : (v : View) (r : Ratio) → IsView v → known_rate v ≡ Some r → IsInstant (start_of v)
start_within v r is e =
    timed (time_at v.order v.bytes) (correction_at v.order v.bytes) v.microseconds _
    (is_time (time_at v.order v.bytes) (unless_some (time_fault_of v) (rate_in v) r e).0)
    (complement (2 ^ 31) (number_at v.order 4 40 v.bytes) (number_four v is 40))
    (rw is.1.1.1.microseconds_is (micros_between v.bytes _ (octets_of v is)))

-- ---- gaps and overlaps
abbrev pub JoinFits : Join → Type 0
JoinFits Meets = ⊤
JoinFits (Late us) = us < 2 ^ 128
JoinFits (Early us) = us < 2 ^ 128

missed_fits : (miss : ℤ) (num : ℕ) → unsigned_abs miss < 2 ^ 128 → JoinFits (missed_by miss num)
missed_fits miss num h1 = grind (arith, div-le_self)

join_by_fits : (b : Bool) (miss : ℤ) (num : ℕ) → unsigned_abs miss < 2 ^ 128
    → JoinFits (cond b Meets (missed_by miss num))
join_by_fits b miss num h1 = grind (arith, missed_fits)

abs_low : (z : ℤ) (n : ℕ) → neg_ℤ (pos n) ≤ℤ z → z ≤ℤ pos n → unsigned_abs z ≤ n
abs_low z n h1 h2 = grind arith

abs_bounds : (z : ℤ) (n : ℕ) → unsigned_abs z ≤ n → (neg_ℤ (pos n) ≤ℤ z) × (z ≤ℤ pos n)
abs_bounds z n h1 = grind arith

passed : (start next : ℤ) (step : Option LeapStep) → IsInstant start → IsInstant next
    → unsigned_abs (next -ℤ start +ℤ step_of step) ≤ 2 ^ 54
passed start next step h1 h2 = grind (arith, abs_low)

less : (a : ℤ) (d : ℕ) → unsigned_abs a ≤ 2 ^ 84 → d ≤ 2 ^ 84 → unsigned_abs (a -ℤ pos d) < 2 ^ 128
less a d h k = search (arith, abs_bounds, unsigned_abs, abs_low)

miss_small : (start : ℤ) (n : ℕ) (rate : Ratio) (step : Option LeapStep) (next : ℤ) → IsInstant start → n < 2 ^ 16
    → IsRatio rate → IsInstant next → unsigned_abs (miss_of start n rate step next) < 2 ^ 128
miss_small start n rate step next h few ratio k =
    search (arith, unsigned_abs, mul-le, passed, unsigned_abs-mul, less)

pub join_fits : (start : ℤ) (n : ℕ) (rate : Ratio) (step : Option LeapStep) (next : ℤ) → IsInstant start → n < 2 ^ 16
    → IsRatio rate → IsInstant next → JoinFits (join_of start n rate step next)
join_fits start n rate step next h few ratio k =
    search (arith, join_by_fits, miss_small)
