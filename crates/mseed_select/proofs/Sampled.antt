-- A sample in the window lies in a record that is asked for.
use Rattle.std.proofs.Common.{ℕ, suc, zero, ◌*◌, ◌-◌, ◌^◌, ◌<◌, ◌≤◌, arith, Option, Some, None}
use Rattle.std.proofs.Common.{ℤ, pos, negsuc, ◌-ℤ◌, ◌*ℤ◌, ◌≤ℤ◌, ◌<ℤ◌}
use Rattle.std.specs.Option.{IsSome, unwrap_or}
use Rattle.std.proofs.Common.{◌≡◌, refl}
use Rattle.std.proofs.lemmas.Bool.{false≢true}
use Rattle.std.proofs.lemmas.Int.{ints}
use Rattle.std.proofs.lemmas.Nat.{mul-le}
use Rattle.mseed_time.specs.Rate.{Ratio}
use Rattle.mseed_record.specs.Header.{key_at, samples_at}
use Rattle.mseed_record.specs.View.{View, start_of}
use Rattle.mseed_record.specs.Pattern.{IsOfChannels}
use Rattle.mseed_record.specs.Selection.{BeginsBefore, HasSampleIn, IsAskedFor, IsInWindow, IsSampleBefore, LastsTo}
use Rattle.mseed_record.specs.Selection.{Selection, lasts_to}

-- the last sample is no earlier than another one
last_on : (x : ℤ) (i n den : ℕ) → x ≤ℤ pos (i * den * 10 ^ 6) → i < n → x ≤ℤ pos ((n - 1) * den * 10 ^ 6)
last_on x i n den h less =
    let few : i ≤ n - 1 = omega (arith, less) in
    let most : i * den ≤ (n - 1) * den = mul-le i den (n - 1) den few (omega arith) in
    let whole : i * den * 10 ^ 6 ≤ (n - 1) * den * 10 ^ 6 = omega (arith, most) in
    omega (arith, ints, h, whole)

-- what is more than a natural number, once it is multiplied, is positive
positive : (d : ℤ) (num k : ℕ) → pos k <ℤ (d *ℤ pos num) → pos 0 <ℤ d
positive (pos zero) num k h = absurd (omega (arith, ints, h))
positive (pos (suc m)) num k h = omega (arith, ints)
positive (negsuc m) num k h = absurd (omega (arith, ints, h))

ahead : (start until : ℤ) (num k : ℕ) → pos k <ℤ ((until -ℤ start) *ℤ pos num) → start <ℤ until
ahead start until num k h = omega (arith, ints, positive (until -ℤ start) num k h)

begins : (until : Option ℤ) (v : View) (rate : Ratio) (i : ℕ) → IsSampleBefore until (start_of v) rate i
    → BeginsBefore until v
begins None v rate i h = tt
begins (Some until) v rate i h = ahead (start_of v) until rate.num (i * rate.den * 10 ^ 6) h

within : (from until : Option ℤ) (v : View) (rate : Ratio) (i : ℕ) → HasSampleIn from until v rate i
    → IsInWindow from until v
within None None v rate i h = tt
within None (Some until) v rate i h = (h.known, tt, begins (Some until) v rate i h.before)
within (Some from) until v rate i h =
    let samples : ℕ = samples_at v.order v.bytes in
    let lasts : LastsTo (Some rate) (start_of v) samples from =
    last_on ((from -ℤ start_of v) *ℤ pos rate.num) i samples rate.den h.from_on h.sample in
    (h.known, rw h.rated lasts, begins until v rate i h.before)

pub sampled : (s : Selection) (v : View) (rate : Ratio) (i : ℕ) → IsOfChannels s.channels (key_at v.bytes)
    → HasSampleIn s.from s.until v rate i → IsAskedFor s v
sampled s v rate i channel h = record { channel = channel; window = within s.from s.until v rate i h }

-- a rate that is there is the one that counts
pub lasts_there : (o : Option Ratio) (d : Ratio) (start : ℤ) (n : ℕ) (instant : ℤ) → IsSome o
    → lasts_to (Some (unwrap_or o d)) start n instant ≡ lasts_to o start n instant
lasts_there None d start n instant some = absurd (false≢true some)
lasts_there (Some rate) d start n instant some = refl
