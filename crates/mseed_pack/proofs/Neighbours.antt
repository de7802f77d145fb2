-- Two neighbouring records join: each begins at the floor of its first sample's time, so the two floors differ from the
-- exact distance by less than a microsecond, and half a sample period is at least one.
use Rattle.std.proofs.Common.{◌≡◌, ℕ, ◌+◌, ◌-◌, ◌*◌, ◌/◌, ◌%◌, ◌^◌, ◌<◌, ◌≤◌, ap, ◌∙◌, arith, ℤ, pos, ◌+ℤ◌}
use Rattle.std.proofs.Common.{◌-ℤ◌, ◌*ℤ◌, unsigned_abs, Option}
use Rattle.std.proofs.lemmas.Int.{ints}
use Rattle.std.proofs.Math.Nat.{div-add-mod, le-div_iff_mul-le}
use Rattle.mseed_time.specs.declared.outcome.LeapStep.{LeapStep}
use Rattle.mseed_time.specs.Rate.{Ratio}
use Rattle.mseed_time.specs.Join.{step_of, miss_of, Joins}

-- the second floor lies so far after the first
record Floors (num first way : ℕ) : Type 0 where
  apart : ℕ
  second : (first + way) / num ≡ first / num + apart
  low : way ≤ apart * num + num
  high : apart * num ≤ way + num

remainders : (num q d r s first way : ℕ) → num * q + r ≡ first → num * (q + d) + s ≡ first + way → r < num → s < num
    → (way ≤ d * num + num) × (d * num ≤ way + num)
remainders num q d r s first way a b m n = (omega arith, omega arith)

floors : (num first way : ℕ) → 0 < num → Floors num first way
floors num first way some =
    let q = first / num in
    let p = (first + way) / num in
    let rises : q ≤ p = (le-div_iff_mul-le {k = num} {x = q} {y = first + way} some).1 (omega arith) in
    let whole : p ≡ q + (p - q) = omega (arith, rises) in
    let both = remainders num q (p - q) (first % num) ((first + way) % num) first way (div-add-mod first num)
    (rw (← whole) (div-add-mod (first + way) num)) (omega (arith, some)) (omega (arith, some)) in
    record { apart = p - q; second = whole; low = both.0; high = both.1 }

-- a difference of two naturals is no further from 0 than they lie apart
abs_apart : (a b c : ℕ) → a ≤ b + c → b ≤ a + c → unsigned_abs (pos a -ℤ pos b) ≤ c
abs_apart a b c h k = omega (arith, ints)

-- The clock's seconds fall out: what the next start lies after this one, and the leap second between them, is the way
-- between the two floors.
apart_is : (start shift later step : ℤ) (q d : ℕ) → later ≡ shift +ℤ step
    → (start +ℤ pos (q + d) -ℤ later) -ℤ (start +ℤ pos q -ℤ shift) +ℤ step ≡ pos d
apart_is start shift later step q d e = omega (arith, ints)

scaled : (z : ℤ) (d num : ℕ) → z ≡ pos d → z *ℤ pos num ≡ pos (d * num)
scaled z d num e = ap (λ (x : ℤ). x *ℤ pos num) e ∙ omega (arith, ints)

-- Starts that are floors, less the clock's seconds, join where half a sample period is a microsecond at least.
pub joins : (start shift later : ℤ) (first count : ℕ) (rate : Ratio) (step : Option LeapStep) → 0 < rate.num
    → rate.num ≤ 500_000 * rate.den → later ≡ shift +ℤ step_of step
    → Joins (start +ℤ pos (first / rate.num) -ℤ shift) count rate step
    (start +ℤ pos ((first + count * rate.den * 10 ^ 6) / rate.num) -ℤ later)
joins start shift later first count rate step some slow e =
    let way = count * rate.den * 10 ^ 6 in
    let f = floors rate.num first way some in
    let near = abs_apart (f.apart * rate.num) way rate.num f.high f.low in
    let moved = apart_is start shift later (step_of step) (first / rate.num) f.apart e in
    let miss : unsigned_abs (miss_of (start +ℤ pos (first / rate.num) -ℤ shift) count rate step
    (start +ℤ pos ((first + way) / rate.num) -ℤ later)) ≤ rate.num =
    rw (f.second, scaled _ f.apart rate.num moved) near in
    omega (arith, miss, slow)
