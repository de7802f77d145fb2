-- Distances in time, scaled by rates.
use Rattle.std.proofs.Common.{◌≡◌, ℕ, ◌+◌, ◌*◌, ◌^◌, ◌≤◌, ◌<◌, ℤ, pos, ◌+ℤ◌, ◌-ℤ◌, ◌*ℤ◌, unsigned_abs}
use Rattle.std.proofs.Common.{arith, sym, ap, ◌∙◌, neg_ℤ, ◌≤ℤ◌, to_z, of_z, w64}
use Rattle.std.proofs.lemmas.Int.{ints, unsigned_abs-mul}
use Rattle.std.proofs.Math.Nat.{le_of_mul-le-mul_right, mul-le-mul_right}
use borrow.Author.Differences.{up, down}

-- a product of a difference
pub times_sub : (x y z : ℤ) (n : ℕ) → x ≡ y -ℤ z → x *ℤ pos n ≡ y *ℤ pos n -ℤ z *ℤ pos n
times_sub x y z n e =
    let sum : (up x + down y) + up z ≡ (down x + up y) + down z = omega (arith, ints) in
    omega (arith, ints, ap (λ (m : ℕ). m * n) sum)

-- a miss, and so the way from one record to the next, is what the clock says of both
pub miss_is : (s t u added step : ℤ) (num n c den : ℕ)
    → (u -ℤ t +ℤ step) *ℤ pos num -ℤ pos (c * den * 10 ^ 6)
    ≡ ((u -ℤ s +ℤ (added +ℤ step)) *ℤ pos num -ℤ pos ((n + c) * den * 10 ^ 6))
    -ℤ ((t -ℤ s +ℤ added) *ℤ pos num -ℤ pos (n * den * 10 ^ 6))
miss_is s t u added step num n c den =
    let way : u -ℤ t +ℤ step ≡ (u -ℤ s +ℤ (added +ℤ step)) -ℤ (t -ℤ s +ℤ added) = omega (arith, ints) in
    let scaled = times_sub (u -ℤ t +ℤ step) (u -ℤ s +ℤ (added +ℤ step)) (t -ℤ s +ℤ added) num way in
    omega (arith, ints)

-- a clock's own beginning is on time
pub at_start : (s : ℤ) (num den : ℕ) → 4 * unsigned_abs ((s -ℤ s +ℤ pos 0) *ℤ pos num -ℤ pos (0 * den * 10 ^ 6)) ≤ den
    * 10 ^ 6
at_start s num den = grind (arith, ints, times_sub)

-- By another ratio of one rate. Misses by two, num over den and k over other, are in the proportion of the
-- denominators.
pub signed_misses : (x : ℤ) (num den k other c : ℕ) → k * den ≡ num * other
    → (x *ℤ pos k -ℤ pos (c * other * 10 ^ 6)) *ℤ pos den ≡ (x *ℤ pos num -ℤ pos (c * den * 10 ^ 6)) *ℤ pos other
signed_misses x num den k other c e =
    let p : ℕ = up x in
    let q : ℕ = down x in
    let own = times (x *ℤ pos k -ℤ pos (c * other * 10 ^ 6)) (p * k) (q * k + c * other * 10 ^ 6) den
    (omega (arith, ints)) in
    let first = times (x *ℤ pos num -ℤ pos (c * den * 10 ^ 6)) (p * num) (q * num + c * den * 10 ^ 6) other
    (omega (arith, ints)) in
    omega (arith, ints, ap (λ (m : ℕ). p * m) e, ap (λ (m : ℕ). q * m) e)
  where
    times : (z : ℤ) (a b n : ℕ) → z ≡ pos a -ℤ pos b → z *ℤ pos n ≡ pos (a * n) -ℤ pos (b * n)
    times z a b n h = omega (arith, ints, times_sub z (pos a) (pos b) n h)

-- and so are the distances
misses : (x : ℤ) (num den k other c : ℕ) → k * den ≡ num * other
    → unsigned_abs (x *ℤ pos k -ℤ pos (c * other * 10 ^ 6)) * den
    ≡ unsigned_abs (x *ℤ pos num -ℤ pos (c * den * 10 ^ 6)) * other
misses x num den k other c e =
    sym (unsigned_abs-mul _ (pos den)) ∙ ap unsigned_abs (signed_misses x num den k other c e)
    ∙ unsigned_abs-mul _ (pos other)

-- so one that is within half a period by one is by the other
pub half_alike : (x : ℤ) (num den k other c : ℕ) → 0 < den → k * den ≡ num * other
    → 2 * unsigned_abs (x *ℤ pos num -ℤ pos (c * den * 10 ^ 6)) ≤ den * 10 ^ 6
    → 2 * unsigned_abs (x *ℤ pos k -ℤ pos (c * other * 10 ^ 6)) ≤ other * 10 ^ 6
half_alike x num den k other c some e h =
    le_of_mul-le-mul_right (omega (arith, misses x num den k other c e, mul-le-mul_right other h)) some

-- one that is within a quarter of a period, less a microsecond
pub close_alike : (x : ℤ) (num den k other c : ℕ) → 0 < other → k * den ≡ num * other
    → 4 * (unsigned_abs (x *ℤ pos k -ℤ pos (c * other * 10 ^ 6)) + k) ≤ other * 10 ^ 6
    → 4 * (unsigned_abs (x *ℤ pos num -ℤ pos (c * den * 10 ^ 6)) + num) ≤ den * 10 ^ 6
close_alike x num den k other c some e h =
    le_of_mul-le-mul_right (omega (arith, e, misses x num den k other c e, mul-le-mul_right den h)) some

-- and one that is three quarters of a period and a microsecond, or more, as much above 0 as these are above those
pub far_alike : (p q r s num den k other : ℕ) → 0 < other → k * den ≡ num * other
    → p * den + s * other ≡ r * other + q * den → (3 * (other * 10 ^ 6) + 4 * k) + 4 * q ≤ 4 * p
    → (3 * (den * 10 ^ 6) + 4 * num) + 4 * s ≤ 4 * r
far_alike p q r s num den k other some e f h =
    le_of_mul-le-mul_right (omega (arith, e, f, mul-le-mul_right den h)) some

-- two ratios that are one rate with a third are one rate
pub same_rates : (num den a b c d : ℕ) → 0 < den → num * b ≡ a * den → num * d ≡ c * den → a * d ≡ c * b
same_rates num den a b c d some e f =
    let one : (num * b) * d ≡ (a * den) * d = ap (λ (m : ℕ). m * d) e in
    let two : (num * d) * b ≡ (c * den) * b = ap (λ (m : ℕ). m * b) f in
    let low : (a * d) * den ≤ (c * b) * den = omega arith in
    let high : (c * b) * den ≤ (a * d) * den = omega arith in
    omega (arith, le_of_mul-le-mul_right low some, le_of_mul-le-mul_right high some)

-- a sum that fits
pub summed : (a b : ℤ) (n : ℕ) → neg_ℤ (pos (n * 1_000_000)) ≤ℤ a → a ≤ℤ pos (n * 1_000_000) → n ≤ 2 ^ 40
    → neg_ℤ (pos 1_000_000) ≤ℤ b → b ≤ℤ pos 1_000_000
    → to_z w64 (of_z w64 (to_z w64 (of_z w64 a) +ℤ to_z w64 (of_z w64 b))) ≡ a +ℤ b
summed a b n l h few m k = omega (arith, ints)
