-- By how much a record misses the end of a stretch's last written record, and that of the record that was read.
use Rattle.std.proofs.Common.{◌≡◌, ℕ, ◌+◌, ◌*◌, ◌/◌, ◌%◌, ◌^◌, ◌<◌, ◌≤◌, arith, ℤ, pos, ◌+ℤ◌, ◌-ℤ◌, ◌*ℤ◌, unsigned_abs}
use Rattle.std.proofs.lemmas.Int.{ints}
use Rattle.std.proofs.Math.Nat.{div-add-mod}
use Rattle.mseed_repack.proofs.Drifts.{times_sub}

-- A start that was rounded down is early by less than a microsecond, and so the next one misses its end by more.
pub rounded : (s t added step : ℤ) (place n num den : ℕ) → 0 < num → (left : ℕ) × ((left < num)
    × ((t -ℤ (s +ℤ pos (place * den * 10 ^ 6 / num) -ℤ added) +ℤ step) *ℤ pos num -ℤ pos (n * den * 10 ^ 6)
    ≡ ((t -ℤ s +ℤ (added +ℤ step)) *ℤ pos num -ℤ pos ((place + n) * den * 10 ^ 6)) +ℤ pos left))
rounded s t added step place n num den some =
    let due : ℕ = place * den * 10 ^ 6 in
    let way : ℤ = t -ℤ s +ℤ (added +ℤ step) in
    let early : t -ℤ (s +ℤ pos (due / num) -ℤ added) +ℤ step ≡ way -ℤ pos (due / num) = omega (arith, ints) in
    let product = times_sub (t -ℤ (s +ℤ pos (due / num) -ℤ added) +ℤ step) way (pos (due / num)) num early in
    (due % num, (omega (arith, some), omega (arith, ints, div-add-mod due num)))

-- a quarter less a microsecond, another quarter, and less than a microsecond are half a period at most
pub half_of : (miss drift : ℤ) (left num period : ℕ) → 4 * (unsigned_abs miss + num) ≤ period
    → 4 * unsigned_abs drift ≤ period → left < num → 2 * unsigned_abs ((miss +ℤ drift) +ℤ pos left) ≤ period
half_of miss drift left num period close near small = omega (arith, ints, close, near, small)
