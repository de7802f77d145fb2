-- Numbers and fields read from bytes.
use Rattle.std.proofs.Common.{◌≡◌, ℕ, zero, suc, ◌+◌, ◌*◌, ◌<◌, ◌≤◌, List, slice_index, take, drop, refl, ap, ◌∙◌}
use Rattle.std.proofs.Common.{arith}
use Rattle.std.proofs.lemmas.Bool.Decides.{nat_tests}
use Rattle.std.proofs.lemmas.List.{get_or-drop}
use Rattle.std.specs.Prelude.{None}
use Rattle.byteorder.specs.Endian.{little_from}
use Rattle.byteorder.specs.Numbers.{little_from-take}
use Rattle.mseed_time.specs.declared.order.Order.{Order}
use Rattle.mseed_time.specs.declared.order.Order.TheVariants.{Big, Little}
use Rattle.mseed_time.specs.Fields.{number_at}
use Rattle.mseed_time.specs.Btime.{Parts, IsTime, first_fault}

-- a number of two bytes reads no others
pub number_at-same : (order : Order) (offset : ℕ) (xs ys : List ℕ) → slice_index xs offset ≡ slice_index ys offset
    → slice_index xs (offset + 1) ≡ slice_index ys (offset + 1)
    → number_at order 2 offset xs ≡ number_at order 2 offset ys
number_at-same Big offset xs ys e f = grind arith
number_at-same Little offset xs ys e f = grind arith

-- so it is the same where the first n bytes are
pub number_at-kept : (order : Order) (offset n : ℕ) (xs ys : List ℕ) → offset + 2 ≤ n
    → ((k : ℕ) → k < n → slice_index xs k ≡ slice_index ys k)
    → number_at order 2 offset xs ≡ number_at order 2 offset ys
number_at-kept order offset n xs ys h kept =
    number_at-same order offset xs ys (kept offset (omega arith)) (kept (offset + 1) (omega arith))

-- the bytes from a place on spell the number at that place
from_place : (place i n : ℕ) (xs : List ℕ) → little_from i n (drop place xs) ≡ little_from (place + i) n xs
from_place place i zero xs = refl
from_place place i (suc n) xs =
    let next : place + suc i ≡ suc (place + i) = omega arith in
    ap (λ (b : ℕ). b + 256 * little_from (suc i) n (drop place xs)) (get_or-drop place xs i 0)
    ∙ ap (λ (r : ℕ). slice_index xs (place + i) + 256 * r)
    (from_place place (suc i) n xs ∙ ap (λ (k : ℕ). little_from k n xs) next)

pub number_there : (place n m : ℕ) (xs : List ℕ) → n ≤ m
    → little_from 0 n (take m (drop place xs)) ≡ number_at Little n place xs
number_there place n m xs h =
    let here : place + 0 ≡ place = omega arith in
    little_from-take 0 n m (drop place xs) (omega (arith, h)) ∙ from_place place 0 n xs
    ∙ ap (λ (k : ℕ). little_from k n xs) here

-- a time has no fault
pub first_fault-none : (t : Parts) → IsTime t → first_fault t ≡ None
first_fault-none t h = grind (arith, nat_tests)
