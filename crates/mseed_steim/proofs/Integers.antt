-- A payload of integers.
use Rattle.mseed_steim.specs.Frames.{AreOctets}
use Rattle.std.proofs.Common.{◌≡◌, ℕ, zero, suc, ◌+◌, ◌-◌, ◌*◌, ◌/◌, ◌<◌, ◌≤◌, ◌^◌, List, [], ◌∷◌, length, ℤ}
use Rattle.std.proofs.Common.{pos, negsuc, ◌-ℤ◌, arith, refl, ap, ◌∙◌, slice_get, Some, Ok}
use Rattle.std.proofs.Math.Nat.{mul-suc}
use Rattle.byteorder.specs.Endian.{twos_complement}
use Rattle.byteorder.specs.Numbers.{big_from-lt, little_from-lt}
use Rattle.mseed_time.specs.declared.order.Order.{Order}
use Rattle.mseed_time.specs.declared.order.Order.TheVariants.{Big, Little}
use Rattle.mseed_time.specs.Fields.{number_at}
use Rattle.mseed_steim.specs.declared.form.Width.{Width}
use Rattle.mseed_steim.specs.declared.form.Width.TheVariants.{Two, Four}
use Rattle.mseed_steim.specs.declared.form.Form.TheVariants.{Integers}
use Rattle.mseed_steim.specs.declared.fault.Ends.{Ends}
use Rattle.mseed_steim.specs.private.Digits.{signed}
use Rattle.mseed_steim.specs.Samples.{AnswersPayload, AreEnds, BeginsWith, IsPayloadReading, bytes_of}
use Rattle.mseed_steim.proofs.Spelled.{signed_within, signed_residue}
use Rattle.mseed_steim.proofs.Framed.{minus}

pub number_lt : (order : Order) (w place : ℕ) (p : List ℕ) → AreOctets p → number_at order w place p < 256 ^ w
number_lt Big w place p octets = big_from-lt place w p octets
number_lt Little w place p octets = little_from-lt place w p octets

minus_all : (x m : ℕ) → x < m → pos x -ℤ pos m ≡ negsuc (m - 1 - x)
minus_all x zero h = absurd (omega arith)
minus_all x (suc m) h = minus x m h ∙ ap negsuc (omega arith)

-- two's complement of bytes is that of their bits
pub signed_is : (w x : ℕ) → x < 2 ^ (8 * w) → twos_complement w x ≡ signed (8 * w) x
signed_is w x small = search (arith, minus_all)

-- the first n integers
unfoldable pub integers : Order → ℕ → List ℕ → ℕ → ℕ → List ℤ
integers order w p place zero = []
integers order w p place (suc n) = twos_complement w (number_at order w place p) ∷ integers order w p (place + w) n

pub length-integers : (order : Order) (w : ℕ) (p : List ℕ) (place n : ℕ) → length (integers order w p place n) ≡ n
unfolding integers
length-integers order w p place zero = refl
length-integers order w p place (suc n) = ap suc (length-integers order w p (place + w) n)

pub get-integers : (order : Order) (w : ℕ) (p : List ℕ) (place n k : ℕ) → k < n
    → slice_get (integers order w p place n) k ≡ Some (twos_complement w (number_at order w (place + w * k) p))
unfolding integers
get-integers order w p place zero k h = absurd (omega arith)
get-integers order w p place (suc n) zero h = let same : place + w * 0 ≡ place = omega arith in rw same refl
get-integers order w p place (suc n) (suc k) h =
    grind (arith, mul-suc, get-integers order w p (place + w) n k (omega arith))

begins_by : (order : Order) (w : ℕ) (p : List ℕ) (place n : ℕ) → 0 < w → 256 ^ w ≡ 2 ^ (8 * w) → AreOctets p
    → place + w * n ≤ length p → BeginsWith order w p place (integers order w p place n)
unfolding integers
begins_by order w p place zero some e octets h = tt
begins_by order w p place (suc n) some e octets h =
    let x : ℕ = number_at order w place p in
    let small : x < 2 ^ (8 * w) = rw e at (number_lt order w place p octets) in
    let positive : 0 < 8 * w = omega arith in
    let same : twos_complement w x ≡ signed (8 * w) x = signed_is w x small in
    let long : w * suc n ≡ w + w * n = omega (arith, mul-suc w n) in
    grind (arith, signed_residue, signed_within, begins_by order w p (place + w) n some e octets (omega (arith, long)))

pub begins : (order : Order) (width : Width) (p : List ℕ) (n : ℕ) → AreOctets p
    → bytes_of width * n ≤ length p → BeginsWith order (bytes_of width) p 0 (integers order (bytes_of width) p 0 n)
begins order Two p n octets h = begins_by order 2 p 0 n (omega arith) refl octets (omega arith)
begins order Four p n octets h = begins_by order 4 p 0 n (omega arith) refl octets (omega arith)

pub integers_checked : (order : Order) (width : Width) (p : List ℕ) (n : ℕ) (ends : Ends) → 0 < n
    → AreOctets p → bytes_of width * n ≤ length p
    → ends.first ≡ twos_complement (bytes_of width) (number_at order (bytes_of width) 0 p)
    → ends.last ≡ twos_complement (bytes_of width) (number_at order (bytes_of width) (bytes_of width * (n - 1)) p)
    → AnswersPayload (Integers width) order p n AreEnds (Ok ends)
integers_checked order width p n ends h octets long first last =
    let count = length-integers order (bytes_of width) p 0 n in
    grind (arith, begins, get-integers)

pub whole_count : (width : Width) (n long : ℕ) → n ≤ long / bytes_of width → bytes_of width * n ≤ long
whole_count Two n long h = omega arith
whole_count Four n long h = omega arith

-- one integer after another
pub integers_step : (order : Order) (w : ℕ) (p : List ℕ) (n i : ℕ) → i < n
    → integers order w p (w * i) (n - i) ≡ twos_complement w (number_at order w (w * i) p) ∷ integers order w p
    (w * (i + 1)) (n - (i + 1))
unfolding integers
integers_step order w p n i h = grind (arith, mul-suc)

pub integers_over : (order : Order) (w : ℕ) (p : List ℕ) (n i : ℕ) → n ≤ i → integers order w p (w * i) (n - i) ≡ []
unfolding integers
integers_over order w p n i h = let none : n - i ≡ 0 = omega arith in rw none refl

pub filled : (order : Order) (width : Width) (p : List ℕ) (n : ℕ) (out : List ℤ) → AreOctets p
    → bytes_of width * n ≤ length p → out ≡ integers order (bytes_of width) p 0 n
    → IsPayloadReading (Integers width) order p n out
filled order width p n out octets long e = search (arith, begins, length-integers)
