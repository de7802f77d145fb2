-- Rows in two numbers, a byte a row.
use Rattle.std.proofs.Common.{◌≡◌, ℕ, zero, suc, ◌+◌, ◌*◌, ◌/◌, ◌%◌, ◌^◌, ◌<◌, List, [], ◌∷◌, get_or, arith, refl, ◌∙◌}
use Rattle.std.proofs.lemmas.Bool.Decides.{nat_tests}
use Rattle.std.proofs.Common.{ap}
use Rattle.std.proofs.Math.Nat.{div-div-eq-div-mul}
use Rattle.std.proofs.lemmas.Nat.{pow-add}
use Rattle.std.proofs.lemmas.Simd.{Each1-chunk, get_or-chunk, get_or_wider}
use lib.Lanes.{number_l, digits_l, chunk, Each1}
use Rattle.mseed_steim.specs.private.Unpacked.{row_of}

-- a byte of a number
byte_of : (xs : List ℕ) (i : ℕ) → Each1 (λ x. x < 16) xs → number_l 256 xs / 2 ^ (8 * i) % 16 ≡ get_or xs i 0
byte_of [] zero small = refl
byte_of [] (suc i) small = omega arith
byte_of (x ∷ xs) zero small = omega (arith, small.0)
byte_of (x ∷ xs) (suc i) small =
    let one : (x + 256 * number_l 256 xs) / 256 ≡ number_l 256 xs = omega (arith, small.0) in
    let more : 8 * suc i ≡ 8 + 8 * i = omega arith in
    let cut : (x + 256 * number_l 256 xs) / 2 ^ (8 * suc i) ≡ number_l 256 xs / 2 ^ (8 * i) =
    search (arith, nat_tests, div-div-eq-div-mul, pow-add) in
    ap (λ (n : ℕ). n % 16) cut ∙ byte_of xs i small.1

wider : (xs : List ℕ) → Each1 (λ x. x < 16) xs → Each1 (λ x. x < 256) xs
wider [] h = tt
wider (x ∷ xs) h = (omega (arith, h.0), wider xs h.1)

pub halves : (xs : List ℕ) (word : ℕ) → Each1 (λ x. x < 16) xs → word < 16
    → row_of (digits_l 18446744073709551616 2 (number_l 256 xs)) word ≡ get_or xs word 0
halves xs word small less =
    let half = get_or_wider 256 8 18446744073709551616 2 xs (word / 8) refl (wider xs small)
    (omega (arith, less)) in
    let at : 8 * (word / 8) + word % 8 ≡ word = omega arith in
    rw half (byte_of (chunk (8 * (word / 8)) 8 xs) (word % 8) (Each1-chunk (λ x. x < 16) (8 * (word / 8)) 8 xs small)
    ∙ get_or-chunk (8 * (word / 8)) 8 xs (word % 8) 0 (omega arith) ∙ rw at refl)
