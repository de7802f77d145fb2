-- Words as sums of signed digits.
use Rattle.std.proofs.Common.{◌≡◌, ℕ, suc, ◌+◌, ◌-◌, ◌*◌, ◌%◌, ◌^◌, ◌<◌, ◌≤ℤ◌, ◌<ℤ◌, List, [], ◌∷◌, length, ℤ, pos}
use Rattle.std.proofs.Common.{negsuc}
use Rattle.std.proofs.Common.{neg_ℤ, arith, ap, refl, All}
use Rattle.std.proofs.lemmas.Nat.{pow_pos, pow-add, same_from_place, mul-add-lt}
use Rattle.std.proofs.lemmas.Int.{ints}
use Rattle.std.proofs.lemmas.List.Elements.{All-head, All-tail}
use Rattle.std.proofs.Math.Nat.{two-pow-succ, mod-eq_of_lt, mod-lt}
use Rattle.mseed_steim.specs.Spelling.{IsWithin, residue, positional}

-- twice the half is the whole
pub twice_half : (w : ℕ) → 0 < w → 2 ^ w ≡ 2 * 2 ^ (w - 1)
twice_half w p =
    let e : w ≡ suc (w - 1) = omega arith in
    grind (arith, two-pow-succ)

-- a residue is below its modulus
pub residue_lt : (m : ℕ) (d : ℤ) → 0 < m → residue m d < m
residue_lt m (pos n) p = mod-lt n p
residue_lt m (negsuc n) p = omega (arith, mod-lt n p)

-- numbers below the half are their own residues
small_mod : (m h n : ℕ) → m ≡ 2 * h → n < h → n % m ≡ n
small_mod m h n s less = mod-eq_of_lt (omega (arith, s, less))

-- none of them is that of a number below 0
differ : {A : Type 0} (m h a b : ℕ) → m ≡ 2 * h → a < h → b < h → a % m ≡ m - 1 - b % m → A
differ m h a b s al bl r = absurd (omega (arith, s, al, bl, r, small_mod m h a s al, small_mod m h b s bl))

-- two numbers in range with one residue are one
residue_one_half : (m h : ℕ) (d e : ℤ) → m ≡ 2 * h → (neg_ℤ (pos h) ≤ℤ d) → d <ℤ pos h → (neg_ℤ (pos h) ≤ℤ e)
    → e <ℤ pos h → residue m d ≡ residue m e → d ≡ e
residue_one_half m h (pos a) (pos b) s d1 d2 e1 e2 r =
    ap pos (omega (arith, r, small_mod m h a s (omega (arith, ints)), small_mod m h b s (omega (arith, ints))))
residue_one_half m h (negsuc a) (negsuc b) s d1 d2 e1 e2 r =
    let al : a < h = omega (arith, ints) in
    let bl : b < h = omega (arith, ints) in
    ap negsuc (omega (arith, r, small_mod m h a s al, small_mod m h b s bl))
residue_one_half m h _ _ s d1 d2 e1 e2 r = grind (arith, differ, ints)

pub residue_one : (w : ℕ) (d e : ℤ) → 0 < w → IsWithin w d → IsWithin w e → residue (2 ^ w) d ≡ residue (2 ^ w) e
    → d ≡ e
residue_one w d e p h k s = residue_one_half (2 ^ w) (2 ^ (w - 1)) d e (twice_half w p) h.0 h.1 k.0 k.1 s

pub positional_lt : (w : ℕ) (ds : List ℤ) → positional w ds < 2 ^ (w * length ds)
positional_lt w [] = pow_pos (w * 0)
positional_lt w (d ∷ ds) =
    let h : residue (2 ^ w) d < 2 ^ w = residue_lt (2 ^ w) d (pow_pos w) in
    let k : positional w ds < 2 ^ (w * length ds) = positional_lt w ds in
    let e : 2 ^ (w + w * length ds) ≡ 2 ^ w * 2 ^ (w * length ds) = pow-add 2 w (w * length ds) in
    let f : 2 ^ (w * suc (length ds)) ≡ 2 ^ (w + w * length ds) = ap (λ n. 2 ^ n) (omega arith) in
    omega (arith, mul-add-lt (residue (2 ^ w) d) (2 ^ (w * length ds)) (positional w ds) (2 ^ w) h k, e, f)

-- The word's digits are one list.
pub positional_one : (w : ℕ) (ds es : List ℤ) → 0 < w → length ds ≡ length es → All (IsWithin w) ds
    → All (IsWithin w) es → positional w ds ≡ positional w es → ds ≡ es
positional_one w [] [] p l h k s = refl
positional_one w (d ∷ ds) (e ∷ es) p l h k s =
    let same : length ds ≡ length es = omega arith in
    let below : positional w ds < 2 ^ (w * length es) = rw same at (positional_lt w ds) in
    let both : residue (2 ^ w) d * 2 ^ (w * length es) + positional w ds ≡ residue (2 ^ w) e * 2 ^ (w * length es)
    + positional w es = rw same at s in
    let parts : (residue (2 ^ w) d ≡ residue (2 ^ w) e) × (positional w ds ≡ positional w es) =
    same_from_place (residue (2 ^ w) d) (positional w ds) (residue (2 ^ w) e) (positional w es)
    (2 ^ (w * length es)) below (positional_lt w es) both in
    let first : d ≡ e = residue_one w d e p (All-head (IsWithin w) d ds h) (All-head (IsWithin w) e es k) parts.0 in
    let rest : ds ≡ es = positional_one w ds es p same (All-tail (IsWithin w) d ds h) (All-tail (IsWithin w) e es k)
    parts.1 in
    cc
positional_one w _ _ p l h k s = absurd (omega arith)
