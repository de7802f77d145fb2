-- A word's digits are what it spells, and nothing else is.
use Rattle.std.proofs.Common.{◌≡◌, ℕ, zero, suc, ◌+◌, ◌-◌, ◌*◌, ◌/◌, ◌%◌, ◌^◌, ◌<◌, ◌≤◌, List, [], ◌∷◌, length, ℤ}
use Rattle.std.proofs.Common.{arith, sym, ap, subst, refl, All, Bool, true, false, cond, eqb, Option, Some}
use Rattle.std.proofs.Common.{if◌then◌else◌}
use Rattle.std.proofs.Common.{None, w16, w32, to_z}
use Rattle.std.proofs.lemmas.Nat.{pow_pos, mod-pow-add}
use Rattle.std.proofs.lemmas.Bool.{ne_eqb, eqb-true}
use Rattle.std.proofs.Math.Nat.{mod-eq_of_lt, mod-lt, mul-suc, mul-zero, mod-one}
use Rattle.std.proofs.lemmas.List.Elements.{All-nil}
use Rattle.mseed_steim.specs.declared.scheme.Scheme.{Scheme}
use Rattle.mseed_steim.specs.declared.scheme.Scheme.TheVariants.{One, Two}
use Rattle.mseed_steim.specs.Groups.{Group, group_of, plain}
use Rattle.mseed_steim.specs.Spelling.{Spells, IsGroup, empty, row, residue, IsWithin, positional}
use Rattle.mseed_steim.specs.private.Digits.{signed, digit_at, digits, differences_in, differences_of}
use Rattle.mseed_steim.proofs.Words.{twice_half}
use Rattle.mseed_steim.proofs.Table.{Sized, Kind, whole, full, short, group_sized, no_row, at_top, spelled_as_one}

-- what a digit stands for is in range, and has the digit as its residue
pub signed_within : (w n : ℕ) → 0 < w → n < 2 ^ w → IsWithin w (signed w n)
signed_within w n p h = search (arith, twice_half)

pub signed_residue : (w n : ℕ) → 0 < w → n < 2 ^ w → residue (2 ^ w) (signed w n) ≡ n
signed_residue w n p h = search (arith, mod-eq_of_lt)

pub length-digits : (w word k : ℕ) → length (digits w word k) ≡ k
unfolding digits
length-digits w word zero = refl
length-digits w word (suc k) = ap suc (length-digits w word k)

digits_within : (w word k : ℕ) → 0 < w → All (IsWithin w) (digits w word k)
unfolding digits
digits_within w word zero p = All-nil (IsWithin w)
digits_within w word (suc k) p = grind (arith, mod-lt, pow_pos, signed_within, digits_within w word k p)

digits_positional : (w word k : ℕ) → 0 < w → positional w (digits w word k) ≡ word % 2 ^ (w * k)
unfolding digits
digits_positional w word zero p = rw mul-zero (sym (mod-one word))
digits_positional w word (suc k) p =
    grind (arith, length-digits, mod-lt, mod-pow-add, mul-suc, pow_pos, signed_residue, digits_positional w word k p)

-- the digits are the word's differences, whatever of the word stands above them
group_by : (g : Group) (word spare : ℕ) → 0 < g.width → spare < g.spare
    → word ≡ (if g.marked then word / 2 ^ 30 * 2 ^ 30 else 0) + spare * 2 ^ 28 + word % 2 ^ (g.width * g.count)
    → IsGroup g (word / 2 ^ 30) word (digits g.width word g.count)
group_by g word spare p few sum = search (arith, digits_positional, digits_within, length-digits)

-- by the three kinds of rows
is_group : (g : Group) (word : ℕ) → word < 2 ^ 32 → 0 < g.width → Kind g
    → IsGroup g (word / 2 ^ 30) word (digits g.width word g.count)
is_group g word small p (whole m j l) = group_by g word 0 p (omega (arith, j)) (rw (m, l) (omega (arith, small)))
is_group g word small p (full m j l) = group_by g word 0 p (omega (arith, j)) (rw (m, l) (omega arith))
is_group g word small p (short m j l) =
    group_by g word (word / 2 ^ 28 % 4) p (omega (arith, j)) (rw (m, l) (omega arith))

from_group : (s : Scheme) (c word : ℕ) (o : Option Group) (ds : List ℤ) → word < 2 ^ 32
    → group_of s c (word / 2 ^ 30) ≡ o → differences_in word o ≡ Some ds → Spells s c word ds
from_group s c word None ds small e h = cc
from_group s c word (Some g) ds small e h =
    let z : Sized g = group_sized s c (word / 2 ^ 30) g e in
    let same : digits g.width word g.count ≡ ds = cc in
    subst (Spells s c word) same (row g (word / 2 ^ 30) e (is_group g word small z.wide z.kind))

by_code : (s : Scheme) (c word : ℕ) (b : Bool) (ds : List ℤ) → word < 2 ^ 32 → eqb c 0 ≡ b
    → cond b (Some []) (differences_in word (group_of s c (word / 2 ^ 30))) ≡ Some ds → Spells s c word ds
by_code s c word true ds small e h = empty (eqb-true c 0 e) (cc)
by_code s c word false ds small e h = from_group s c word (group_of s c (word / 2 ^ 30)) ds small refl h

-- What the digits are is spelled.
pub differences_spelled : (s : Scheme) (c word : ℕ) (ds : List ℤ) → word < 2 ^ 32 → differences_of s c word ≡ Some ds
    → Spells s c word ds
unfolding differences_of
differences_spelled s c word ds small h = by_code s c word (eqb c 0) ds small refl h

-- What is spelled is the digits.
pub spelled_differences : (s : Scheme) (c word : ℕ) (ds : List ℤ) → word < 2 ^ 32 → Spells s c word ds
    → differences_of s c word ≡ Some ds
unfolding differences_of
spelled_differences s c word ds small (empty e q) = rw (e, q) refl
spelled_differences s c word ds small (row g d e p) =
    let z : Sized g = group_sized s c d g e in
    let found = at_top s c d word g ds z.kind e p in
    let same : digits g.width word g.count ≡ ds =
    spelled_as_one g (word / 2 ^ 30) word (digits g.width word g.count) ds z (is_group g word small z.wide z.kind)
    found.1 in
    let some : eqb c 0 ≡ false = ne_eqb c 0 (λ (z : c ≡ 0). absurd (no_row s d g (rw z at e))) in
    rw (some, found.0, same) refl

-- the next digit, and those after it
pub digits_step : (w word count i : ℕ) → i < count
    → digits w word (count - i) ≡ digit_at w word (count - 1 - i) ∷ digits w word (count - (i + 1))
unfolding digits
digits_step w word count i h = grind arith

-- the one digit of 32 bits
pub signed_32 : (n : ℕ) → n < 2 ^ 32 → signed 32 n ≡ to_z w32 n
signed_32 n h = search arith

-- and of 16
pub signed_16 : (n : ℕ) → n < 2 ^ 16 → signed 16 n ≡ to_z w16 n
signed_16 n h = search arith

-- after the last digit there's none
pub digits_over : (w word count i : ℕ) → count ≤ i → digits w word (count - i) ≡ []
unfolding digits
digits_over w word count i h = let over : count - i ≡ 0 = omega arith in rw over refl

-- the differences of a word by its row of the table
pub by_row : (s : Scheme) (c word : ℕ) (m : Bool) (j k w : ℕ) (ds : List ℤ) → 0 < c
    → group_of s c (word / 2 ^ 30) ≡ Some (record { marked = m; spare = j; count = k; width = w })
    → ds ≡ digits w word k → differences_of s c word ≡ Some ds
unfolding differences_of
by_row s c word m j k w ds p e q = grind (arith, ne_eqb)

-- code 1 is one row in both schemes
pub bytes_row : (s : Scheme) (d : ℕ) → group_of s 1 d ≡ plain 4 8
bytes_row One d = refl
bytes_row Two d = refl

-- code 0
pub no_differences : (s : Scheme) (c word : ℕ) (ds : List ℤ) → c ≡ 0 → ds ≡ [] → differences_of s c word ≡ Some ds
unfolding differences_of
no_differences s c word ds e q = rw (e, q) refl
