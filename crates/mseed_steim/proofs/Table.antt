-- What the table's rows have in common.
use Rattle.std.proofs.Common.{◌≡◌, ℕ, ◌+◌, ◌*◌, ◌/◌, ◌%◌, ◌^◌, ◌<◌, ◌≤◌, List, length, ℤ, arith, refl, subst, Bool}
use Rattle.std.proofs.Common.{true}
use Rattle.std.proofs.Common.{false, cond, Option, Some, None}
use Rattle.mseed_steim.specs.declared.scheme.Scheme.{Scheme}
use Rattle.mseed_steim.specs.declared.scheme.Scheme.TheVariants.{One, Two}
use Rattle.mseed_steim.specs.Groups.{wide_group, narrow_group, Group, group_of, plain, marked}
use Rattle.mseed_steim.specs.Spelling.{Spells, IsGroup, empty, row, positional}
use Rattle.mseed_steim.proofs.Words.{positional_lt, positional_one}

pub cond_holds : (P : Option Group → Type 0) (b : Bool) (x y : Option Group) → P x → P y → P (cond b x y)
cond_holds P true x y p q = p
cond_holds P false x y p q = q

-- the three kinds of rows
pub data Kind (g : Group) : Type 0 where
  whole : g.marked ≡ false → g.spare ≡ 1 → g.width * g.count ≡ 32 → Kind g
  full : g.marked ≡ true → g.spare ≡ 1 → g.width * g.count ≡ 30 → Kind g
  short : g.marked ≡ true → g.spare ≡ 4 → g.width * g.count ≡ 28 → Kind g

pub record Sized (g : Group) : Type 0 where
  pub wide : 0 < g.width
  pub few : g.count ≤ 7
  pub kind : Kind g

abbrev pub AllSized : Option Group → Type 0
AllSized o = (g : Group) → o ≡ Some g → Sized g

none_sized : AllSized None
none_sized g e = cc

some_sized : (g : Group) → 0 < g.width → g.count ≤ 7 → Kind g → AllSized (Some g)
some_sized g p f q h e = let same : g ≡ h = cc in subst Sized same (record { wide = p; few = f; kind = q })

plain_sized : (k w : ℕ) → 0 < w → k ≤ 7 → w * k ≡ 32 → AllSized (plain k w)
plain_sized k w p f q = some_sized _ p f (whole refl refl q)

marked_sized : (k w : ℕ) → 0 < w → k ≤ 7 → w * k ≡ 30 → AllSized (marked k w)
marked_sized k w p f q = some_sized _ p f (full refl refl q)

wide_sized : (d : ℕ) → AllSized (wide_group d)
wide_sized d = search (arith, cond_holds, marked_sized, none_sized)

narrow_sized : (d : ℕ) → AllSized (narrow_group d)
narrow_sized d = search (arith, cond_holds, marked_sized, none_sized, some_sized)

-- each row is sized
pub group_sized : (s : Scheme) (c d : ℕ) → AllSized (group_of s c d)
group_sized s c d = search (arith, cond_holds, narrow_sized, none_sized, plain_sized, wide_sized)

-- code 0 has no row
pub no_row : (s : Scheme) (d : ℕ) (g : Group) → group_of s 0 d ≡ Some g → ⊥
no_row One d g e = cc
no_row Two d g e = cc

-- the word without its spare: the dnib's term and the digits, by the kind of the row
sum_full : (g : Group) (d word : ℕ) (ds : List ℤ) → g.marked ≡ true → g.spare ≡ 1 → g.width * g.count ≡ 30
    → IsGroup g d word ds → (word ≡ d * 2 ^ 30 + positional g.width ds) × (positional g.width ds < 2 ^ 30)
sum_full g d word ds m j l a = search (arith, positional_lt)

sum_short : (g : Group) (d word : ℕ) (ds : List ℤ) → g.marked ≡ true → g.spare ≡ 4 → g.width * g.count ≡ 28
    → IsGroup g d word ds → (word ≡ d * 2 ^ 30 + (word / 2 ^ 28 % 4) * 2 ^ 28 + positional g.width ds)
    × (positional g.width ds < 2 ^ 28)
sum_short g d word ds m j l a = search (arith, positional_lt)

sum_whole : (g : Group) (d word : ℕ) (ds : List ℤ) → g.marked ≡ false → g.spare ≡ 1 → IsGroup g d word ds
    → word ≡ positional g.width ds
sum_whole g d word ds m j a = search arith

-- a row with a dnib is found by the word's top two bits
top_is : (g : Group) (d word : ℕ) (ds : List ℤ) → Kind g → g.marked ≡ true → IsGroup g d word ds → word / 2 ^ 30 ≡ d
top_is g d word ds (whole m j l) t a = cc
top_is g d word ds (full m j l) t a = omega (arith, sum_full g d word ds m j l a)
top_is g d word ds (short m j l) t a = omega (arith, sum_short g d word ds m j l a)

-- one sum has one list of digits
digits_one : (g : Group) (d word : ℕ) (ds es : List ℤ) → Kind g → IsGroup g d word ds → IsGroup g d word es
    → positional g.width ds ≡ positional g.width es
digits_one g d word ds es (whole m j l) a b = omega (arith, sum_whole g d word ds m j a, sum_whole g d word es m j b)
digits_one g d word ds es (full m j l) a b = omega (arith, sum_full g d word ds m j l a, sum_full g d word es m j l b)
digits_one g d word ds es (short m j l) a b =
    omega (arith, sum_short g d word ds m j l a, sum_short g d word es m j l b)

pub spelled_as_one : (g : Group) (d word : ℕ) (ds es : List ℤ) → Sized g → IsGroup g d word ds → IsGroup g d word es
    → ds ≡ es
spelled_as_one g d word ds es z a b =
    let long : length ds ≡ length es = omega (arith, a.count, b.count) in
    positional_one g.width ds es z.wide long a.range b.range (digits_one g d word ds es z.kind a b)

-- rows with a dnib, and rows without one, which are the same for each dnib
abbrev AllMarked : Option Group → Type 0
AllMarked o = (g : Group) → o ≡ Some g → g.marked ≡ true

is_marked : (g : Group) → g.marked ≡ true → AllMarked (Some g)
is_marked g m h e = let same : g ≡ h = cc in rw (← same) m

none_marked : AllMarked None
none_marked g e = cc

wide_marked : (d : ℕ) → AllMarked (wide_group d)
wide_marked d = search (arith, cond_holds, is_marked, none_marked)

narrow_marked : (d : ℕ) → AllMarked (narrow_group d)
narrow_marked d = search (arith, cond_holds, is_marked, none_marked)

first_or_marked : (b : Bool) (x y z : Option Group) (g : Group) → AllMarked y → g.marked ≡ false → cond b x y ≡ Some g
    → cond b x z ≡ Some g
first_or_marked true x y z g m f e = e
first_or_marked false x y z g m f e = let t : g.marked ≡ true = m g e in cc

same_row : (s : Scheme) (c d e : ℕ) (g : Group) → g.marked ≡ false → group_of s c d ≡ Some g → group_of s c e ≡ Some g
same_row s c d e g m h = search (arith, cond_holds, first_or_marked, narrow_marked, none_marked, wide_marked)

-- what a row spells at some dnib it spells at the word's top two bits
pub at_top : (s : Scheme) (c d word : ℕ) (g : Group) (ds : List ℤ) → Kind g → group_of s c d ≡ Some g
    → IsGroup g d word ds → (group_of s c (word / 2 ^ 30) ≡ Some g) × IsGroup g (word / 2 ^ 30) word ds
at_top s c d word g ds (whole m j l) h a = grind (arith, same_row, sum_whole)
at_top s c d word g ds (full m j l) h a = let e : word / 2 ^ 30 ≡ d = top_is g d word ds (full m j l) m a in
    (rw e h, rw e a)
at_top s c d word g ds (short m j l) h a = let e : word / 2 ^ 30 ≡ d = top_is g d word ds (short m j l) m a in
    (rw e h, rw e a)

-- A word spells one list at most.
pub spells_one : (s : Scheme) (c word : ℕ) (ds es : List ℤ) → Spells s c word ds → Spells s c word es → ds ≡ es
spells_one s c word ds es (empty e p) (empty f q) = cc
spells_one s c word ds es (empty e p) (row g d f q) = absurd (no_row s d g (rw e at f))
spells_one s c word ds es (row g d f q) (empty e p) = absurd (no_row s d g (rw e at f))
spells_one s c word ds es (row g d e p) (row h f r q) =
    let z : Sized g = group_sized s c d g e in
    let y : Sized h = group_sized s c f h r in
    let at_g = at_top s c d word g ds z.kind e p in
    let at_h = at_top s c f word h es y.kind r q in
    let same : h ≡ g = cc (at_g.0, at_h.0) in
    spelled_as_one g (word / 2 ^ 30) word ds es z at_g.1 (subst (λ x. IsGroup x (word / 2 ^ 30) word es) same at_h.1)
