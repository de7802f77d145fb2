-- The fullest row of some differences, found by the largest size of more and more of them.
use Rattle.std.proofs.Common.{◌≡◌, ◌↔◌, ℕ, ◌+◌, ◌-◌, ◌^◌, ◌<◌, ◌≤◌, List, length, take, get_or, ℤ, pos, arith}
use Rattle.std.proofs.Common.{sym, ap, subst, All, ⊎_elim, Option, Some, None}
use Rattle.std.proofs.Common.{min}
use Rattle.std.specs.Ordering.{nat_cmp, ord_max}
use Rattle.std.proofs.lemmas.Nat.{pow_pos}
use Rattle.std.proofs.lemmas.Bool.{cases_lt}
use Rattle.std.proofs.lemmas.List.{length-take-le}
use Rattle.mseed_steim.specs.declared.scheme.Scheme.{Scheme}
use Rattle.mseed_steim.specs.Spelling.{IsWithin}
use Rattle.mseed_steim.proofs.Greatest.{max_is}
use Rattle.mseed_steim.proofs.Widths.{within_wider}
use Rattle.mseed_steim_pack.specs.declared.row.WordFormat.{WordFormat}
use Rattle.mseed_steim_pack.specs.Packing.{CanSpell}
use Rattle.mseed_steim_pack.specs.private.Rows.{row_for, size_limit, IsBestRow, IsWide, NoneSpelled}
use Rattle.mseed_steim_pack.proofs.Bits.{prefix_within}
use Rattle.mseed_steim_pack.proofs.Rows.{FitsRow, pair_wider, spelled_fits, row_is}

-- of the sizes of the first i differences this is the largest: bits that leave it room hold them all, and no others do
pub record Sized (ds : List ℤ) (i size : ℕ) : Type 0 where
  pub by : (w : ℕ) → (size < 2 ^ (w - 1)) ↔ ((j : ℕ) → j < i → IsWithin w (get_or ds j (pos 0)))
  pub small : size < 2 ^ 31

pub sized_none : (ds : List ℤ) → Sized ds 0 0
sized_none ds = record { by = λ w. (λ h j l. absurd (omega (arith, l)), λ h. pow_pos (w - 1)); small = omega arith }

pub sized_more : (ds : List ℤ) (i size next m : ℕ) → Sized ds i size
    → ((w : ℕ) → (next < 2 ^ (w - 1)) ↔ IsWithin w (get_or ds i (pos 0))) → next < 2 ^ 31
    → m ≡ ord_max nat_cmp size next → Sized ds (i + 1) m
sized_more ds i size next m known one small e =
    let top = max_is size next m e in record {
      by = λ w. (
        λ room j under. ⊎_elim (λ (less : j < i). (known.by w).0 (omega (arith, top.0, room)) j less)
            (λ (last : i ≤ j). let same : j ≡ i = omega (arith, under, last) in
            rw same ((one w).0 (omega (arith, top.1, room)))) (cases_lt j i),
        λ each.
            let old = (known.by w).1 (λ j less. each j (omega (arith, less))) in
            omega (arith, top.2, old, (one w).1 (each i (omega arith))),
      );
      small = omega (arith, top.2, known.small, small);
    }

-- a prefix that a word spells fits the row of its length
pub prefix_fits : (s : Scheme) (ds : List ℤ) (k : ℕ) → 0 < k → k ≤ length ds → CanSpell s (take k ds)
    → (r : WordFormat) × ((row_for s k ≡ Some r) × All (IsWithin r.width) (take k ds))
prefix_fits s ds k p in' can =
    let long : length (take k ds) ≡ k = length-take-le k ds in' in
    let fits : FitsRow s (take k ds) = spelled_fits s (take k ds) (omega (arith, long, p)) can in
    (fits.row, (subst (λ (n : ℕ). row_for s n ≡ Some fits.row) long fits.found, fits.range))

-- a prefix that no word spells, since one of its differences needs more
not_spelled : (s : Scheme) (ds : List ℤ) (k size : ℕ) → 0 < k → k ≤ length ds → Sized ds k size
    → size_limit (row_for s k) ≤ size → ¬ (CanSpell s (take k ds))
not_spelled s ds k size p in' known wide can =
    let fits = prefix_fits s ds k p in' can in
    let enough = (known.by fits.0.width).1 ((prefix_within fits.0.width k ds in').0 fits.1.1) in
    let limit : size_limit (row_for s k) ≡ 2 ^ (fits.0.width - 1) = ap size_limit fits.1.0 in
    omega (arith, enough, limit, wide)

-- no word spells a prefix of so many, nor of more
pub none_on : (s : Scheme) (ds : List ℤ) (low mid high : ℕ) → NoneSpelled s ds low mid → NoneSpelled s ds mid high
    → NoneSpelled s ds low high
none_on s ds low mid high first later k over under = ⊎_elim (λ (less : k < mid + 1). first k over (omega (arith, less)))
    (λ (more : mid + 1 ≤ k). later k (omega (arith, more)) under) (cases_lt k (mid + 1))

-- no word has more than seven
pub none_after_seven : (s : Scheme) (ds : List ℤ) → NoneSpelled s ds 7 (length ds)
none_after_seven s ds k over under can =
    let fits = prefix_fits s ds k (omega (arith, over)) under can in
    let is = row_is s k fits.0 fits.1.0 in
    omega (arith, is.0.most, is.1, over)

pub best_extends : (s : Scheme) (ds : List ℤ) (i high : ℕ) (o : Option WordFormat) → i ≤ high
    → NoneSpelled s ds i high → IsBestRow s ds i o → IsBestRow s ds high o
best_extends s ds i high None le none best = none_on s ds 0 i high best none
best_extends s ds i high (Some r) le none best =
    (best.0, omega (arith, best.1, le), best.2, none_on s ds r.count i high best.3 none)

-- the row of so many is the best of a prefix where no word spells more of it
pub best_by : (s : Scheme) (ds : List ℤ) (k high : ℕ) (r : WordFormat) → row_for s k ≡ Some r → k ≤ high
    → All (IsWithin r.width) (take k ds) → NoneSpelled s ds k high → IsBestRow s ds high (Some r)
best_by s ds k high r found inside range none = subst
    (λ (n : ℕ). (row_for s n ≡ Some r) × (n ≤ high) × All (IsWithin r.width) (take n ds) × NoneSpelled s ds n high)
    (sym (row_is s k r found).1) (found, inside, range, none)

-- so many differences are in one word
pub best_at : (s : Scheme) (ds : List ℤ) (k size : ℕ) (o : Option WordFormat) → k ≤ length ds → row_for s k ≡ o
    → Sized ds k size → size < size_limit o → IsBestRow s ds k o
best_at s ds k size None inside e known less = absurd (omega (arith, less))
best_at s ds k size (Some r) inside e known less = best_by s ds k k r e (omega arith)
    ((prefix_within r.width k ds inside).1 ((known.by r.width).0 less))
    (λ j over under. absurd (omega (arith, over, under)))

-- so many aren't in one word
pub best_same : (s : Scheme) (ds : List ℤ) (i size : ℕ) (o : Option WordFormat) → i < length ds → Sized ds (i + 1) size
    → size_limit (row_for s (i + 1)) ≤ size → IsBestRow s ds i o → IsBestRow s ds (i + 1) o
best_same s ds i size o less known wide best =
    best_extends s ds i (i + 1) o (omega arith)
    (λ k h l. let same : k ≡ i + 1 = omega (arith, h, l) in
    rw same (not_spelled s ds (i + 1) size (omega arith) (omega (arith, less)) known wide)) best

-- none of them are
pub best_none : (s : Scheme) (ds : List ℤ) → IsBestRow s ds 0 (row_for s 0)
best_none s ds = search (arith)

-- no row has more than seven
pub best_all : (s : Scheme) (ds : List ℤ) (i : ℕ) (o : Option WordFormat) → min (length ds) 7 ≤ i → i ≤ length ds
    → IsBestRow s ds i o → IsBestRow s ds (length ds) o
best_all s ds i o over less best = best_extends s ds i (length ds) o less
    (λ k more low. none_after_seven s ds k (omega (arith, over, more, low)) low) best

-- no word takes another difference beside a wide one
pub wide_alone : (s : Scheme) (ds : List ℤ) → IsWide s (get_or ds 0 (pos 0)) → NoneSpelled s ds 1 (length ds)
wide_alone s ds wide k some inside can =
    let fits = prefix_fits s ds k (omega (arith, some)) inside can in
    let two = pair_wider s k fits.0 some fits.1.0 in
    let first = (prefix_within fits.0.width k ds inside).0 fits.1.1 0 (omega (arith, some)) in
    wide two.0 two.1.0 (within_wider fits.0.width two.0.width (get_or ds 0 (pos 0)) two.1.1 first)
