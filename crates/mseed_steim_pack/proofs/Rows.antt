-- The rows of the table, by how many differences they have, and what words of them spell.
use Rattle.std.proofs.Common.{◌≡◌, ◌≢◌, ℕ, ◌+◌, ◌*◌, ◌^◌, ◌<◌, ◌≤◌, ◌/◌, ◌%◌, List, [], ◌∷◌, length, ℤ}
use Rattle.std.proofs.Common.{sym, ◌∙◌, subst, All, ⊎_elim, ◌⊎◌, cond, eqb, Option, Some, None, arith, refl, ap}
use Rattle.std.proofs.Common.{Bool, true, false, T, not}
use Rattle.std.specs.List.{AllByRecursion}
use lib.Dec.{leb}
use Rattle.std.proofs.Math.Dec.{leb→le}
use Rattle.std.proofs.lemmas.Bool.{cases_eq, ne_eqb, eq-eqb}
use Rattle.std.proofs.lemmas.Bool.Decides.{nat_tests}
use Rattle.mseed_steim.specs.declared.scheme.Scheme.{Scheme}
use Rattle.mseed_steim.specs.declared.scheme.Scheme.TheVariants.{One, Two}
use Rattle.mseed_steim.specs.Groups.{Group, group_of}
use Rattle.mseed_steim.specs.Spelling.{Spells, empty, IsWithin, positional}
use Rattle.mseed_steim.proofs.Below.{all_below, every_below}
use Rattle.mseed_steim.proofs.Words.{positional_lt}
use Rattle.mseed_steim.proofs.Widths.{all_wider}
use Rattle.mseed_steim_pack.specs.declared.row.WordFormat.{WordFormat}
use Rattle.mseed_steim_pack.specs.Packing.{CanSpell}
use Rattle.mseed_steim_pack.specs.private.Rows.{row_with, row_in, rows_of, row_for}

-- what holds of each row of a table holds of the one of a count, which has that count
pub found_in : (P : WordFormat → Type 0) (rows : List WordFormat) → AllByRecursion P rows → (k : ℕ) (r : WordFormat)
    → row_in rows k ≡ Some r → P r × (r.count ≡ k)
found_in P [] all k r e = cc
found_in P (q ∷ rows) all k r e = ⊎_elim
    (λ (same : k ≡ q.count). let one : q ≡ r = cc (rw (eq-eqb k q.count same) at e) in
    (subst P one all.0, ap (λ (x : WordFormat). x.count) (sym one) ∙ sym same))
    (λ (other : k ≢ q.count). found_in P rows all.1 k r (rw (ne_eqb k q.count other) at e)) (cases_eq k q.count)

-- what the numbers of a row are
pub record IsRow (r : WordFormat) : Type 0 where
  pub code : r.code < 4
  pub dnib : r.dnib < 4
  pub some : 0 < r.count
  pub most : r.count ≤ 7
  pub wide : 0 < r.width
  pub narrow : r.width ≤ 32
  pub room : r.width * r.count ≤ 32
  pub apart : 0 < r.dnib → r.width * r.count ≤ 30

-- what stands in the table by count is a row of the table
pub row_is : (s : Scheme) (k : ℕ) (r : WordFormat) → row_for s k ≡ Some r → IsRow r × (r.count ≡ k)
row_is One k r e = found_in IsRow (rows_of One) (omega arith) k r e
row_is Two k r e = found_in IsRow (rows_of Two) (omega arith) k r e

-- a word of Steim-1 has four differences at the most, and not three
pub four_at_most : (k : ℕ) (r : WordFormat) → row_for One k ≡ Some r → (k ≤ 4) × (k ≢ 3)
four_at_most k r e =
    let found = found_in (λ r. (r.count ≤ 4) × (r.count ≢ 3)) (rows_of One) (omega arith) k r e in
    rw found.1 at found.0

-- Each group of the table has a row of its count and width, with its code, and with its dnib where one is marked.
record HasRow (s : Scheme) (c d : ℕ) (g : Group) : Type 0 where
  pub found : row_for s g.count ≡ Some (row_with c (cond g.marked d 0) g.count g.width)
  pub spare : (g.spare ≡ 1) ⊎ ((s ≡ Two) × (g.count ≡ 7) × (g.width ≡ 4) × (g.spare ≡ 4))

has_row : (s : Scheme) (c d : ℕ) (g : Group) → group_of s c d ≡ Some g → HasRow s c d g
has_row s c d g e = grind (arith, nat_tests)

-- The differences fit the row of their count.
pub record FitsRow (s : Scheme) (ds : List ℤ) : Type 0 where
  pub row : WordFormat
  pub found : row_for s (length ds) ≡ Some row
  pub range : All (IsWithin row.width) ds

-- what a word spells fits a row
pub spelled_fits : (s : Scheme) (ds : List ℤ) → 0 < length ds → CanSpell s ds → FitsRow s ds
spelled_fits s ds h (c, (w, empty e q)) = absurd (omega (arith, ap length q))
spelled_fits s ds h (c, (w, Spells.row g d e p)) =
    let found = (has_row s c d g e).found in
    record { row = row_with c (cond g.marked d 0) g.count g.width; found = rw p.count found; range = p.range }

-- a word that spells some differences, or none, has one of four codes
pub spelled_code : (s : Scheme) (code word : ℕ) (ds : List ℤ) → Spells s code word ds → code < 4
spelled_code s code word ds spells = search (arith, has_row, row_is)

-- a word with 0 in the bits that may be anything is that of its row
top_of : (b : Bool) (d : ℕ) → cond b (d * 2 ^ 30) 0 ≡ cond b d 0 * 2 ^ 30
top_of b d = search (arith)

pub plain_word : (s : Scheme) (c word : ℕ) (ds : List ℤ) → 0 < length ds → Spells s c word ds
    → (s ≡ Two → length ds ≡ 7 → word / 2 ^ 28 % 4 ≡ 0)
    → (r : WordFormat) × ((row_for s (length ds) ≡ Some r) × (c ≡ r.code)
    × (word ≡ r.dnib * 2 ^ 30 + positional r.width ds))
plain_word s c word ds h (empty e q) plain = absurd (omega (arith, ap length q))
plain_word s c word ds h (Spells.row g d e p) plain =
    let found = has_row s c d g e in
    let head = top_of g.marked d in
    let below = positional_lt g.width ds in (
      row_with c (cond g.marked d 0) g.count g.width,
      (
        rw p.count found.found,
        refl,
        ⊎_elim (λ (one : g.spare ≡ 1). omega (arith, one, p.sum.1, p.sum.2, head))
            (λ (seven : (s ≡ Two) × (g.count ≡ 7) × (g.width ≡ 4) × (g.spare ≡ 4)).
            let bits : g.width * length ds ≡ 28 = rw (seven.2, p.count, seven.1) refl in
            let none : word / 2 ^ 28 % 4 ≡ 0 = plain seven.0 (p.count ∙ seven.1) in
            omega (arith, p.sum.1, p.sum.2, seven.3, head, none, rw bits at below)) found.spare,
      ),
    )

-- a word of a row spells differences that fit it
abbrev group_by : WordFormat → Group
group_by r = record {
  marked = not (eqb (r.width * r.count) 32);
  spare = cond (eqb r.count 7) 4 1;
  count = r.count;
  width = r.width;
}

has_group : (s : Scheme) (k : ℕ) (r : WordFormat) → row_for s k ≡ Some r
    → (group_of s r.code r.dnib ≡ Some (group_by r))
    × (cond (group_by r).marked (r.dnib * 2 ^ 30) 0 ≡ r.dnib * 2 ^ 30) × (0 < (group_by r).spare)
has_group s k r e = search (arith)

pub row_spells : (s : Scheme) (k : ℕ) (r : WordFormat) (ds : List ℤ) → row_for s k ≡ Some r → length ds ≡ k
    → All (IsWithin r.width) ds → Spells s r.code (r.dnib * 2 ^ 30 + positional r.width ds) ds
row_spells s k r ds found long range =
    let is = has_group s k r found in
    Spells.row (group_by r) r.dnib is.0 (record {
      count = long ∙ sym (row_is s k r found).1;
      range = range;
      sum = (0, is.2, rw is.1 (omega arith));
    })

pub fits_spelled : (s : Scheme) (ds : List ℤ) → FitsRow s ds → CanSpell s ds
fits_spelled s ds f = (_, (_, row_spells s (length ds) f.row ds f.found refl f.range))

-- a row of no more bits for a difference
abbrev wider : Option WordFormat → Option WordFormat → Bool
wider (Some w) (Some r) = leb r.width w.width
wider None (Some r) = false
wider o None = true

found_wider : (o : Option WordFormat) (r : WordFormat) → T (wider o (Some r))
    → (w : WordFormat) × ((o ≡ Some w) × (r.width ≤ w.width))
found_wider o r h = search (arith, leb→le)

-- In Steim-2 the rows of fewer differences are wider.
pub narrower_by : (k j : ℕ) (r : WordFormat) → 0 < j → j ≤ k → row_for Two k ≡ Some r
    → (w : WordFormat) × ((row_for Two j ≡ Some w) × (r.width ≤ w.width))
narrower_by k j r some less e = search (arith, all_below, every_below, found_wider, row_is)

-- a row of two differences or more has no more bits for each than that of two
pub pair_wider : (s : Scheme) (k : ℕ) (r : WordFormat) → 1 < k → row_for s k ≡ Some r
    → (w : WordFormat) × ((row_for s 2 ≡ Some w) × (r.width ≤ w.width))
pair_wider One k r some e =
    let found = found_in (λ r. 2 ≤ r.count → r.width ≤ 16) (rows_of One) (omega arith) k r e in
    (row_with 2 0 2 16, (refl, found.0 (omega (arith, found.1, some))))
pair_wider Two k r some e = narrower_by k 2 r (omega arith) (omega (arith, some)) e

-- Where a Steim-2 word spells some differences, some word spells fewer of no more bits.
pub fewer_spelled : (ds part : List ℤ) → 0 < length part → length part ≤ length ds
    → ((w : ℕ) → All (IsWithin w) ds → All (IsWithin w) part) → CanSpell Two ds → CanSpell Two part
fewer_spelled ds part some less range can =
    let whole = spelled_fits Two ds (omega (arith, some, less)) can in
    let wider = narrower_by (length ds) (length part) whole.row some less whole.found in
    fits_spelled Two part (record {
      row = wider.0;
      found = wider.1.0;
      range = all_wider whole.row.width wider.0.width part wider.1.1 (range whole.row.width whole.range);
    })
