-- How many differences of a size a word holds, and so how many of the next differences.
use Rattle.std.proofs.Common.{◌≡◌, ◌↔◌, ℕ, ◌+◌, ◌-◌, ◌/◌, ◌^◌, ◌<◌, ◌≤◌, List, length, take}
use Rattle.std.proofs.lemmas.Bool.Decides.{nat_tests}
use Rattle.std.proofs.Common.{drop, get_or, ℤ, pos, arith, refl, sym, ◌∙◌, All, Some}
use Rattle.std.proofs.Common.{⊎_elim, ◌≢◌, Option, None, T, is_some}
use Rattle.std.specs.List.{AllByRecursion}
use Rattle.std.proofs.lemmas.Bool.{cases_lt}
use Rattle.std.proofs.lemmas.List.{get_or-take, get_or-drop, length-take-le, length-drop, ext_get_or}
use Rattle.mseed_steim.specs.declared.scheme.Scheme.{Scheme}
use Rattle.mseed_steim.specs.declared.scheme.Scheme.TheVariants.{One, Two}
use Rattle.mseed_steim.specs.Spelling.{IsWithin}
use Rattle.mseed_steim.proofs.Below.{eight, every_below}
use Rattle.mseed_steim_pack.proofs.Bits.{prefix_within, within_by}
use Rattle.mseed_steim_pack.specs.private.Ahead.{size_of}
use Rattle.mseed_steim_pack.specs.declared.row.WordFormat.{WordFormat}
use Rattle.mseed_steim_pack.specs.Packing.{IsFullest}
use Rattle.mseed_steim_pack.specs.private.Rows.{row_for, rows_of, IsBestRow}
use Rattle.mseed_steim_pack.specs.private.Ahead.{near, near_size, most_one, most_two, most_with, IsMost}
use Rattle.mseed_steim_pack.specs.Lookahead.{IsAhead, AreCut, taken}
use Rattle.mseed_steim_pack.proofs.Rows.{four_at_most, found_in, row_is, fits_spelled}
use Rattle.mseed_steim_pack.proofs.Sizes.{one_3, two_6}
use Rattle.mseed_steim_pack.proofs.Fullest.{best_by, none_after_seven, prefix_fits}
use Rattle.mseed_steim.proofs.Widths.{within_wider}

cut_off : (n : ℕ) → near n < 32768
cut_off n = search (arith)

pub near_small : (s : Scheme) (z : ℤ) → near_size s z < 32768
near_small s z = search (arith, cut_off)

-- A size is below the limit of a row of two differences or more where the word that holds it has room for as many.
abbrev IsBelow : Scheme → ℤ → WordFormat → Type 0
IsBelow s z r = 2 ≤ r.count → (size_of z < 2 ^ (r.width - 1)) ↔ (r.count ≤ most_with s (near_size s z))

limits_one : (n : ℕ) → AllByRecursion
    (λ r. 2 ≤ r.count → (n < 2 ^ (r.width - 1)) ↔ (r.count ≤ most_one (near (n / 2)))) (rows_of One)
limits_one n = grind (arith, nat_tests)

limits_two : (n : ℕ) → AllByRecursion
    (λ r. 2 ≤ r.count → (n < 2 ^ (r.width - 1)) ↔ (r.count ≤ most_two (near n))) (rows_of Two)
limits_two n = grind (arith, nat_tests)

limits : (s : Scheme) (z : ℤ) → AllByRecursion (IsBelow s z) (rows_of s)
limits One z = limits_one (size_of z)
limits Two z = limits_two (size_of z)

-- so a difference fits such a row
fits_row : (s : Scheme) (z : ℤ) (k : ℕ) (r : WordFormat) → 2 ≤ k → row_for s k ≡ Some r
    → IsWithin r.width z ↔ (k ≤ most_with s (near_size s z))
fits_row s z k r some e =
    let found = found_in (IsBelow s z) (rows_of s) (limits s z) k r e in
    let below = rw found.1 at (found.0 (omega (arith, found.1, some))) in
    let by = within_by z (size_of z) refl r.width in
    (λ within. below.0 (by.1 within), λ held. by.0 (below.1 held))

-- some are taken where two or more are held, and no more than these
pub taken_some : (s : Scheme) (most : ℕ) → 2 ≤ most → most ≤ 7 → (2 ≤ taken s most) × (taken s most ≤ most)
taken_some s most some few = search (arith, eight)

-- of those that are held a word takes as many as a row of the table has, and no row has more of them
some_row : (o : Option WordFormat) → T (is_some o) → (r : WordFormat) × (o ≡ Some r)
some_row None h = absurd h
some_row (Some r) h = (r, refl)

row_taken : (s : Scheme) (most : ℕ) → 2 ≤ most → most ≤ most_with s 0
    → (r : WordFormat) × (row_for s (taken s most) ≡ Some r)
row_taken s most some few =
    let at : most - 2 + 2 ≡ most = omega (arith, some) in
    rw at at (some_row (row_for s (taken s (most - 2 + 2))) (each s (most - 2) (omega (arith, some, few))))
  where
    each : (s : Scheme) (m : ℕ) → m + 2 ≤ most_with s 0 → T (is_some (row_for s (taken s (m + 2))))
    each One m less = every_below (λ m. is_some (row_for One (taken One (m + 2)))) 3 tt m (omega (arith, less))
    each Two m less = every_below (λ m. is_some (row_for Two (taken Two (m + 2)))) 6 tt m (omega (arith, less))

most_taken : (s : Scheme) (most k : ℕ) (r : WordFormat) → k ≤ most → row_for s k ≡ Some r → k ≤ taken s most
most_taken One most k r less e = not_three most k less (four_at_most k r e).1
  where
    not_three : (most k : ℕ) → k ≤ most → k ≢ 3 → k ≤ taken One most
    not_three most k less other = grind (arith, nat_tests)
most_taken Two most k r less e = less

-- so many of the first are in a row where they are held
row_held : (s : Scheme) (xs : List ℤ) (held : ℕ → ℕ) (most k : ℕ) (r : WordFormat) → 2 ≤ k → k ≤ length xs
    → row_for s k ≡ Some r → ((j : ℕ) → j < 7 → held j ≡ most_with s (near_size s (get_or xs j (pos 0))))
    → ((k : ℕ) → (k ≤ most) ↔ ((j : ℕ) → j < k → j < 7 → k ≤ held j)) → All (IsWithin r.width) (take k xs) ↔ (k ≤ most)
row_held s xs held most k r some inside e at is =
    let row = row_is s k r e in
    let few : k ≤ 7 = omega (arith, row.0.most, row.1) in
    let each = prefix_within r.width k xs inside in
    let fits = λ (j : ℕ). fits_row s (get_or xs j (pos 0)) k r some e in (
      λ all. (is k).1 (λ j less early. rw (at j early) ((fits j).0 (each.0 all j less))),
      λ all. each.1 (λ j less. let early : j < 7 = omega (arith, less, few) in
          (fits j).1 (rw (at j early) at ((is k).0 all j less early))),
    )

held_few : (s : Scheme) (x most : ℕ) → most ≤ most_with s x → (most ≤ most_with s 0) × (most ≤ 7)
held_few One x most h = omega (arith, h, one_3 x)
held_few Two x most h = omega (arith, h, two_6 x)

-- What is held tells the best row.
pub is_ahead : (s : Scheme) (ds : List ℤ) (held : List ℕ) (i most : ℕ) → 128 ≤ length ds → i < 121
    → ((x : ℕ) → x < 128 → get_or held x 0 ≡ most_with s (near_size s (get_or ds x (pos 0)))) → IsMost held i most
    → IsAhead s (drop i ds) most
is_ahead s ds held i most long early says is some =
    let xs = drop i ds in
    let room : 8 ≤ length xs = omega (arith, long, early, length-drop i ds) in
    let at : (j : ℕ) → j < 7 → get_or held (i + j) 0 ≡ most_with s (near_size s (get_or xs j (pos 0))) =
    search (arith, nat_tests, get_or-drop) in
    let first = (is most).0 (omega arith) 0 (omega (arith, some)) (omega arith) in
    let few = held_few s _ most (rw (at 0 (omega arith)) at first) in
    let least = taken_some s most some few.1 in
    let row = row_taken s most some few.0 in
    let inside : taken s most ≤ length xs = omega (arith, least.1, few.1, room) in
    let by = λ (j : ℕ). get_or held (i + j) 0 in
    let range = (row_held s xs by most (taken s most) row.0 least.0 inside row.1 at is).1 least.1 in (
      few.1,
      room,
      fits_spelled s (take (taken s most) xs) (record {
        row = row.0;
        found = rw (length-take-le (taken s most) xs inside) row.1;
        range = range;
      }),
      λ k over low can.
          let fits = prefix_fits s xs k (omega (arith, over)) low can in
          let row_k = row_held s xs by most k fits.0 (omega (arith, over, least.0)) low fits.1.0 at is in
          omega (arith, over, most_taken s most k fits.0 (row_k.0 fits.1.1) fits.1.0),
    )

-- the row of the word that is known ahead
pub row_ahead : (s : Scheme) (ds : List ℤ) (most : ℕ) → 2 ≤ most → IsAhead s ds most
    → (row : WordFormat) × ((row_for s (taken s most) ≡ Some row) × IsBestRow s ds (length ds) (Some row))
row_ahead s ds most some ahead =
    let known = ahead some in
    let least = taken_some s most some known.0 in
    let inside : taken s most ≤ length ds = omega (arith, least.1, known.0, known.1) in
    let fits = prefix_fits s ds (taken s most) (omega (arith, least.0)) inside known.2 in
    (fits.0, (fits.1.0, best_by s ds (taken s most) (length ds) fits.0 fits.1.0 inside fits.1.1 known.3))

-- a row that is the one of which is known ahead
pub best_ahead : (s : Scheme) (ds : List ℤ) (most : ℕ) (row : WordFormat) → 2 ≤ most → IsAhead s ds most
    → ((r : WordFormat) → row_for s (taken s most) ≡ Some r → row ≡ r)
    → IsBestRow s ds (length ds) (Some row) × (row.count ≡ taken s most)
best_ahead s ds most row some ahead same =
    let known = row_ahead s ds most some ahead in
    rw (same known.0 known.1.0) (known.1.1, (row_is s (taken s most) known.0 known.1.0).1)

-- as many as the word takes are whole where they are cut off
pub same_prefix : (w c : ℕ) (ds cut : List ℤ) → w ≤ 15 → c ≤ 7 → c ≤ length ds → All (IsWithin w) (take c ds)
    → AreCut ds cut → take c cut ≡ take c ds
same_prefix w c ds cut short few inside range same =
    let long : length (take c ds) ≡ c = length-take-le c ds inside in
    let other : length (take c cut) ≡ c = length-take-le c cut (omega (arith, few, same.0)) in
    ext_get_or (pos 0) (take c cut) (take c ds) (other ∙ sym long) (λ i h.
    let less : i < c = omega (arith, h, other) in
    let here : get_or (take c ds) i (pos 0) ≡ get_or ds i (pos 0) = get_or-take c ds i (pos 0) less in
    let within = (prefix_within w c ds inside).0 range i less in
    get_or-take c cut i (pos 0) less
    ∙ same.1 i (omega (arith, less, few)) (within_wider w 16 (get_or ds i (pos 0)) (omega (arith, short)) within)
    ∙ sym here)

-- no word takes more than seven
pub fullest_few : (s : Scheme) (ds : List ℤ) (code word used : ℕ) → IsFullest s ds code word used → used ≤ 7
fullest_few s ds code word used full = ⊎_elim (λ (few : used < 8). omega (arith, few))
    (λ (over : 8 ≤ used). absurd (none_after_seven s ds used over full.inside (code, (word, full.spelled))))
    (cases_lt used 8)
