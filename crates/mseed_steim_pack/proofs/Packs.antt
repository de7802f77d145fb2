-- Words that take the largest number of the differences that are left.
use Rattle.std.proofs.Common.{◌≡◌, ℕ, ◌+◌, ◌-◌, ◌*◌, ◌/◌, ◌%◌, ◌^◌, ◌<◌, ◌≤◌, List, [], ◌∷◌, ◌++◌, length, take, drop}
use Rattle.std.proofs.Common.{get_or, ℤ, pos, arith, refl, ap, sym, ◌∙◌, subst, All, ⊎_elim, Some, length-append}
use Rattle.std.proofs.Common.{Result, Err, ◌↔◌}
use Rattle.std.proofs.lemmas.Bool.{cases_lt}
use Rattle.std.proofs.lemmas.List.{length_push, drop-drop, length-take-le, length-drop}
use Rattle.std.proofs.lemmas.List.{get_or-drop, append_cancel_right, drop-append-le, take-append-le, take-append-drop}
use Rattle.std.proofs.lemmas.List.{append_assoc}
use Rattle.mseed_steim.specs.declared.scheme.Scheme.{Scheme}
use Rattle.mseed_steim.specs.declared.scheme.Scheme.TheVariants.{One, Two}
use Rattle.mseed_steim.specs.Spelling.{IsWithin, positional}
use Rattle.mseed_steim.specs.Frames.{DataWord}
use Rattle.mseed_steim.specs.Runs.{SpellsRun}
use Rattle.mseed_steim.proofs.Words.{positional_lt}
use Rattle.mseed_steim.proofs.Widths.{within_wider}
use Rattle.mseed_steim_pack.specs.declared.row.WordFormat.{WordFormat}
use Rattle.mseed_steim_pack.specs.declared.pack.TooLargeAt.{TooLargeAt}
use Rattle.mseed_steim_pack.specs.Packing.{CanSpell, IsFullest, PacksRun, IsTooLargeAt, IsFirstTooLarge, LeavesRoom}
use Rattle.mseed_steim_pack.specs.private.Rows.{row_with, row_for, NoneSpelled, IsBestRow}
use Rattle.mseed_steim_pack.proofs.Bits.{prefix_within}
use Rattle.mseed_steim_pack.proofs.Rows.{FitsRow, row_is, row_spells, fits_spelled, spelled_fits, narrower_by}

-- the word of the best row
seven_plain : (r : WordFormat) (ds : List ℤ) → row_for Two 7 ≡ Some r → length ds ≡ 7
    → (r.dnib * 2 ^ 30 + positional r.width ds) / 2 ^ 28 % 4 ≡ 0
seven_plain r ds e long = search (arith, positional_lt)

pub is_fullest : (s : Scheme) (ds : List ℤ) (r : WordFormat) (word : ℕ) → IsBestRow s ds (length ds) (Some r)
    → word ≡ r.dnib * 2 ^ 30 + positional r.width (take r.count ds) → IsFullest s ds r.code word r.count
is_fullest s ds r word best e =
    let long : length (take r.count ds) ≡ r.count = length-take-le r.count ds best.1 in record {
      some = (row_is s r.count r best.0).0.some;
      inside = best.1;
      spelled = rw e (row_spells s r.count r (take r.count ds) best.0 long best.2);
      plain = λ two seven. rw e (seven_plain r (take r.count ds)
          (subst (λ (n : ℕ). row_for Two n ≡ Some r) seven (rw two at best.0)) (long ∙ seven));
      largest = best.3;
    }

-- a word of Steim-2 has 30 bits at the most for a difference
fits_thirty : (ds : List ℤ) → FitsRow Two ds → 0 < length ds → All (IsWithin 30) ds
fits_thirty ds f h = search (arith, narrower_by, within_wider)

pub fullest_not_large : (s : Scheme) (ds : List ℤ) (code word used k : ℕ) → IsFullest s ds code word used → k < used
    → ¬ (IsTooLargeAt s ds k)
fullest_not_large s ds code word used k full h large =
    let long : length (take used ds) ≡ used = length-take-le used ds full.inside in
    let fits = spelled_fits s (take used ds) (omega (arith, long, full.some)) (code, (word, full.spelled)) in
    let range = fits_thirty (take used ds) (rw large.1 at fits) (omega (arith, long, full.some)) in
    large.2 ((prefix_within 30 used ds full.inside).0 range k h)

-- where no word spells the first difference, it's too large for Steim-2
one_row : (s : Scheme) (ds : List ℤ) (r : WordFormat) → row_for s 1 ≡ Some r → 0 < length ds
    → IsWithin r.width (get_or ds 0 (pos 0)) → CanSpell s (take 1 ds)
one_row s ds r e h fit = fits_spelled s (take 1 ds) (record {
  row = r;
  found = rw (length-take-le 1 ds h) e;
  range = (prefix_within r.width 1 ds h).1 (λ j less. let none : j ≡ 0 = omega (arith, less) in rw none fit);
})

pub none_large : (s : Scheme) (ds : List ℤ) → 0 < length ds → IsWithin 32 (get_or ds 0 (pos 0))
    → NoneSpelled s ds 0 (length ds) → IsTooLargeAt s ds 0
none_large One ds h fits none =
    absurd (none 1 (omega arith) (omega (arith, h)) (one_row One ds (row_with 3 0 1 32) refl h fits))
none_large Two ds h fits none =
    (h, refl, λ fit. none 1 (omega arith) (omega (arith, h)) (one_row Two ds (row_with 2 1 1 30) refl h fit))

-- as many differences at the most as before, and one at least for each word
pub rest_shorter : (s : Scheme) (ws : List DataWord) (ds rest : List ℤ) → PacksRun s ws ds rest
    → length rest + length ws ≤ length ds
rest_shorter s [] ds rest run = let same = ap (λ (xs : List ℤ). length xs) run in omega (arith, same)
rest_shorter s (w ∷ ws) ds rest run =
    let later = rest_shorter s ws (drop run.0 ds) rest run.1.1 in
    let some = run.1.0.some in
    let inside = run.1.0.inside in
    omega (arith, later, some, inside, length-drop run.0 ds)

-- one more word
pub run_more : (s : Scheme) (ws : List DataWord) (w : DataWord) (ds mid : List ℤ) (used : ℕ) → PacksRun s ws ds mid
    → IsFullest s mid w.code w.bits used → PacksRun s (ws ++ w ∷ []) ds (drop used mid)
run_more s [] w ds mid used run full = (used, (rw run full, ap (λ (xs : List ℤ). drop used xs) run))
run_more s (v ∷ ws) w ds mid used run full = (run.0, (run.1.0, run_more s ws w (drop run.0 ds) mid used run.1.1 full))

-- what is packed is spelled
pub run_spelled : (s : Scheme) (ws : List DataWord) (ds rest : List ℤ) → PacksRun s ws ds rest
    → (prefix : List ℤ) × ((ds ≡ prefix ++ rest) × SpellsRun s ws prefix)
run_spelled s [] ds rest run = ([], (run, refl))
run_spelled s (w ∷ ws) ds rest run =
    let later = run_spelled s ws (drop run.0 ds) rest run.1.1 in
    let whole : ds ≡ (take run.0 ds ++ later.0) ++ rest = sym (take-append-drop run.0 ds)
    ∙ ap (λ (xs : List ℤ). take run.0 ds ++ xs) later.1.0 ∙ sym (append_assoc (take run.0 ds) later.0 rest) in
    (take run.0 ds ++ later.0, (whole, (take run.0 ds, (later.0, (refl, (run.1.0.spelled, later.1.1))))))

pub prefix_spelled : (s : Scheme) (ws : List DataWord) (ds : List ℤ) (used : ℕ) → PacksRun s ws ds (drop used ds)
    → SpellsRun s ws (take used ds)
prefix_spelled s ws ds used run =
    let found = run_spelled s ws ds (drop used ds) run in
    rw (append_cancel_right found.0 (take used ds) (drop used ds) (sym found.1.0 ∙ sym (take-append-drop used ds))) at
    found.1.1

-- it's a packing of those differences alone, too
prefix_fullest : (s : Scheme) (prefix rest : List ℤ) (code word used : ℕ) → IsFullest s (prefix ++ rest) code word used
    → used ≤ length prefix → IsFullest s prefix code word used
prefix_fullest s prefix rest code word used full h = record {
  some = full.some;
  inside = h;
  spelled = rw (take-append-le used prefix rest h) at full.spelled;
  plain = full.plain;
  largest = λ k more less can. full.largest k more (omega (arith, less, length-append prefix rest))
      (rw (take-append-le k prefix rest less) can);
}

pub run_prefix : (s : Scheme) (ws : List DataWord) (prefix rest : List ℤ) → PacksRun s ws (prefix ++ rest) rest
    → PacksRun s ws prefix []
run_prefix s [] prefix rest run = append_cancel_right prefix [] rest run
run_prefix s (w ∷ ws) prefix rest run =
    let later = rest_shorter s ws (drop run.0 (prefix ++ rest)) rest run.1.1 in
    let inside = run.1.0.inside in
    let less : run.0 ≤ length prefix =
    omega (arith, later, inside, length-drop run.0 (prefix ++ rest), length-append prefix rest) in
    let first = prefix_fullest s prefix rest w.code w.bits run.0 run.1.0 less in
    (run.0, (first, run_prefix s ws (drop run.0 prefix) rest (rw (drop-append-le run.0 prefix rest less) at run.1.1)))

-- none of the differences that words accepted is too large
large_later : (s : Scheme) (ds : List ℤ) (used k : ℕ) → used ≤ k → IsTooLargeAt s ds k
    → IsTooLargeAt s (drop used ds) (k - used)
large_later s ds used k h large = search (arith, get_or-drop, length-drop)

pub taken_not_large : (s : Scheme) (ws : List DataWord) (ds rest : List ℤ) (k : ℕ) → PacksRun s ws ds rest
    → k + length rest < length ds → ¬ (IsTooLargeAt s ds k)
taken_not_large s [] ds rest k run h large = let same = ap (λ (xs : List ℤ). length xs) run in omega (arith, same, h)
taken_not_large s (w ∷ ws) ds rest k run h large = ⊎_elim
    (λ (less : k < run.0). fullest_not_large s ds w.code w.bits run.0 k run.1.0 less large)
    (λ (more : run.0 ≤ k).
    let inside = run.1.0.inside in
    taken_not_large s ws (drop run.0 ds) rest (k - run.0) run.1.1
    (omega (arith, h, more, inside, length-drop run.0 ds)) (large_later s ds run.0 k more large))
    (cases_lt k run.0)

pub first_large : (s : Scheme) (ws : List DataWord) (ds : List ℤ) (used : ℕ) → used ≤ length ds
    → PacksRun s ws ds (drop used ds) → IsTooLargeAt s (drop used ds) 0 → IsFirstTooLarge s ds used
first_large s ws ds used h run large = search (arith, get_or-drop, length-drop, taken_not_large)

pub one_first_large : (s : Scheme) (ds : List ℤ) (i j : ℕ) → IsFirstTooLarge s ds i → IsFirstTooLarge s ds j → i ≡ j
one_first_large s ds i j a b = search (arith)

-- one more word of Steim-2, by the best row
pub least_more : (ds : List ℤ) (used words : ℕ) (r : WordFormat)
    → (ws : List DataWord) × ((length ws ≡ words) × PacksRun Two ws ds (drop used ds))
    → IsBestRow Two (drop used ds) (length (drop used ds)) (Some r)
    → (ws : List DataWord) × ((length ws ≡ words + 1) × PacksRun Two ws ds (drop (used + r.count) ds))
least_more ds used words r run best =
    let w : DataWord = record {
      frame = 0;
      place = 0;
      code = r.code;
      bits = r.dnib * 2 ^ 30 + positional r.width (take r.count (drop used ds));
    } in
    let more = run_more Two run.0 w ds (drop used ds) r.count run.1.1
    (is_fullest Two (drop used ds) r w.bits best refl) in
    (run.0 ++ w ∷ [], (omega (arith, length_push run.0 w, run.1.0), rw drop-drop at more))

-- a fault names one place
pub same_index : (T : Type 0) (a b : ℕ)
    → ◌≡◌ {A = Result T TooLargeAt} (Err (record { index = a })) (Err (record { index = b })) → a ≡ b
same_index T a b e = search (arith)

pub refused_least : (T : Type 0) (ds : List ℤ) (used : ℕ) → IsFirstTooLarge Two ds used → (i : ℕ)
    → (◌≡◌ {A = Result T TooLargeAt} (Err (record { index = used })) (Err (record { index = i })))
    ↔ IsFirstTooLarge Two ds i
refused_least T ds used large i = search (arith, one_first_large, same_index)

pub refused_packed : (T : Type 0) (s : Scheme) (ds : List ℤ) (used room : ℕ)
    → IsFirstTooLarge s ds used × LeavesRoom s (take used ds) room
    → (i : ℕ) → (◌≡◌ {A = Result T TooLargeAt} (Err (record { index = used })) (Err (record { index = i })))
    ↔ (IsFirstTooLarge s ds i × LeavesRoom s (take i ds) room)
refused_packed T s ds used room large i = search (arith, one_first_large, same_index)
