-- Frames at once: what their words have, but for the first sample's difference.
use Rattle.std.proofs.Common.{◌≡◌, ℕ, ◌+◌, ◌-◌, ◌*◌, ◌<◌, ◌≤◌, List, [], ◌∷◌, ◌++◌, map, length, ℤ, ◌-ℤ◌, pos}
use Rattle.std.proofs.lemmas.Bool.Decides.{nat_tests}
use Rattle.std.proofs.Common.{take, drop, eqb, refl, sym, ap, ◌∙◌, subst, arith, Ok, Option, Some, None}
use Rattle.std.proofs.Common.{IfSome, ⊎_elim}
use Rattle.std.proofs.Common.{◌+ℤ◌, ◌/◌, ◌^◌, nat_abs, w32, FitsSigned}
use Rattle.std.specs.Bool.{OnTrue}
use Rattle.std.specs.Prelude.{min}
use Rattle.std.specs.Simd.{first_chunks}
use Rattle.std.proofs.lemmas.Bool.{cases_eq, eq-eqb, ne_eqb}
use Rattle.std.proofs.lemmas.List.{get_or-drop, get_or-take}
use Rattle.mseed_steim.specs.declared.scheme.Scheme.{Scheme}
use Rattle.mseed_steim.specs.Frames.{DataWord, words_from}
use Rattle.mseed_steim.specs.private.Digits.{differences_of, digit_at, digits}
use Rattle.mseed_steim.specs.private.Items.{Items, items_of}
use Rattle.mseed_steim.specs.private.Moves.{AreFrames, IsRun, Moves, MovesBy}
use Rattle.mseed_steim.specs.declared.frame.Run.{Run}
use Rattle.mseed_steim.specs.declared.frame.TheConstants.{REACH}
use Rattle.mseed_steim.specs.declared.sum.Sum.{Sum}
use Rattle.mseed_steim.specs.private.Lanes.{Begins}
use Rattle.mseed_steim.specs.private.Sums.{AddsRun, fold, with_first}
use Rattle.mseed_steim.specs.private.Unpacked.{data_in, left_from}
use Rattle.mseed_steim.proofs.Far.{goes_far, near_signed, total_near}
use Rattle.mseed_steim.proofs.Folded.{length-with_first, with_first_later}
use Rattle.mseed_steim.proofs.Spelled.{digits_over, digits_step}
use Rattle.mseed_steim.proofs.Walking.{frame_at, frames_cut, items_group, length-first_chunks, no_items, take_most}
use Rattle.mseed_steim.proofs.Walking.{words_cut}

begins_with : (ds : List ℤ) (d : ℤ) (more : Items) → map Ok ds ++ [] ≡ Ok d ∷ more
    → (es : List ℤ) × (ds ≡ d ∷ es)
begins_with [] d more e = let long = ap length e in absurd (omega (arith, long))
begins_with (x ∷ xs) d more e = let same : x ≡ d = cc in (xs, ap (λ z. z ∷ xs) same)

-- what the words from word 3 on have, the first of which is this
found : (s : Scheme) (p : List ℕ) (n count reach : ℕ) (by d : ℤ) (w : DataWord)
    → words_from p 3 13 ≡ w ∷ words_from p 4 12
    → ((ws : List DataWord) → (more : Items) × (items_of s (w ∷ ws) ≡ Ok d ∷ more))
    → 0 < n → MovesBy s (words_from p 3 (16 * n - 3)) count by reach
    → (es : List ℤ) × (Moves count by reach (d ∷ es) × ((rest : List DataWord)
    → items_of s (words_from p 3 (16 * n - 3) ++ rest) ≡ Ok d ∷ (map Ok es ++ items_of s rest)))
found s p n count reach by d w cut first some moves =
    let all : 13 + (16 * n - 16) ≡ 16 * n - 3 = omega (arith, some) in
    let behind : List DataWord = words_from p 4 12 ++ words_from p 16 (16 * n - 16) in
    let words : words_from p 3 (16 * n - 3) ≡ w ∷ behind = search (arith, nat_tests, words_cut) in
    let one = first (behind ++ []) in
    let none = no_items s [] refl in
    let begins : map Ok moves.0 ++ [] ≡ Ok d ∷ one.0 = search (arith, nat_tests) in
    let es = begins_with moves.0 d one.0 begins in (
      es.0,
      (
        subst (Moves count by reach) es.1 moves.1.0,
        λ rest. moves.1.1 rest ∙ ap (λ (ds : List ℤ). map Ok ds ++ items_of s rest) es.1,
      ),
    )

-- the first of these differences counts for nothing
others : (c reach : ℕ) (b d : ℤ) (es : List ℤ) → Moves c b reach (d ∷ es) → Moves c (b -ℤ d) reach (pos 0 ∷ es)
others c reach b d es m = search arith

found_one : (s : Scheme) (p : List ℕ) (i : ℕ) (sum : Sum) (d : ℤ) (w : DataWord) → i ≡ 0 → sum.met ≡ 0
    → words_from p 3 13 ≡ w ∷ words_from p 4 12
    → ((ws : List DataWord) → (more : Items) × (items_of s (w ∷ ws) ≡ Ok d ∷ more)) → AddsRun s p i sum d
found_one s p i sum d w e none cut first k count reach by more inside moves =
    let from : data_in sum.met i ≡ 3 = ap (λ (m : ℕ). data_in m i) none ∙ ap (data_in 0) e in
    let place : 16 * i + 3 ≡ 3 = omega (arith, e) in
    let words : words_from p (16 * i + data_in sum.met i) (16 * k - data_in sum.met i) ≡ words_from p 3 (16 * k - 3) =
    rw (from, place) refl in
    let all = found s p k count reach by d w cut first more
    (subst (λ (ws : List DataWord). MovesBy s ws count by reach) words moves) in
    let begins : with_first sum.met (pos 0) (d ∷ all.0) ≡ pos 0 ∷ all.0 = rw (eq-eqb sum.met 0 none) refl in (
      d ∷ all.0,
      (
        subst (Moves count (by -ℤ d) reach) (sym begins) (others count reach by d all.0 all.1.0),
        λ later. ap (items_of s) (frames_cut p sum.met later i k more inside)
            ∙ ap (λ (ws : List DataWord). items_of s (ws ++ left_from p later (i + k))) words
            ∙ all.1.1 (left_from p later (i + k)),
      ),
    )

pub found_run : (s : Scheme) (p : List ℕ) (i : ℕ) (sum : Sum) (w : DataWord) (o : Option ℤ) → i ≡ 0 → sum.met ≡ 0
    → words_from p 3 13 ≡ w ∷ words_from p 4 12
    → IfSome o (λ d. (ws : List DataWord) → (more : Items) × (items_of s (w ∷ ws) ≡ Ok d ∷ more))
    → IfSome o (λ unused. AddsRun s p i sum unused)
found_run s p i sum w None e none cut first = tt
found_run s p i sum w (Some d) e none cut first = found_one s p i sum d w e none cut first

-- after the first sample each difference counts
pub moved_run : (s : Scheme) (p : List ℕ) (i : ℕ) (sum : Sum) → 0 < sum.met → AddsRun s p i sum (pos 0)
moved_run s p i sum some k count reach by more inside moves = search (arith, frames_cut, with_first_later)

-- what a run adds up, while the limits of 32 bits are out of its reach
pub record RunAdds (s : Scheme) (p : List ℕ) (n i k count : ℕ) (by : ℤ) (sum : Sum) : Type 0 where
  pub fits : FitsSigned w32 by
  pub near : nat_abs sum.last + nat_abs by < 2 ^ 31
  pub folded : (later : ℕ) → fold n sum (items_of s (left_from p sum.met i))
      ≡ fold n (record { met = sum.met + count; last = sum.last +ℤ by }) (items_of s (left_from p later (i + k)))

pub run_adds : (s : Scheme) (p : List ℕ) (n i k count reach : ℕ) (by unused : ℤ) (sum : Sum)
    → AddsRun s p i sum unused → 0 < k → i + k ≤ length p / 64
    → MovesBy s (words_from p (16 * i + data_in sum.met i) (16 * k - data_in sum.met i)) count by reach
    → sum.met + count ≤ n → nat_abs sum.last + reach < 2 ^ 31 → RunAdds s p n i k count (by -ℤ unused) sum
run_adds s p n i k count reach by unused sum adds some inside moves room near =
    let found = adds k count reach by some inside moves in
    let m = found.1.0 in
    let all = total_near (with_first sum.met (pos 0) found.0) in
    let long = length-with_first sum.met (pos 0) found.0 in
    let less : nat_abs (by -ℤ unused) ≤ reach = rw (← m.by_is) (omega (arith, all, m.near)) in
    record {
      fits = near_signed (by -ℤ unused) (omega (arith, less, near));
      near = omega (arith, less, near);
      folded = search (arith, nat_tests, found, goes_far);
    }

-- frames from one on are frames of the payload
frames_from : (n k m : ℕ) (p : List ℕ) → k + m ≤ n → AreFrames (take m (drop k (first_chunks 64 n p))) p k
frames_from n k m p inside i less = search (arith, frame_at, get_or-drop, get_or-take, take_most)

-- what a run adds up of the frames from one on, as many of them as are taken at once
pub taken_run : {s : Scheme} {begin : List ℕ} {frames : List (List ℕ)} {m most : ℕ} {run : Run}
    (p : List ℕ) (n i : ℕ) (sum : Sum) (unused : ℤ) → AddsRun s p i sum unused → Begins begin (data_in sum.met i)
    → frames ≡ first_chunks 64 (length p / 64) p → m ≡ min (length frames) (i + most)
    → (0 < most → nat_abs sum.last + REACH * most < 2 ^ 31)
    → IsRun s (take (m - i) (drop i frames)) begin (n - sum.met) run → i < length p / 64 → sum.met < n → 0 < run.frames
    → RunAdds s p n i run.frames run.count (run.by -ℤ unused) sum
taken_run {s} {begin} {frames} {m} {most} {run} p n i sum unused adds begins front least near is inside left some =
    let long = length-first_chunks (length p / 64) p in
    let all : length frames ≡ length p / 64 = rw front long in
    let within : i + (m - i) ≤ length p / 64 = omega (arith, least, all, inside) in
    let all_taken = take_most (m - i) (drop i frames) in
    let taken : run.frames ≤ most = omega (arith, least, all_taken, is.inside) in
    let reach = near (omega (arith, taken, some)) in
    run_adds s p n i run.frames run.count (REACH * run.frames) run.by unused sum adds some
    (omega (arith, within, all_taken, is.inside))
    (is.moves p i (data_in sum.met i) begins (rw front (frames_from (length p / 64) i (m - i) p within)))
    (omega (arith, is.few, left)) (omega (arith, reach, taken))

-- a word of one difference
one_item : (s : Scheme) (w : DataWord) (width bits count : ℕ)
    → differences_of s w.code w.bits ≡ Some (digits width bits count) → count ≡ 1 → (ws : List DataWord)
    → items_of s (w ∷ ws) ≡ Ok (digit_at width bits 0) ∷ items_of s ws
one_item s w width bits count e one ws =
    let some : 0 < count = omega (arith, one) in
    let all : count - 0 ≡ count = omega arith in
    let last : count - 1 - 0 ≡ 0 = omega (arith, one) in
    let none = digits_over width bits count (0 + 1) (omega (arith, one)) in
    let step : digits width bits count ≡ digit_at width bits 0 ∷ [] = search (arith, nat_tests, digits_step) in
    items_group s (w ∷ ws) ws w (digits width bits count) refl e
    ∙ ap (λ (ds : List ℤ). map Ok ds ++ items_of s ws) step

pub single_if : (s : Scheme) (w : DataWord) (width bits count : ℕ)
    → differences_of s w.code w.bits ≡ Some (digits width bits count)
    → OnTrue (eqb count 1) ((d : ℤ) × ((rest : List DataWord) → items_of s (w ∷ rest) ≡ Ok d ∷ items_of s rest))
single_if s w width bits count e = ⊎_elim
    (λ (one : count ≡ 1). rw (eq-eqb count 1 one) (digit_at width bits 0, one_item s w width bits count e one))
    (λ (other : count ≡ 1 → ⊥). rw (ne_eqb count 1 other) tt)
    (cases_eq count 1)
