-- In Steim-2, words that take the largest number in turn are never after any other words.
use Rattle.std.proofs.Common.{◌≡◌, ℕ, ◌+◌, ◌-◌, ◌<◌, ◌≤◌, List, [], ◌∷◌, ◌++◌, length, take, drop, ℤ, arith, refl}
use Rattle.std.proofs.Common.{ap, sym, ◌∙◌, ⊎_elim}
use Rattle.std.proofs.Math.Seq.{drop-append-add, drop-nil}
use Rattle.std.proofs.lemmas.Bool.{cases_lt}
use Rattle.std.proofs.lemmas.List.{append-nil, drop-append-le, drop-take, length-drop, length-take, length-take-le}
use Rattle.std.proofs.lemmas.List.{take-append-drop, take-append-le, take-take, take_at}
use Rattle.std.proofs.lemmas.List.Elements.{All-drop, All-take}
use Rattle.mseed_steim.specs.declared.scheme.Scheme.TheVariants.{Two}
use Rattle.mseed_steim.specs.Spelling.{IsWithin, Spells}
use Rattle.mseed_steim.specs.Frames.{DataWord}
use Rattle.mseed_steim.specs.Runs.{SpellsRun}
use Rattle.mseed_steim_pack.specs.Packing.{IsFullest, PacksRun, IsFewest, IsFarthest, IsTooLargeAt}
use Rattle.mseed_steim_pack.proofs.Rows.{fewer_spelled}
use Rattle.mseed_steim_pack.proofs.Packs.{prefix_spelled, rest_shorter, run_spelled, taken_not_large}

-- no more words spell what some words spell after its first differences
abbrev SpelledBy : ℕ → List ℤ → Type 0
SpelledBy n ds = (us : List DataWord) × ((length us ≤ n) × SpellsRun Two us ds)

drop_over : (n : ℕ) (xs ys : List ℤ) → length xs ≤ n → drop n (xs ++ ys) ≡ drop (n - length xs) ys
drop_over n xs ys over =
    let place : length xs + (n - length xs) ≡ n = omega (arith, over) in
    rw place at (drop-append-add xs ys (n - length xs))

rest_spelled : (vs : List DataWord) (ds : List ℤ) (n : ℕ) → SpellsRun Two vs ds → SpelledBy (length vs) (drop n ds)
rest_spelled [] ds n run = ([], (omega arith, rw run (drop-nil n)))
rest_spelled (v ∷ vs) ds n run =
    let first = run.0 in
    let rest = run.1.0 in
    ⊎_elim
    (λ (inside : n < length first).
    let left = length-drop n first in
    let can = fewer_spelled first (drop n first) (omega (arith, left, inside)) (omega (arith, left))
    (λ w. All-drop (IsWithin w) n first) (v.code, (v.bits, run.1.1.1.0)) in
    let cut : drop n ds ≡ drop n first ++ rest = rw run.1.1.0 (drop-append-le n first rest (omega (arith, inside))) in (
      record { frame = 0; place = 0; code = can.0; bits = can.1.0 } ∷ vs,
      (omega arith, (drop n first, (rest, (cut, (can.1.1, run.1.1.1.1))))),
    ))
    (λ (over : length first ≤ n).
    let later = rest_spelled vs rest (n - length first) run.1.1.1.1 in
    (later.0, (omega (arith, later.1.0), rw (run.1.1.0, drop_over n first rest over) later.1.1)))
    (cases_lt n (length first))

-- a word that spells what begins like some differences takes no more of them than the largest number
no_more : (ds first rest : List ℤ) (code word used n wcode wbits : ℕ) → IsFullest Two ds code word used → used < n
    → n ≤ length ds → take n (first ++ rest) ≡ take n ds → Spells Two wcode wbits first → length first ≤ used
no_more ds first rest code word used n wcode wbits full less inside same spells = ⊎_elim
    (λ (over : used < length first).
    let long : length (take (used + 1) first) ≡ used + 1 = length-take-le (used + 1) first (omega (arith, over)) in
    let prefix : take (used + 1) first ≡ take (used + 1) ds =
    sym (take-append-le (used + 1) first rest (omega (arith, over)))
    ∙ sym (take-take (used + 1) n (first ++ rest) (omega (arith, less)))
    ∙ ap (λ (l : List ℤ). take (used + 1) l) same ∙ take-take (used + 1) n ds (omega (arith, less)) in
    let can = fewer_spelled first (take (used + 1) first) (omega (arith, long)) (omega (arith, long, over))
    (λ w. All-take (IsWithin w) (used + 1) first) (wcode, (wbits, spells)) in
    absurd (full.largest (used + 1) (omega arith) (omega (arith, less, inside)) (rw prefix at can)))
    (λ (under : length first ≤ used). under)
    (cases_lt used (length first))

-- Where a list begins like some differences, no words spell it that leave less of these than as many that take the
-- largest number in turn; and where they are fewer, they leave so many more.
run_ahead : (ws vs : List DataWord) (ds rest spelled : List ℤ) (n : ℕ) → PacksRun Two ws ds rest
    → length vs ≤ length ws → n ≤ length ds → take n spelled ≡ take n ds → SpellsRun Two vs spelled
    → length rest + length ws + n ≤ length ds + length vs
run_ahead ws [] ds rest spelled n run few inside same spells =
    let none : length spelled ≡ 0 = ap (λ (l : List ℤ). length l) spells in
    let both = ap (λ (l : List ℤ). length l) same in
    omega (arith, none, both, length-take n spelled, length-take n ds, inside, rest_shorter Two ws ds rest run)
run_ahead [] (v ∷ vs) ds rest spelled n run few inside same spells = absurd (omega (arith, few))
run_ahead (w ∷ ws) (v ∷ vs) ds rest spelled n run few inside same spells =
    let used = run.0 in
    let left = length-drop used ds in
    ⊎_elim
    (λ (less : used < n).
    let begins = rw spells.1.1.0 at same in
    let short = no_more ds spells.0 spells.1.0 w.code w.bits used n v.code v.bits run.1.0 less inside begins
    spells.1.1.1.0 in
    let fewer = rest_spelled vs spells.1.0 (used - length spells.0) spells.1.1.1.1 in
    let whole : used + (n - used) ≡ n = omega (arith, less) in
    let same_rest : take (n - used) (drop used spelled) ≡ take (n - used) (drop used ds) =
    rw (← drop-take used (n - used) spelled, ← drop-take used (n - used) ds, whole, same) refl in
    let later = run_ahead ws fewer.0 (drop used ds) rest (drop used spelled) (n - used) run.1.1
    (omega (arith, few, fewer.1.0)) (omega (arith, left, inside)) same_rest
    (rw (spells.1.1.0, drop_over used spells.0 spells.1.0 short) fewer.1.1) in
    omega (arith, later, fewer.1.0, left, less, inside))
    (λ (more : n ≤ used).
    omega (arith, rest_shorter Two ws (drop used ds) rest run.1.1, left, more, run.1.0.inside))
    (cases_lt used n)

-- so of words that spell some of the differences and more
ahead_of : (ws vs : List DataWord) (ds more : List ℤ) (used k : ℕ) → PacksRun Two ws ds (drop used ds)
    → length vs ≤ length ws → SpellsRun Two vs (take k ds ++ more)
    → length (drop used ds) + length ws ≤ length (drop k ds) + length vs
ahead_of ws vs ds more used k run few spells =
    let n = length (take k ds) in
    let same : take n (take k ds ++ more) ≡ take n ds = take_at (take k ds) more n refl
    ∙ sym (rw take-append-drop at (take_at (take k ds) (drop k ds) n refl)) in
    let count = length-take k ds in
    let ahead = run_ahead ws vs ds (drop used ds) (take k ds ++ more) n run few (omega (arith, count)) same spells in
    omega (arith, ahead, count, length-drop k ds)

pub is_farthest : (ws : List DataWord) (ds : List ℤ) (used : ℕ) → PacksRun Two ws ds (drop used ds) → used ≤ length ds
    → IsFarthest ds (length ws) used
is_farthest ws ds used run h = λ vs k more few over in' spells.
    let ahead = ahead_of ws vs ds more used k run few spells in
    omega (arith, ahead, few, over, in', h, length-drop used ds, length-drop k ds)

pub is_fewest : (ws : List DataWord) (ds : List ℤ) (used : ℕ) → PacksRun Two ws ds (drop used ds)
    → IsFewest (take used ds) (length ws)
is_fewest ws ds used run = record {
  words = ws;
  count = refl;
  spelled = prefix_spelled Two ws ds used run;
  least = λ vs more few spells. omega (arith, ahead_of ws vs ds more used used run (omega (arith, few)) spells, few);
}

-- a number of words is the only fewest
pub one_fewest : (ds : List ℤ) (m n : ℕ) → IsFewest ds m → IsFewest ds n → m ≡ n
one_fewest ds m n a b = search (arith, append-nil)

-- where all words are in use, none was left before a difference that is too large
pub no_room : (ws vs : List DataWord) (ds : List ℤ) (used i : ℕ) → PacksRun Two ws ds (drop used ds) → used ≤ length ds
    → IsTooLargeAt Two ds i → length vs < length ws → PacksRun Two vs (take i ds) [] → ⊥
no_room ws vs ds used i run h large few prefix =
    let found = run_spelled Two vs (take i ds) [] prefix in
    let spells : SpellsRun Two vs (take i ds ++ []) =
    rw (append-nil (take i ds), found.1.0, append-nil found.0) found.1.1 in
    let ahead = ahead_of ws vs ds [] used i run (omega (arith, few)) spells in
    taken_not_large Two ws ds (drop used ds) i run
    (omega (arith, ahead, few, h, large.0, length-drop used ds, length-drop i ds)) large
