-- Words that are packed from a prefix of some differences are packed from all of them, where the prefix is long enough.
use Rattle.std.proofs.Common.{◌≡◌, ℕ, ◌+◌, ◌-◌, ◌*◌, ◌≤◌, List, [], ◌∷◌}
use Rattle.std.proofs.Common.{length, take, drop, refl, sym, ap, ◌∙◌, arith, ℤ}
use Rattle.std.proofs.Common.{inl, inr}
use Rattle.std.proofs.lemmas.Bool.{cases_lt}
use Rattle.std.proofs.lemmas.List.{length-drop, drop-take, drop-drop, take_all}
use Rattle.mseed_steim.specs.declared.scheme.Scheme.{Scheme}
use Rattle.mseed_steim.specs.Frames.{DataWord, data_words, word_count}
use Rattle.mseed_steim_pack.proofs.Firsts.{first_fullest}
use Rattle.mseed_steim_pack.proofs.Fullest.{none_after_seven}
use Rattle.mseed_steim_pack.proofs.Held.{fullest_few}
use Rattle.mseed_steim.proofs.Walking.{length-words_from}
use Rattle.mseed_steim_pack.proofs.Packs.{rest_shorter}
use Rattle.mseed_steim_pack.specs.Packing.{IsFullest, PacksRun}

-- a word that is fullest for seven differences or more is so for those after them, too
longer_fullest : (s : Scheme) (ds : List ℤ) (n c w used : ℕ) → 7 ≤ n → IsFullest s (take n ds) c w used
    → IsFullest s ds c w used
longer_fullest s ds n c w used long full = elim (cases_lt n (length ds)) [
  | inl less ↦
      first_fullest s ds n c w used (omega (arith, less)) (λ k more. none_after_seven s ds k (omega
      (arith, long, more)))
      full
  | inr all ↦ rw take_all at full
]

-- so many of all the differences are packed as of the prefix
pub packs_on : (s : Scheme) (ws : List DataWord) (ds : List ℤ) (used n : ℕ) → 7 * length ws ≤ n
    → used ≤ length (take n ds) → PacksRun s ws (take n ds) (drop used (take n ds)) → PacksRun s ws ds (drop used ds)
packs_on s [] ds used n h inside run =
    let size : length (take n ds) ≡ length (drop used (take n ds)) = ap (λ (xs : List ℤ). length xs) run in
    let none : used ≡ 0 = omega (arith, size, inside, length-drop used (take n ds)) in
    rw none refl
packs_on s (w ∷ ws) ds used n h inside run =
    let u = run.0 in
    let few : u ≤ 7 = fullest_few s (take n ds) w.code w.bits u run.1.0 in
    let rest = rest_shorter s ws (drop u (take n ds)) (drop used (take n ds)) run.1.1 in
    let up : u + (used - u) ≡ used =
    omega (arith, rest, inside, run.1.0.inside, length-drop u (take n ds), length-drop used (take n ds)) in
    let whole : u + (n - u) ≡ n = omega (arith, few, h) in
    let left : take (n - u) (drop u ds) ≡ drop u (take n ds) =
    sym (drop-take u (n - u) ds) ∙ ap (λ (m : ℕ). drop u (take m ds)) whole in
    let later = packs_on s ws (drop u ds) (used - u) (n - u) (omega (arith, few, h))
    (rw left (omega (arith, inside, length-drop u (take n ds)))) (rw (left, drop-drop, up) run.1.1) in
    (u, (longer_fullest s ds n w.code w.bits u (omega (arith, h)) run.1.0, rw (drop-drop, up) at later))

-- each word takes seven at the most
pub run_few : (s : Scheme) (ws : List DataWord) (ds rest : List ℤ) → PacksRun s ws ds rest
    → length ds ≤ 7 * length ws + length rest
run_few s [] ds rest run = let same : length ds ≡ length rest = ap (λ (xs : List ℤ). length xs) run in
    omega (arith, same)
run_few s (w ∷ ws) ds rest run =
    let few = fullest_few s ds w.code w.bits run.0 run.1.0 in
    let later = run_few s ws (drop run.0 ds) rest run.1.1 in
    omega (arith, few, later, length-drop run.0 ds)

-- no more data words than words after Xn
pub words_fit : (p : List ℕ) → length (data_words p) ≤ word_count p - 3
words_fit p = omega (arith, length-words_from p 3 (word_count p - 3))
