-- Sums by a window of the last four: each comes of the one four places before by two pairs of differences.
use Rattle.std.proofs.Common.{◌≡◌, ℕ, ◌+◌, ◌-◌, ◌<◌, ◌≤◌, ◌^◌, List, [], ◌∷◌, map, take, drop, length, get_or}
use Rattle.std.proofs.lemmas.Bool.Decides.{nat_tests}
use Rattle.std.proofs.Common.{ℤ, pos, ◌+ℤ◌, nat_abs, w32, to_z, of_z, FitsSigned, arith, refl, ◌∙◌, subst}
use Rattle.std.proofs.lemmas.Int.{ints, to_z-of_z}
use Rattle.mseed_steim.specs.private.Lanes.{span}
use Rattle.mseed_steim.specs.private.Sums.{IsWindow, sums}
use Rattle.mseed_steim.proofs.Far.{abs_sum, near_signed}
use Rattle.mseed_steim.proofs.Folded.{next_cut}
use Rattle.mseed_steim.proofs.Summed.{Summed, added, all_held, held_in, holds, holds_sum, span_cut, sums_held}

-- ---- each sum as it is come to
to_first : (l b c d e : ℤ) → l +ℤ ((d +ℤ e) +ℤ (c +ℤ b)) ≡ (((l +ℤ b) +ℤ c) +ℤ d) +ℤ e
to_first l b c d e = omega (arith, ints)

to_second : (l b c d e f : ℤ) → (l +ℤ b) +ℤ ((e +ℤ f) +ℤ (d +ℤ c)) ≡ ((((l +ℤ b) +ℤ c) +ℤ d) +ℤ e) +ℤ f
to_second l b c d e f = omega (arith, ints)

to_third : (m d e f g : ℤ) → m +ℤ ((f +ℤ g) +ℤ (d +ℤ e)) ≡ (((m +ℤ d) +ℤ e) +ℤ f) +ℤ g
to_third m d e f g = omega (arith, ints)

to_fourth : (t e f g h : ℤ) → t +ℤ ((g +ℤ h) +ℤ (e +ℤ f)) ≡ (((t +ℤ e) +ℤ f) +ℤ g) +ℤ h
to_fourth t e f g h = omega (arith, ints)

turned : (x y : ℤ) → x +ℤ y ≡ y +ℤ x
turned x y = omega (arith, ints)

-- pair by pair, the sums are those one by one
pub held_slide : (l b c d e f g h : ℤ)
    → nat_abs l + (nat_abs b + (nat_abs c + nat_abs d)) + span (e ∷ f ∷ g ∷ h ∷ []) < 2 ^ 31
    → to_z w32 (added (of_z w32 l) (added (added (of_z w32 d) (of_z w32 e)) (of_z w32 (c +ℤ b))))
    ∷ to_z w32 (added (of_z w32 (l +ℤ b)) (added (added (of_z w32 e) (of_z w32 f)) (of_z w32 (d +ℤ c))))
    ∷ to_z w32 (added (of_z w32 ((l +ℤ b) +ℤ c)) (added (added (of_z w32 f) (of_z w32 g))
    (added (of_z w32 d) (of_z w32 e))))
    ∷ to_z w32 (added (of_z w32 (((l +ℤ b) +ℤ c) +ℤ d)) (added (added (of_z w32 g) (of_z w32 h))
    (added (of_z w32 e) (of_z w32 f)))) ∷ []
    ≡ sums (((l +ℤ b) +ℤ c) +ℤ d) (e ∷ f ∷ g ∷ h ∷ [])
held_slide l b c d e f g h near =
    let to_b = abs_sum l b in
    let to_c = abs_sum (l +ℤ b) c in
    let t : ℤ = ((l +ℤ b) +ℤ c) +ℤ d in
    let to_t = abs_sum ((l +ℤ b) +ℤ c) d in
    let to_e = abs_sum t e in
    let to_f = abs_sum (t +ℤ e) f in
    let to_g = abs_sum ((t +ℤ e) +ℤ f) g in
    let to_h = abs_sum (((t +ℤ e) +ℤ f) +ℤ g) h in
    let lower = abs_sum c b in
    let upper = abs_sum d c in
    let past = holds l (omega (arith, near)) in
    let past_b = holds (l +ℤ b) (omega (arith, near, to_b)) in
    let past_c = holds ((l +ℤ b) +ℤ c) (omega (arith, near, to_b, to_c)) in
    let past_d = holds t (omega (arith, near, to_b, to_c, to_t)) in
    let c_b = holds (c +ℤ b) (omega (arith, near, lower)) in
    let d_c = holds (d +ℤ c) (omega (arith, near, upper)) in
    let at_d = holds d (omega (arith, near)) in
    let at_e = holds e (omega (arith, near)) in
    let at_f = holds f (omega (arith, near)) in
    let at_g = holds g (omega (arith, near)) in
    let at_h = holds h (omega (arith, near)) in
    let d_e = holds_sum at_d at_e in
    let e_f = holds_sum at_e at_f in
    let one = held_in (t +ℤ e) (holds_sum past (holds_sum d_e c_b)) (to_first l b c d e)
    (omega (arith, near, to_b, to_c, to_t, to_e)) in
    let two = held_in ((t +ℤ e) +ℤ f) (holds_sum past_b (holds_sum e_f d_c)) (to_second l b c d e f)
    (omega (arith, near, to_b, to_c, to_t, to_e, to_f)) in
    let three = held_in (((t +ℤ e) +ℤ f) +ℤ g) (holds_sum past_c (holds_sum (holds_sum at_f at_g) d_e))
    (to_third ((l +ℤ b) +ℤ c) d e f g) (omega (arith, near, to_b, to_c, to_t, to_e, to_f, to_g)) in
    let four = held_in ((((t +ℤ e) +ℤ f) +ℤ g) +ℤ h) (holds_sum past_d (holds_sum (holds_sum at_g at_h) e_f))
    (to_fourth t e f g h) (omega (arith, near, to_b, to_c, to_t, to_e, to_f, to_g, to_h)) in
    rw (one, two, three, four) refl

-- the sum of two differences
pub held_pair : (x y : ℤ) → nat_abs x + nat_abs y < 2 ^ 31 → to_z w32 (added (of_z w32 x) (of_z w32 y)) ≡ y +ℤ x
held_pair x y near = search (arith, abs_sum, held_in, holds, holds_sum, turned)

-- the last of the four sums
pub window_last : (r : ℕ) (d : ℤ) (s p : List ℤ) → IsWindow r d s p → nat_abs (get_or s 3 (pos 0)) + r < 2 ^ 31
window_last r d s p w = search (arith, abs_sum)

pub window_long : (r : ℕ) (d : ℤ) (s p : List ℤ) → IsWindow r d s p → length s ≡ 4
window_long r d s p w = rw w.sums_are refl

-- it is one for fewer differences
pub window_less : (r n : ℕ) (d : ℤ) (s p : List ℤ) → n ≤ r → IsWindow r d s p → IsWindow n d s p
window_less r n d s p less w = search arith

-- and as it is held in 32 bits
pub window_held : (r : ℕ) (d : ℤ) (s p : List ℤ) → IsWindow r d s p
    → IsWindow r d (map (to_z w32) (map (of_z w32) s)) (map (to_z w32) (map (of_z w32) p))
window_held r d s p w =
    let to_b = abs_sum w.first w.second in
    let to_c = abs_sum (w.first +ℤ w.second) w.third in
    let to_d = abs_sum ((w.first +ℤ w.second) +ℤ w.third) d in
    let lower = abs_sum w.third w.second in
    let upper = abs_sum d w.third in
    let one : FitsSigned w32 w.first = near_signed w.first (omega (arith, w.near)) in
    let two : FitsSigned w32 (w.first +ℤ w.second) = near_signed (w.first +ℤ w.second) (omega (arith, w.near, to_b)) in
    let three : FitsSigned w32 ((w.first +ℤ w.second) +ℤ w.third) = search (arith, nat_tests, near_signed) in
    let four : FitsSigned w32 (((w.first +ℤ w.second) +ℤ w.third) +ℤ d) = search (arith, nat_tests, near_signed) in
    let low : FitsSigned w32 (w.third +ℤ w.second) = near_signed (w.third +ℤ w.second) (omega (arith, w.near, lower)) in
    let high : FitsSigned w32 (d +ℤ w.third) = near_signed (d +ℤ w.third) (omega (arith, w.near, upper)) in
    record {
      first = w.first;
      second = w.second;
      third = w.third;
      sums_are = search (arith, nat_tests, to_z-of_z);
      one = to_z w32 (of_z w32 w.one);
      other = to_z w32 (of_z w32 w.other);
      pairs_are = rw (w.pairs_are, to_z-of_z w32 (w.third +ℤ w.second) low, to_z-of_z w32 (d +ℤ w.third) high) refl;
      near = w.near;
    }

-- four differences from the one before a place on
pub before_four : (ds : List ℤ) (at : ℕ) → 0 < at → at + 4 ≤ length ds
    → take 4 (drop (at - 1) ds) ≡ get_or ds (at - 1) (pos 0) ∷ take 3 (take 4 (drop at ds))
before_four ds at later some = search (arith, next_cut)

pub three_near : (d : ℤ) (xs : List ℤ) → span (d ∷ take 3 xs) ≤ nat_abs d + span xs
three_near d xs = search arith

-- before the first difference there is one sum alone
pub window_first : (r : ℕ) (last : ℤ) → nat_abs last + r < 2 ^ 31
    → IsWindow r (pos 0) (last ∷ last ∷ last ∷ last ∷ []) (pos 0 ∷ pos 0 ∷ pos 0 ∷ pos 0 ∷ [])
window_first r last near =
    let none : last +ℤ pos 0 ≡ last = omega (arith, ints) in
    grind arith

-- four differences, and the ones before each of them, as they are held in 32 bits
pub four_held : (ds : List ℤ) (at : ℕ) (d : ℤ) (s p : List ℤ) → IsWindow (span (take 4 (drop at ds))) d s p
    → map (to_z w32) (map (of_z w32) (take 4 (drop at ds))) ≡ take 4 (drop at ds)
four_held ds at d s p w = all_held (take 4 (drop at ds)) (omega (arith, w.near))

pub before_held : (ds : List ℤ) (at : ℕ) (s p : List ℤ) → 0 < at → at + 4 ≤ length ds
    → IsWindow (span (take 4 (drop at ds))) (get_or ds (at - 1) (pos 0)) s p
    → map (to_z w32) (map (of_z w32) (take 4 (drop (at - 1) ds)))
    ≡ get_or ds (at - 1) (pos 0) ∷ take 3 (take 4 (drop at ds))
before_held ds at s p later some w =
    let before = before_four ds at later some in
    let near = three_near (get_or ds (at - 1) (pos 0)) (take 4 (drop at ds)) in
    all_held (take 4 (drop (at - 1) ds)) (rw before (omega (arith, near, w.near))) ∙ before

-- the window after four more differences, for all that are left
pub window_on : (ds : List ℤ) (l : ℤ) (k : ℕ) (out : List ℤ) (past : ℤ) (s p : List ℤ) → nat_abs l + span ds < 2 ^ 31
    → Summed ds l k out past
    → ((reach : ℕ) → nat_abs past + span (take 4 (drop k ds)) + reach < 2 ^ 31
    → IsWindow reach (get_or ds (k + 3) (pos 0)) s p)
    → IsWindow (span (drop (k + 4) ds)) (get_or ds (k + 4 - 1) (pos 0)) s p
window_on ds l k out past s p near summed window =
    let cut = span_cut ds k 4 in
    let at : k + 3 ≡ k + 4 - 1 = omega arith in
    subst (λ (n : ℕ). IsWindow (span (drop (k + 4) ds)) (get_or ds n (pos 0)) s p) at
    (window (span (drop (k + 4) ds)) (omega (arith, cut, summed.near, near)))

-- sums of the first differences, as they are held in 32 bits
pub sums_are_held : (r ds : List ℤ) (l : ℤ) → FitsSigned w32 l → nat_abs l + span ds < 2 ^ 31
    → r ≡ sums (to_z w32 (of_z w32 l)) (map (to_z w32) (map (of_z w32) ds))
    → map (to_z w32) (map (of_z w32) r) ≡ sums l ds
sums_are_held r ds l fits near e = search (arith, all_held, sums_held, to_z-of_z)
