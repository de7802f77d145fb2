-- What is known ahead: nothing, of the differences further on, and of more of them.
use Rattle.std.proofs.Common.{◌≡◌, ◌≢◌, ◌↔◌, ℕ, ℤ, ◌+◌, ◌<◌, ◌≤◌, List, ◌++◌, length, drop, get_or, arith}
use Rattle.std.proofs.Common.{◌∙◌, ⊎_elim, add-zero, inl, inr, refl, replicate, set, zero-add}
use Rattle.std.proofs.lemmas.Bool.{cases_eq, cases_lt}
use Rattle.std.proofs.lemmas.Grind.{get_or-set_at}
use Rattle.std.proofs.lemmas.List.{drop-drop, drop-append-le, get_or-drop, get_or-set_other, get_or_append_left}
use Rattle.std.proofs.lemmas.List.{length-append, length-drop, take-append-le}
use Rattle.std.proofs.lemmas.Simd.{get_or-replicate}
use Rattle.mseed_steim.specs.declared.scheme.Scheme.{Scheme}
use Rattle.mseed_steim.specs.declared.scheme.Scheme.TheVariants.{Two}
use Rattle.mseed_steim_pack.specs.declared.ahead.Lookahead.{Lookahead}
use Rattle.mseed_steim_pack.specs.private.Ahead.{Cleared, Knows}
use Rattle.mseed_steim_pack.specs.private.Four.{known_from}
use Rattle.mseed_steim_pack.specs.Lookahead.{IsAhead, AreCut, AreSame, IsCut, IsLookahead, taken}
use Rattle.mseed_steim_pack.proofs.Fullest.{none_after_seven, none_on}
use Rattle.mseed_steim_pack.proofs.Held.{taken_some}

abbrev pub known_at : List ℕ → List ℤ → ℕ → Lookahead
known_at most cut place = record { most = most; cut = cut; place = place }

-- fewer than two are known to be held: so nothing is known
pub nothing : (s : Scheme) (ds cut : List ℤ) (most : ℕ) → most < 2 → Knows s ds cut most
nothing s ds cut most less some = absurd (omega (arith, less, some))

-- what is known, place by place
pub known_by : (s : Scheme) (most : List ℕ) (cut : List ℤ) (place : ℕ) (ds : List ℤ) → place ≤ 128
    → ((i : ℕ) → i + place < 144 → Knows s (drop i ds) (drop (i + place) cut) (get_or most (i + place) 0))
    → ((i : ℕ) → 121 ≤ i → i < 144 → get_or most i 0 ≡ 0) → IsLookahead s (known_at most cut place) ds
known_by s most cut place ds inside each none = record {
  place = inside;
  ahead = λ i l some. (each i l some).0 some;
  none = none;
  cut = λ i l two some. (each i l some).1 two;
}

known_of : (s : Scheme) (known : Lookahead) (ds : List ℤ) → IsLookahead s known ds → (i : ℕ) → i + known.place < 144
    → Knows s (drop i ds) (drop (i + known.place) known.cut) (get_or known.most (i + known.place) 0)
known_of s known ds is i l some = (is.ahead i l, λ two. is.cut i l two some)

-- nothing is reported
pub known_none : (s : Scheme) (ds cut : List ℤ) (place : ℕ) → place ≤ 128
    → IsLookahead s (known_at (replicate 144 0) cut place) ds
known_none s ds cut place h = known_by s (replicate 144 0) cut place ds h
    (λ i l. nothing s (drop i ds) _ _ (omega (arith, get_or-replicate {A = ℕ} 144 (i + place) 0 0 l)))
    (λ i low l. get_or-replicate 144 i 0 0 l)

-- what is found ahead, which is kept from the first place on
module _ (s : Scheme) (ds : List ℤ) (most : List ℕ) (cut : List ℤ) (long : length cut ≡ 128)
    (ahead : (i : ℕ) → i < 144 → IsAhead s (drop i ds) (get_or most i 0))
    (none : (i : ℕ) → 121 ≤ i → i < 144 → get_or most i 0 ≡ 0) (same : s ≡ Two → AreSame 128 ds cut) where
  pub knows_found : (i : ℕ) → i < 144 → Knows s (drop i ds) (drop i cut) (get_or most i 0)
  knows_found i l some = (ahead i l, λ two. search (arith, get_or-drop, length-drop))

  pub known_all : IsLookahead s (known_at most cut 0) ds
  known_all = known_by s most cut 0 ds (omega arith) (λ i l. rw add-zero (knows_found i (omega (arith, l)))) none

-- nothing is known of the last places
pub known_past : (s : Scheme) (known : Lookahead) (ds others : List ℤ) → IsLookahead s known others
    → IsLookahead s (known_at known.most known.cut 121) ds
known_past s known ds others is = known_by s known.most known.cut 121 ds (omega arith)
    (λ i l. nothing s (drop i ds) _ _ (omega (arith, is.none (i + 121) (omega arith) l))) is.none

-- it's known as well from a later place on
pub known_next : (s : Scheme) (most : List ℕ) (cut : List ℤ) (place count : ℕ) (ds : List ℤ)
    → IsLookahead s (known_at most cut place) ds → place + count ≤ 128
    → IsLookahead s (known_at most cut (place + count)) (drop count ds)
known_next s most cut place count ds is h = known_by s most cut (place + count) (drop count ds) h
    (λ i l. let same : count + i + place ≡ i + (place + count) = omega arith in
    rw (drop-drop i count ds, ← same) (known_of s _ ds is (count + i) (omega (arith, l)))) is.none

-- what is known of the differences that come next
pub known_here : (s : Scheme) (known : Lookahead) (ds : List ℤ) → IsLookahead s known ds
    → IsAhead s ds (get_or known.most known.place 0)
    × IsCut s (get_or known.most known.place 0) ds (drop known.place known.cut)
known_here s known ds is =
    let here = rw zero-add at (known_of s known ds is 0 (omega (arith, is.place))) in
    (λ some. (here some).0 some, λ two some. (here some).1 two)

-- where two or more are held, the place is one of which something is known
pub known_early : (s : Scheme) (known : Lookahead) (ds : List ℤ) (held : ℕ) → IsLookahead s known ds
    → held ≡ get_or known.most known.place 0 → 2 ≤ held → known.place < 121
known_early s known ds held is e some = search (arith)

-- what is left of differences that more follow, where eight are left
rest_more : (ds more : List ℤ) (i : ℕ) → 8 ≤ length (drop i ds) → drop i (ds ++ more) ≡ drop i ds ++ more
rest_more ds more i h = drop-append-le i ds more (omega (arith, h, length-drop i ds))

cut_more : (ds more cut : List ℤ) → 8 ≤ length ds → AreCut ds cut ↔ AreCut (ds ++ more) cut
cut_more ds more cut eight = (λ is. search (arith, get_or_append_left), λ is. search (arith, get_or_append_left))

-- No word takes more where more differences follow: it has seven at the most.
knows_more : (s : Scheme) (ds more cut : List ℤ) (most : ℕ) → Knows s ds cut most → Knows s (ds ++ more) cut most
knows_more s ds more cut most knows some =
    let known = (knows some).0 some in
    let inside : taken s most ≤ length ds = omega (arith, (taken_some s most some known.0).1, known.0, known.1) in (
      λ some. (
        known.0,
        omega (arith, known.1, length-append ds more),
        rw (take-append-le (taken s most) ds more inside) known.2,
        none_on s (ds ++ more) (taken s most) (length ds) (length (ds ++ more))
            (λ k over low can. known.3 k over low (rw (take-append-le k ds more low) at can))
            (λ k over. none_after_seven s (ds ++ more) k (omega (arith, over, known.1))),
      ),
      λ two. (cut_more ds more cut known.1).0 ((knows some).1 two),
    )

-- what is known of differences is known of all that begin with them
pub known_more : (s : Scheme) (known : Lookahead) (ds more : List ℤ) → IsLookahead s known ds
    → IsLookahead s known (ds ++ more)
known_more s known ds more is = known_by s known.most known.cut known.place (ds ++ more) is.place
    (λ i l some. let knows = known_of s known ds is i l in
    rw (rest_more ds more i ((knows some).0 some).1)
    (knows_more s (drop i ds) more (drop (i + known.place) known.cut) _ knows some)) is.none

-- what is known where more follow is known without them, where eight are left
pub knows_few : (s : Scheme) (ds more cut : List ℤ) (i most : ℕ) → i + 8 ≤ length ds
    → Knows s (drop i (ds ++ more)) cut most → Knows s (drop i ds) cut most
knows_few s ds more cut i most room knows some =
    let xs = drop i ds in
    let few : 8 ≤ length xs = omega (arith, room, length-drop i ds) in
    let here = rw (rest_more ds more i few) at (knows some) in
    let known = here.0 some in
    let inside : taken s most ≤ length xs = omega (arith, (taken_some s most some known.0).1, known.0, few) in (
      λ some. (
        known.0,
        few,
        rw (take-append-le (taken s most) xs more inside) at known.2,
        λ k over low can. known.3 k over (omega (arith, low, length-append xs more))
            (rw (take-append-le k xs more low) can),
      ),
      λ two. (cut_more xs more cut few).1 (here.1 two),
    )

-- What is known of differences is known of the first of them, where these are as many as are looked at.
pub known_first : (s : Scheme) (known : Lookahead) (ds more : List ℤ) → 128 ≤ length ds
    → IsLookahead s known (ds ++ more) → IsLookahead s known ds
known_first s known ds more long is = known_by s known.most known.cut known.place ds is.place
    (λ i l some. knows_few s ds more _ i _ (eight_left i l some) (known_of s known (ds ++ more) is i l) some) is.none
  where
    eight_left : (i : ℕ) → i + known.place < 144 → 2 ≤ get_or known.most (i + known.place) 0 → i + 8 ≤ length ds
    eight_left i l some = ⊎_elim
        (λ (a : i + known.place < 121). omega (arith, a, long))
        (λ (b : 121 ≤ i + known.place). absurd (omega (arith, some, is.none (i + known.place) b l)))
        (cases_lt (i + known.place) 121)

-- Where zeros are put from one place to another, what holds of each number below two still holds.
pub cleared_none : (from : ℕ) (before : List ℕ) → Cleared from from before before
cleared_none from before = record { each = λ i. inl refl; none = λ i low less. absurd (omega (arith, low, less)) }

pub cleared_more : (from to : ℕ) (before after : List ℕ) → to < length after → Cleared from to before after
    → Cleared from (to + 1) before (set after to 0)
cleared_more from to before after inside is = record {
  each = λ i. ⊎_elim (λ (here : i ≡ to). inr (get_or-set_at after to i 0 0 here inside))
      (λ (other : i ≢ to). rw (get_or-set_other after to i 0 0 other) (is.each i)) (cases_eq i to);
  none = λ i low less. ⊎_elim (λ (here : i ≡ to). get_or-set_at after to i 0 0 here inside)
      (λ (other : i ≢ to). get_or-set_other after to i 0 0 other ∙ is.none i low (omega (arith, less, other)))
      (cases_eq i to);
}

pub cleared_holds : (P : ℕ → Type 0) → ((m : ℕ) → m < 2 → P m) → (from to i : ℕ) (before after : List ℕ)
    → Cleared from to before after → (i < from → P (get_or before i 0)) → (to ≤ i → get_or before i 0 ≡ 0)
    → P (get_or after i 0)
cleared_holds P small from to i before after is early late = ⊎_elim
    (λ (kept : get_or after i 0 ≡ get_or before i 0). ⊎_elim
    (λ (less : i < from). rw kept (early less))
    (λ (more : from ≤ i). small (get_or after i 0) (⊎_elim (λ (inside : i < to). omega (arith, is.none i more inside))
    (λ (over : to ≤ i). omega (arith, kept, late over)) (cases_lt i to))) (cases_lt i from))
    (λ (zero : get_or after i 0 ≡ 0). small (get_or after i 0) (omega (arith, zero))) (is.each i)

-- what is known where two or more are held, and after the word that takes as many
pub held_here : (known : Lookahead) (place held : ℕ) (ds : List ℤ) → IsLookahead Two (known_from known place) ds
    → held ≡ get_or known.most place 0 → 2 ≤ held
    → ((held < 8) × (place + 8 ≤ 128)) × (IsAhead Two ds held × AreCut ds (drop place known.cut)
    × IsLookahead Two (known_from known (place + held)) (drop held ds))
held_here known place held ds is e some =
    let here = rw (← e) at (known_here Two (known_from known place) ds is) in
    let early = known_early Two (known_from known place) ds held is e some in
    let few = (here.0 some).0 in (
      (omega (arith, few), omega (arith, early)),
      (here.0, here.1 refl some, known_next Two known.most known.cut place held ds is (omega (arith, few, early))),
    )
