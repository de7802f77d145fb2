-- Samples that are near one another, by the words or integers that say them.
use Rattle.mseed_steim.specs.Frames.{AreOctets}
use Rattle.std.proofs.Common.{◌≡◌, ◌≢◌, ℕ, zero, suc, ◌+◌, ◌-◌, ◌*◌, ◌/◌, ◌%◌, ◌^◌, ◌<◌, ◌≤◌, List, [], ◌∷◌}
use Rattle.std.proofs.lemmas.Bool.Decides.{nat_tests}
use Rattle.std.proofs.Common.{length, map, not, eqb, refl, sym, ap, ◌∙◌, subst, arith, ℤ, Option, Some}
use Rattle.std.proofs.Common.{All, Bool, true, false, cond, of_z, to_z, w32, FitsSigned, bit_and}
use Rattle.std.specs.Int.{bit_at}
use Rattle.std.specs.List.{AllByRecursion, filter, range_with_len}
use Rattle.std.specs.Prelude.{◌↔◌, max}
use Rattle.std.proofs.lemmas.Bool.{cond_both, false≢true}
use Rattle.std.proofs.Math.Nat.{div-div-eq-div-mul, mul_comm}
use Rattle.std.proofs.lemmas.Int.{ints}
use Rattle.std.proofs.lemmas.Nat.Bits.{bit_at-zero, bit_at_and}
use Rattle.std.proofs.lemmas.List.Elements.{All-append, All-nil, recursion_from_All}
use Rattle.byteorder.specs.Endian.{twos_complement}
use Rattle.mseed_time.specs.declared.order.Order.{Order}
use Rattle.mseed_time.specs.Fields.{number_at}
use Rattle.mseed_record.specs.View.{View}
use Rattle.mseed_steim.specs.declared.scheme.Scheme.{Scheme}
use Rattle.mseed_steim.specs.declared.scheme.Scheme.TheVariants.{One as Steim1, Two as Steim2}
use Rattle.mseed_steim.specs.declared.form.Width.TheVariants.{Two, Four}
use Rattle.mseed_steim.specs.declared.form.Form.{Form}
use Rattle.mseed_steim.specs.declared.form.Form.TheVariants.{Integers, Frames}
use Rattle.mseed_steim.specs.Frames.{DataWord, code_at, data_word, data_words, first_constant, is_data, word_at}
use Rattle.mseed_steim.specs.Frames.{word_count, words_from}
use Rattle.mseed_steim.specs.Groups.{Group, group_of, narrow_group, wide_group}
use Rattle.mseed_steim.specs.Nearness.{AreNear, AreNearFrom, IsNarrowAt, IsSurelyNear}
use Rattle.mseed_steim.specs.Reading.{HoldsIn, IsWhole, count_of}
use Rattle.mseed_steim.specs.Runs.{SpellsRun}
use Rattle.mseed_steim.specs.Samples.{Adds, AreSums, BeginsWith, IsPayloadReading, StartsAndAdds}
use Rattle.mseed_steim.specs.Spelling.{IsGroup, IsWithin, Spells, empty, residue}
use Rattle.mseed_steim.proofs.Below.{sixteen}
use Rattle.mseed_steim.proofs.Given.{prefix_words, word_small}
use Rattle.mseed_steim.proofs.Integers.{number_lt, signed_is}
use Rattle.mseed_steim.proofs.Laws.{same_payload}
use Rattle.mseed_steim.proofs.Spelled.{signed_32, signed_residue, signed_within}
use Rattle.mseed_steim.proofs.Widths.{all_wider, within_wider}
use Rattle.mseed_steim.proofs.Words.{residue_one}

-- what a word spells has 30 bits at the most
abbrev IsNearWord : Scheme → DataWord → Type 0
IsNearWord s w = (ds : List ℤ) → Spells s w.code w.bits ds → All (IsWithin 30) ds

-- two's complement of four bytes is the number that they spell
value_is : (x : ℕ) (z : ℤ) → x < 2 ^ 32 → IsWithin 32 z → x ≡ residue (2 ^ 32) z → z ≡ twos_complement 4 x
value_is x z small range e = search (arith, residue_one, signed_is, signed_residue, signed_within)

-- where there is a group, its differences have 30 bits at the most
abbrev IsNarrow : Option Group → Type 0
IsNarrow o = (g : Group) → o ≡ Some g → g.width ≤ 30

narrow_some : (g : Group) → g.width ≤ 30 → IsNarrow (Some g)
narrow_some g narrow h e = let same : g ≡ h = cc in subst (λ (x : Group). x.width ≤ 30) same narrow

narrow_either : (b : Bool) (o more : Option Group) → IsNarrow o → IsNarrow more → IsNarrow (cond b o more)
narrow_either true o more this other = this
narrow_either false o more this other = other

wide_group_narrow : (dnib : ℕ) → IsNarrow (wide_group dnib)
wide_group_narrow dnib = search (arith, narrow_either, narrow_some)

narrow_group_narrow : (dnib : ℕ) → IsNarrow (narrow_group dnib)
narrow_group_narrow dnib = search (arith, narrow_either, narrow_some)

two_narrow : (code dnib : ℕ) → IsNarrow (group_of Steim2 code dnib)
two_narrow code dnib = search (arith, narrow_either, narrow_group_narrow, narrow_some, wide_group_narrow)

-- Steim-2
near_two : (w : DataWord) → IsNearWord Steim2 w
near_two w ds (empty e q) = subst (All (IsWithin 30)) (sym q) (All-nil (IsWithin 30))
near_two w ds (Spells.row g dnib e p) = all_wider g.width 30 ds (two_narrow w.code dnib g e) p.range

all_near_two : (ws : List DataWord) → AllByRecursion (IsNearWord Steim2) ws
all_near_two [] = tt
all_near_two (w ∷ ws) = (near_two w, all_near_two ws)

-- Steim-1: a word of one difference is that difference
by_group : (code : ℕ) (dnib : ℕ) (g : Group) (ds : List ℤ) → group_of Steim1 code dnib ≡ Some g
    → All (IsWithin g.width) ds → (code ≡ 3 → g ≡ record { marked = false; spare = 1; count = 1; width = 32 }
    → All (IsWithin 30) ds) → All (IsWithin 30) ds
by_group code dnib g ds e range wide = search (arith, all_wider)

one_near : (dnib bits : ℕ) (ds : List ℤ) → bits < 2 ^ 32
    → IsGroup (record { marked = false; spare = 1; count = 1; width = 32 }) dnib bits ds
    → IsWithin 30 (twos_complement 4 bits) → All (IsWithin 30) ds
one_near dnib bits [] small p narrow = All-nil (IsWithin 30)
one_near dnib bits (d ∷ e ∷ ds) small p narrow = grind arith
one_near dnib bits (d ∷ []) small p narrow = grind (arith, value_is)

near_one : (p : List ℕ) (k : ℕ) → AreOctets p → IsNarrowAt p k → IsNearWord Steim1 (data_word p k)
near_one p k octets narrow ds (empty e q) = grind arith
near_one p k octets narrow ds (Spells.row g dnib e is) =
    by_group (code_at p k) dnib g ds e is.range (λ three same.
    one_near dnib (word_at p k) ds (word_small p k octets)
    (subst (λ (x : Group). IsGroup x dnib (word_at p k) ds) same is) (narrow three))

all_near_one : (p : List ℕ) → AreOctets p → (k n : ℕ) → ((j : ℕ) → k ≤ j → j < k + n → j % 16 ≢ 0 → IsNarrowAt p j)
    → AllByRecursion (IsNearWord Steim1) (map (data_word p) (filter is_data (range_with_len k n)))
all_near_one p octets k zero narrow = tt
all_near_one p octets k (suc n) narrow =
    let later = all_near_one p octets (k + 1) n
    (λ j from less other. narrow j (omega (arith, from)) (omega (arith, less)) other) in
    cond_both (not (eqb (k % 16) 0)) (k ∷ filter is_data (range_with_len (k + 1) n))
    (filter is_data (range_with_len (k + 1) n))
    (λ (ks : List ℕ). AllByRecursion (IsNearWord Steim1) (map (data_word p) ks))
    (λ other. (near_one p k octets (narrow k (omega arith) (omega arith) (λ e. false≢true (rw e at other))), later))
    (λ _. later)

words_near_one : (p : List ℕ) → AreOctets p → (k n : ℕ) → ((j : ℕ) → k ≤ j → j < k + n → j % 16 ≢ 0 → IsNarrowAt p j)
    → AllByRecursion (IsNearWord Steim1) (words_from p k n)
unfolding words_from
words_near_one p octets k n narrow = all_near_one p octets k n narrow

run_near : (s : Scheme) (ws : List DataWord) (ds : List ℤ) → AllByRecursion (IsNearWord s) ws → SpellsRun s ws ds
    → All (IsWithin 30) ds
run_near s [] ds near e = subst (All (IsWithin 30)) (sym e) (All-nil (IsWithin 30))
run_near s (w ∷ ws) ds near h = subst (All (IsWithin 30)) (sym h.1.1.0)
    (All-append (IsWithin 30) h.0 h.1.0 (near.0 h.0 h.1.1.1.0) (run_near s ws h.1.0 near.1 h.1.1.1.1))

adds_near : (before : ℤ) (ds ss : List ℤ) → Adds before ds ss → AllByRecursion (IsWithin 30) ds → AreNearFrom before ss
adds_near before ds [] h all = tt
adds_near before [] (s ∷ ss) h all = absurd h
adds_near before (d ∷ ds) (s ∷ ss) h all = grind (arith, ints, adds_near s ds ss h.1 all.1)

starts_near : (first : ℤ) (ds ss : List ℤ) → StartsAndAdds first ds ss → AllByRecursion (IsWithin 30) ds → AreNear ss
starts_near first ds ss h all = search (arith, adds_near)

sums_near : (s : Scheme) (p : List ℕ) (n : ℕ) (ss : List ℤ) → AreSums s p n ss
    → AllByRecursion (IsNearWord s) (data_words p) → AreNear ss
sums_near s p n ss sums near =
    let prefix = prefix_words (IsNearWord s) sums.prefix sums.rest
    (subst (AllByRecursion (IsNearWord s)) sums.cut near) in
    starts_near (first_constant p) sums.differences ss sums.sums
    (recursion_from_All (IsWithin 30) sums.differences (run_near s sums.prefix sums.differences prefix sums.spelled))

-- integers
short_from : (before : ℤ) (ss : List ℤ) → IsWithin 29 before → AllByRecursion (IsWithin 29) ss → AreNearFrom before ss
short_from before [] b all = tt
short_from before (s ∷ ss) b all = grind (arith, ints, short_from s ss all.0 all.1)

short_near : (ss : List ℤ) → AllByRecursion (IsWithin 29) ss → AreNear ss
short_near [] all = tt
short_near (s ∷ ss) all = short_from s ss all.0 all.1

two_short : (order : Order) (p : List ℕ) (place : ℕ) (ss : List ℤ) → BeginsWith order 2 p place ss
    → AllByRecursion (IsWithin 29) ss
two_short order p place [] h = tt
two_short order p place (s ∷ ss) h = (within_wider 16 29 s (omega arith) h.1, two_short order p (place + 2) ss h.3)

four_short : (order : Order) (p : List ℕ) (place : ℕ) (ss : List ℤ) → AreOctets p → BeginsWith order 4 p place ss
    → ((i : ℕ) → i < length ss → IsWithin 29 (twos_complement 4 (number_at order 4 (place + 4 * i) p)))
    → AllByRecursion (IsWithin 29) ss
four_short order p place [] octets h short = tt
four_short order p place (s ∷ ss) octets h short =
    let x : ℕ = number_at order 4 place p in
    let here : place + 4 * 0 ≡ place = omega arith in
    let first : IsWithin 29 (twos_complement 4 x) = rw here at (short 0 (omega arith)) in (
      subst (IsWithin 29) (sym (value_is x s (number_lt order 4 place p octets) h.1 h.2)) first,
      four_short order p (place + 4) ss octets h.3
          (λ i less. let next : place + 4 * (i + 1) ≡ place + 4 + 4 * i = omega arith in
          rw next at (short (i + 1) (omega (arith, less)))),
    )

-- samples whose words or integers show it are near one another
pub shown_near : (form : Form) (order : Order) (p : List ℕ) (n : ℕ) (ss : List ℤ) → AreOctets p
    → IsSurelyNear form order p n → IsPayloadReading form order p n ss → AreNear ss
shown_near (Integers Two) order p n ss octets shows h = short_near ss (two_short order p 0 ss h.1)
shown_near (Integers Four) order p n ss octets shows h =
    short_near ss (four_short order p 0 ss octets h.1 (λ i less. let place : 0 + 4 * i ≡ 4 * i = omega arith in
    rw place (shows.1 i (omega (arith, less, h.0)))))
shown_near (Frames Steim1) order p n ss octets shows h =
    sums_near Steim1 p n ss h.1
    (words_near_one p octets 3 (word_count p - 3) (λ j from less other. shows j (omega (arith, from, less)) other))
shown_near (Frames Steim2) order p n ss octets shows h = sums_near Steim2 p n ss h.1 (all_near_two (data_words p))

-- a code is 3 where both of its bits are set
mask_bit : (j : ℕ) → j < 16 → 0 < j → bit_at 357913941 (30 - 2 * j) ≡ 1
mask_bit =
    sixteen (λ j. 0 < j → bit_at 357913941 (30 - 2 * j) ≡ 1) (λ some. absurd (omega (arith, some))) (λ _. refl)
    (λ _. refl) (λ _. refl) (λ _. refl) (λ _. refl) (λ _. refl) (λ _. refl) (λ _. refl) (λ _. refl) (λ _. refl)
    (λ _. refl) (λ _. refl) (λ _. refl) (λ _. refl) (λ _. refl)

pub no_code_3 : (codes j : ℕ) → bit_and (bit_and codes (codes / 2)) 357913941 ≡ 0 → 0 < j → j < 16
    → codes / 2 ^ (30 - 2 * j) % 4 ≢ 3
no_code_3 codes j none some less three =
    let e : ℕ = 30 - 2 * j in
    let q : ℕ = codes / 2 ^ e in
    let low : bit_at codes e ≡ 1 = omega (arith, three) in
    let halves : codes / 2 / 2 ^ e ≡ q / 2 = search (arith, nat_tests, div-div-eq-div-mul, mul_comm) in
    let high : bit_at (codes / 2) e ≡ 1 = ap (λ m. m % 2) halves ∙ (omega (arith, three)) in
    let both : bit_at (bit_and codes (codes / 2)) e ≡ 1 = bit_at_and codes (codes / 2) e ∙ rw (low, high) refl in
    let all : bit_at (bit_and (bit_and codes (codes / 2)) 357913941) e ≡ 1 =
    search (arith, nat_tests, bit_at_and, mask_bit) in
    let zeroth : bit_at (bit_and (bit_and codes (codes / 2)) 357913941) e ≡ 0 =
    search (arith, nat_tests, bit_at-zero) in
    omega (arith, all, zeroth)

-- a word's bits in two's complement
pub word_value : (p : List ℕ) (k : ℕ) → AreOctets p → twos_complement 4 (word_at p k) ≡ to_z w32 (word_at p k)
word_value p k octets = grind (arith, signed_32, signed_is, word_small)

-- the code of a frame's word
pub code_is : (p : List ℕ) (codes frame place : ℕ) → place < 16 → codes ≡ word_at p (16 * frame)
    → codes / 2 ^ (30 - 2 * ((16 * frame + place) % 16)) % 4 ≡ code_at p (16 * frame + place)
code_is p codes frame place less e = search arith

-- a record whose payload shows it
pub near_whole : (v : View) (form : Form) (p : List ℕ) (n : ℕ) → HoldsIn v form p → n ≡ count_of v
    → ((s : List ℤ) → IsPayloadReading form v.payload_order p n s → AreNear s) → (s : List ℤ) → IsWhole v s → AreNear s
near_whole v form p n held count near s whole = near s (rw (held.4, count) (same_payload v form s held.1 whole.0))

-- a number with 2^28 added, modulo 2^32, is less than 2^29 where the number has 29 bits at the most
pub above_is : (z : ℤ) → FitsSigned w32 z → ((of_z w32 z + 268435456) % 4294967296 < 536870912) ↔ IsWithin 29 z
above_is z f = search arith

-- what holds of all places up to one more, by the greatest of what they have
pub all_below_next : (P : ℕ → Type 0) (a b most n limit : ℕ) → most ≡ max a b
    → (a < limit) ↔ ((i : ℕ) → i < n → P i) → (b < limit) ↔ P n → (most < limit) ↔ ((i : ℕ) → i < n + 1 → P i)
all_below_next P a b most n limit e all next = search arith
