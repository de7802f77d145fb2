-- The stations that a client asks for.
use Rattle.std.proofs.Common.{◌≡◌, ℕ, ◌+◌, ◌-◌, ◌%◌, ◌<◌, ◌≤◌, ◌^◌, suc, zero, refl, sym, ap, ◌∙◌, arith, List}
use Rattle.std.proofs.Common.{[], ◌∷◌, ◌++◌, length, map, replicate, take, set, get_or, append_assoc, length-take-le}
use Rattle.std.proofs.Common.{Option, Some, None, IfSome, inl, inr}
use Rattle.std.proofs.lemmas.List.{length-map, map_more, set_at}
use Rattle.std.specs.Option.{option_and_then}
use Rattle.std.proofs.lemmas.Option.{none-some, same_Some}
use Rattle.slink_feed.proofs.Items.{none_but, set_or}
use Rattle.slink_wire.specs.Place.{AreNumbers, Fields}
use Rattle.slink_feed.specs.declared.dialogue.Wanted.{Wanted}
use Rattle.slink_feed.specs.Dialogue.{AreShort, Wants, next_set, want_at, wanted_of, wants_of}

-- one station more is written
pub wanted_more : (places : List (Fields × Option ℕ)) (k : ℕ) (p : Fields × Option ℕ) → k < length places
    → length places ≤ 16 → p ≡ get_or places k p
    → set (map wanted_of (take k places) ++ replicate (16 - k) None) k (wanted_of p) ≡ map wanted_of
    (take (k + 1) places) ++ replicate (16 - (k + 1)) None
wanted_more places k p lt most read =
    let prefix : List (Option Wanted) = map wanted_of (take k places) in
    let rest : List (Option Wanted) = replicate (16 - (k + 1)) None in
    let long : length prefix ≡ k = length-map (take k places) wanted_of ∙ length-take-le k places (omega (arith, lt)) in
    let left : 16 - k ≡ suc (16 - (k + 1)) = omega (arith, lt, most) in
    rw (left, set_at prefix None rest (wanted_of p) k long, map_more wanted_of places k p lt, ← read)
    (sym (append_assoc prefix (wanted_of p ∷ []) rest))

-- the number of a station is short
short_number : (m : Option ℕ) → ((n : ℕ) → m ≡ Some n → n < 2 ^ 24) → IfSome m (λ n. n < 2 ^ 24)
short_number None short = tt
short_number (Some n) short = short n refl

pub short_next : (wants : Wants) (k : ℕ) (o : Option Wanted) (w : Wanted) → AreShort wants → o ≡ want_at wants k
    → o ≡ Some w → IfSome w.next (λ n. n < 2 ^ 24)
short_next wants k o w short read is =
    short_number w.next (λ n e. short k n (ap (option_and_then (λ (v : Wanted). v.next)) (sym read ∙ is) ∙ e))

number_short : (m : Option ℕ) (n : ℕ) → IfSome m (λ x. x < 2 ^ 24) → m ≡ Some n → n < 2 ^ 24
number_short None n short is = absurd (none-some n is)
number_short (Some x) n short is = omega (arith, short, same_Some x n is)

short_each : (places : List (Fields × Option ℕ)) (m : ℕ)
    → ((j : ℕ) (d : Fields × Option ℕ) → j < length places → IfSome (get_or places j d).1 (λ x. x < 2 ^ 24))
    → AreShort (map wanted_of places ++ replicate m None)
short_each [] m each k n is =
    absurd (none-some n (sym (ap (option_and_then (λ (v : Wanted). v.next)) (none_but m k None)) ∙ is))
short_each (p ∷ ps) m each zero n is = number_short p.1 n (each 0 p (omega arith)) is
short_each (p ∷ ps) m each (suc k) n is = short_each ps m (λ j d lt. each (suc j) d (omega (arith, lt))) k n is

pub short_all : (places : List (Fields × Option ℕ)) (wants : Wants) → AreNumbers places → wants ≡ wants_of places
    → AreShort wants
short_all places wants each e = rw e (short_each places (16 - length places) each)

short_set : (wants : Wants) (k n : ℕ) (w : Wanted) → AreShort wants → n < 2 ^ 24 → w.next ≡ Some n
    → AreShort (set wants k (Some w))
short_set wants k n w short lt is j m there = elim (set_or wants k j (Some w) None) [
  | inl here ↦
      number_short (Some n) m lt (sym is ∙ (sym (ap (option_and_then (λ (v : Wanted). v.next)) here.1) ∙ there))
  | inr same ↦ short j m (sym (ap (option_and_then (λ (v : Wanted). v.next)) same) ∙ there)
]

-- another number is wanted next of a station
pub short_with : (o : Option Wanted) (wants : Wants) (k number : ℕ) → AreShort wants
    → AreShort (next_set o wants k ((number + 1) % 2 ^ 24))
short_with None wants k number short = short
short_with (Some w) wants k number short = short_set wants k ((number + 1) % 2 ^ 24) _ short (omega arith) refl
