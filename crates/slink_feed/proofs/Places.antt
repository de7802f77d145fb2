-- Which stations the rings of a feed have.
use Rattle.std.proofs.Common.{◌≡◌, ◌≢◌, ℕ, ◌+◌, ◌<◌, ◌≤◌, inl, inr, zero, suc, refl, sym, ap, ◌∙◌, arith}
use Rattle.std.proofs.Common.{add-one, Bool, true, false, ◌&&◌, nat_eq, List, [], ◌∷◌, length, take, take_all, drop}
use Rattle.std.proofs.Common.{drop_of_length-le, IsTrue, Option, Some, None, slice_get}
use Rattle.std.specs.List.{position_from}
use Rattle.std.specs.Cmp.Lexicographic.{pointwise, same_text, other_text}
use Rattle.slink_wire.specs.Place.{Bears, Fields}
use Rattle.slink_feed.specs.Rings.{HasPlace, LacksPlace}
use Rattle.slink_feed.specs.Window.{Window}
use Rattle.slink_feed.proofs.Items.{drop_at, one_value, same_or_not}
use Rattle.std.proofs.lemmas.Bool.{and_from, and_parts, both_ways, true_from_ne_false}
use Rattle.std.proofs.lemmas.Option.{none-some, same_Some}

pub has_at : (ws : List Window) (k : ℕ) (w : Window) (place : Fields) → slice_get ws k ≡ Some w → w.place ≡ place
    → HasPlace ws place
has_at [] k w place at same = absurd (none-some w at)
has_at (v ∷ ws) zero w place at same = inl (rw (same_Some v w at) same)
has_at (v ∷ ws) (suc k) w place at same = inr (has_at ws k w place at same)

lacks_next : (ws : List Window) (k : ℕ) (w : Window) (place : Fields) → slice_get ws k ≡ Some w → w.place ≢ place
    → LacksPlace (take k ws) place → LacksPlace (take (suc k) ws) place
lacks_next [] k w place at other before = tt
lacks_next (v ∷ ws) zero w place at other before = (rw (same_Some v w at) other, tt)
lacks_next (v ∷ ws) (suc k) w place at other before = (before.0, lacks_next ws k w place at other before.1)

pub lacks_more : (ws : List Window) (k : ℕ) (w : Window) (place : Fields) → slice_get ws k ≡ Some w → w.place ≢ place
    → LacksPlace (take k ws) place → LacksPlace (take (k + 1) ws) place
lacks_more ws k w place at other before = rw (add-one k) (lacks_next ws k w place at other before)

pub lacks_all : (ws : List Window) (k : ℕ) (place : Fields) → k ≡ length ws → LacksPlace (take k ws) place
    → LacksPlace ws place
lacks_all ws k place e before = rw (take_all k ws (omega (arith, e))) at before

-- the test of two stations
abbrev fields_eq : Fields → Fields → Bool
fields_eq a b = pointwise nat_eq a.station b.station && pointwise nat_eq a.network b.network

text_eq : (xs ys : List ℕ) → xs ≡ ys → true ≡ pointwise nat_eq xs ys
text_eq xs ys e = sym (true_from_ne_false (pointwise nat_eq xs ys) (λ h. other_text xs ys (sym h) e))

pub same_place : (a b : Fields) (t : Bool) → t ≡ fields_eq a b → t ≡ true → a ≡ b
same_place a b t is h =
    let each = and_parts (pointwise nat_eq a.station b.station) (pointwise nat_eq a.network b.network) (sym is ∙ h) in
    ap (λ (s : List ℕ). record { station = s; network = a.network }) (same_text a.station b.station (sym each.0))
    ∙ ap (λ (n : List ℕ). record { station = b.station; network = n }) (same_text a.network b.network (sym each.1))

pub other_place : (a b : Fields) (t : Bool) → t ≡ fields_eq a b → t ≡ false → a ≢ b
other_place a b t is h same = both_ways t h (is ∙ and_from _ _
    (sym (text_eq a.station b.station (ap (λ (f : Fields). f.station) same)))
    (sym (text_eq a.network b.network (ap (λ (f : Fields). f.network) same))))

-- The first station that passes, found one after another.
pub found_at : (p : Window → Bool) (feed : List Window) (k : ℕ) (w : Window) (t : Bool) (o : Option ℕ)
    → slice_get feed k ≡ Some w → t ≡ p w → t ≡ true → o ≡ position_from p k (drop k feed) → o ≡ Some k
found_at p feed k w t o here test passes before =
    before ∙ rw (drop_at feed k w here, ← test, passes) refl

pub passed_at : (p : Window → Bool) (feed : List Window) (k : ℕ) (w : Window) (t : Bool) (o : Option ℕ)
    → slice_get feed k ≡ Some w → t ≡ p w → t ≡ false → o ≡ position_from p k (drop k feed)
    → o ≡ position_from p (k + 1) (drop (k + 1) feed)
passed_at p feed k w t o here test fails before =
    before ∙ rw (drop_at feed k w here, ← test, fails) refl

pub none_left : (p : Window → Bool) (feed : List Window) (k : ℕ) (o : Option ℕ) → length feed ≤ k
    → o ≡ position_from p k (drop k feed) → o ≡ None
none_left p feed k o past before = before ∙ ap (position_from p k) (drop_of_length-le feed past)

-- Which ring takes a record.
-- one more ring whose station a record doesn't carry
pub none_more : (feed : List Window) (r : List ℕ) (k : ℕ) (w : Window) → slice_get feed k ≡ Some w
    → ¬ (Bears r w.place) → ((j : ℕ) (v : Window) → j < k → slice_get feed j ≡ Some v → ¬ (Bears r v.place))
    → (j : ℕ) (v : Window) → j < k + 1 → slice_get feed j ≡ Some v → ¬ (Bears r v.place)
none_more feed r k w here other before j v lt there = elim (same_or_not j k) [
  | inl same ↦ λ bears. other
      (rw (one_value (slice_get feed k) v w (rw same at there) here) at bears)
  | inr ne ↦ before j v (omega (arith, lt, ne)) there
]

pub carries_by : (feed : List Window) (k : ℕ) (v w : Window) (r : List ℕ) (place : Fields) (t : Bool)
    → slice_get feed k ≡ Some v → slice_get feed k ≡ Some w → place ≡ v.place → (IsTrue t → Bears r place) → t ≡ true
    → Bears r w.place
carries_by feed k v w r place t here there same tells is =
    rw (one_value (slice_get feed k) v w here there) at (rw same at (tells is))

pub carries_not : (v : Window) (r : List ℕ) (place : Fields) (t : Bool) → place ≡ v.place → (Bears r place → IsTrue t)
    → t ≡ false → ¬ (Bears r v.place)
carries_not v r place t same tells is bears = let bad : false ≡ true = sym is ∙ tells (rw (← same) at bears) in cc bad
