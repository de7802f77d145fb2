-- Samples of records that are near one another.
use Rattle.std.proofs.Common.{◌≡◌, ℕ, ◌+◌, List, [], ◌∷◌, ◌++◌, length, slice_get, refl, sym, subst, arith, ℤ}
use Rattle.std.proofs.Common.{pos, ◌-ℤ◌, Some, All}
use Rattle.std.specs.List.{AllByRecursion}
use Rattle.std.proofs.lemmas.Int.{ints}
use Rattle.std.proofs.lemmas.List.Elements.{All-from_recursion}
use Rattle.mseed_time.specs.declared.order.Order.{Order}
use Rattle.mseed_record.specs.View.{View, payload_of}
use Rattle.mseed_steim.specs.declared.fault.Ends.{Ends}
use Rattle.mseed_steim.specs.declared.form.Width.{Width}
use Rattle.mseed_steim.specs.declared.form.Width.TheVariants.{Two, Four}
use Rattle.mseed_steim.specs.declared.form.Form.{Form}
use Rattle.mseed_steim.specs.Nearness.{AreNearFrom, AreNear as AreNeighboursNear}
use Rattle.mseed_steim.specs.Reading.{count_of, IsWhole}
use Rattle.mseed_steim.specs.Samples.{AreEnds, BeginsWith, IsPayloadReading, bytes_of, differences_from}
use Rattle.mseed_steim.specs.Spelling.{IsWithin}
use Rattle.mseed_steim.proofs.Widths.{within_wider}
use Rattle.mseed_repack.specs.private.Outline.{AreNear, IsKnown, last_after}
use Rattle.mseed_repack.specs.declared.outline.Nearness.TheVariants.{Near}

pub zero_near : IsWithin 30 (pos 0)
zero_near = (omega (arith, ints), omega (arith, ints))

from_near : (before : ℤ) (ss : List ℤ) → AreNearFrom before ss
    → AllByRecursion (IsWithin 30) (differences_from before ss)
from_near before [] h = tt
from_near before (s ∷ ss) h = (h.0, from_near s ss h.1)

-- samples are near one another where their differences are
pub near_by : (ss : List ℤ) → AreNeighboursNear ss → AreNear ss
near_by ss h = grind (arith, zero_near, from_near)

begins_within : (order : Order) (width : Width) (bytes : List ℕ) (place : ℕ) (zs : List ℤ)
    → BeginsWith order (bytes_of width) bytes place zs → AllByRecursion (IsWithin 32) zs
begins_within order width bytes place [] h = tt
begins_within order Two bytes place (z ∷ zs) h =
    grind (arith, within_wider, begins_within order Two bytes (place + 2) zs h.3)
begins_within order Four bytes place (z ∷ zs) h = (h.1, begins_within order Four bytes (place + 4) zs h.3)

payload_within : (form : Form) (order : Order) (payload : List ℕ) (n : ℕ) (ss : List ℤ)
    → IsPayloadReading form order payload n ss → All (IsWithin 32) ss
payload_within form order payload n ss h = grind (arith, All-from_recursion, begins_within)

-- samples have 32 bits
pub whole_within : (v : View) (s : List ℤ) → IsWhole v s → All (IsWithin 32) s
whole_within v s whole = payload_within whole.0.form v.payload_order (payload_of v) (count_of v) s whole.0.spelled

pub after_near : (before last : ℤ) (xs ys : List ℤ) → AllByRecursion (IsWithin 30) (differences_from before xs)
    → last_after before xs ≡ last → AllByRecursion (IsWithin 30) (differences_from last ys)
    → AllByRecursion (IsWithin 30) (differences_from before (xs ++ ys))
after_near before last [] ys a e b = subst (λ (z : ℤ). AllByRecursion (IsWithin 30) (differences_from z ys)) (sym e) b
after_near before last (x ∷ xs) ys a e b = (a.0, after_near x last xs ys a.1 e b)

pub last_append : (before : ℤ) (xs ys : List ℤ) → last_after before (xs ++ ys) ≡ last_after (last_after before xs) ys
last_append before [] ys = refl
last_append before (x ∷ xs) ys = last_append x xs ys

last_at : (x : ℤ) (xs : List ℤ) (last : ℤ) → slice_get (x ∷ xs) (length xs) ≡ Some last → last_after x xs ≡ last
last_at x [] last e = cc
last_at x (y ∷ ys) last e = last_at y ys last e

pub ends_on : (ends : Ends) (x : ℤ) (xs : List ℤ) → AreEnds ends (x ∷ xs) → last_after x xs ≡ ends.last
ends_on ends x xs h = grind (arith, last_at)

-- the first record's samples
pub known_first : (ends : Ends) (xs s : List ℤ) → xs ≡ [] → AreEnds ends s → AreNear s
    → IsKnown (Near ends.last) (xs ++ s)
known_first ends xs s h h2 h3 = grind (arith, ends_on)

-- and those of one more, of which the first is near the last one before
pub known_more : (ends : Ends) (last : ℤ) (xs s : List ℤ) → IsKnown (Near last) xs → AreEnds ends s → AreNear s
    → IsWithin 30 (ends.first -ℤ last) → IsKnown (Near ends.last) (xs ++ s)
known_more ends last xs s h h2 h3 h4 = grind (arith, last_append, ends_on, zero_near, after_near)
