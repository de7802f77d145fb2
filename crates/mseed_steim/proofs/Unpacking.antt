-- What is unpacked next.
use Rattle.std.proofs.Common.{◌≡◌, ℕ, zero, suc, ◌*◌, ◌^◌, ◌/◌, ◌<◌, List, [], ◌∷◌, ◌++◌, length, map, ℤ, refl, ap}
use Rattle.std.proofs.Common.{arith, eqb, true, false, Bool, Option, Some, None, Result, Ok}
use Rattle.std.proofs.lemmas.Bool.{eqb-true, false≢true}
use Rattle.std.proofs.Math.Nat.{mul-zero}
use Rattle.std.specs.Prelude.{⊤}
use Rattle.std.proofs.lemmas.List.{nil_from_length}
use Rattle.std.specs.Iterator.{YieldsFirst, YieldsFirstBy, MakesProgress, item_count}
use Rattle.mseed_steim.specs.declared.scheme.Scheme.{Scheme}
use Rattle.mseed_steim.specs.declared.differences.BadWordAt.{BadWordAt}
use Rattle.mseed_steim.specs.declared.data_words.Word.{Word}
use Rattle.mseed_steim.specs.ByteRuns.{byte_run, begins_empty, past_empty}
use Rattle.mseed_steim.specs.private.Digits.{digits, differences_in, differences_of}
use Rattle.mseed_steim.specs.Frames.{DataWord}
use Rattle.mseed_steim.specs.Groups.{Group, group_of}
use Rattle.mseed_steim.specs.private.Items.{items_of}
use Rattle.mseed_steim.specs.RemainingDifferences.{RemainingDifferences}
use Rattle.mseed_steim.specs.private.Reads.{as_data}
use Rattle.mseed_steim.specs.private.Steps.{IsStep}
use Rattle.mseed_steim.proofs.Spelled.{no_differences, length-digits}
use Rattle.mseed_steim.proofs.Table.{Kind, whole, full, short, AllSized, group_sized}
use Rattle.mseed_steim.proofs.Walking.{items_group, no_items}

-- a word of code 00 that is passed over
pub passed : (r : Option Word) (before after : List DataWord)
    → YieldsFirstBy as_data (λ (ws : List DataWord). ws) before r after → begins_empty before ≡ true
    → ((past_empty before ≡ past_empty after) × ((s : Scheme) → items_of s before ≡ items_of s after)
    × (length after < length before))
passed None before after h e = let none : false ≡ true = rw h.0 at e in absurd (false≢true none)
passed (Some w) before after h e =
    let code = rw h at e in
    let zeroth : w.code ≡ 0 = eqb-true w.code 0 code in
    let cut = ap length h in (
      rw (h, code) refl,
      (λ s. items_group s before after (as_data w) [] h
          (no_differences s w.code w.bits [] zeroth refl)),
      omega (arith, cut),
    )

-- after the words of code 00 none is next
past_step : (w : DataWord) (ws : List DataWord) (b : Bool) → eqb w.code 0 ≡ b → begins_empty (past_empty ws) ≡ false
    → begins_empty (past_empty (w ∷ ws)) ≡ false
past_step w ws true e h = rw e h
past_step w ws false e h = rw e e

pub past_begins : (ws : List DataWord) → begins_empty (past_empty ws) ≡ false
past_begins [] = refl
past_begins (w ∷ ws) = past_step w ws (eqb w.code 0) refl (past_begins ws)

-- where a run has no bytes, none of the words was taken
pub nothing_taken : (before after : List DataWord) (bytes : List ℕ) → before ≡ byte_run before ++ after
    → length bytes ≡ 4 * length (byte_run before) → length bytes ≡ 0 → before ≡ after
nothing_taken before after bytes cut count none = search (arith, nil_from_length)

-- a word of another code has some differences
positive : (w k n : ℕ) → w * k ≡ n → 0 < n → 0 < k
positive w zero n e p = let none = mul-zero w in absurd (omega (arith, none, e, p))
positive w (suc k) n e p = omega arith

some_count : (g : Group) → Kind g → 0 < g.count
some_count g sized = search (arith, full, positive, short, whole)

some_in : (word : ℕ) (o : Option Group) (ds : List ℤ) → AllSized o → differences_in word o ≡ Some ds → 0 < length ds
some_in word None ds all e = cc
some_in word (Some g) ds all e =
    let same : digits g.width word g.count ≡ ds = cc in
    let some : 0 < length (digits g.width word g.count) =
    rw (length-digits g.width word g.count) (some_count g (all g refl).kind) in
    rw same at some

pub some_of : (s : Scheme) (c word : ℕ) (ds : List ℤ) → eqb c 0 ≡ false → differences_of s c word ≡ Some ds
    → 0 < length ds
unfolding differences_of
some_of s c word ds other e = some_in word (group_of s c (word / 2 ^ 30)) ds (group_sized s c (word / 2 ^ 30))
    (rw other at e)

-- what is left after a step
pub stepped : (s : Scheme) (old : RemainingDifferences) (words after : List DataWord) (ready : List ℤ)
    (r : Option (Result ℤ BadWordAt)) → old.items ≡ items_of s words → IsStep s words r after ready
    → YieldsFirst (λ (left : RemainingDifferences). left.items) old r
    (record { items = map Ok ready ++ items_of s after; ready = ready; words = after })
stepped s old words after ready r e h = search (arith, no_items)

pub progressed : (s : Scheme) (old : RemainingDifferences) (words after : List DataWord) (ready : List ℤ)
    (r : Option (Result ℤ BadWordAt)) → old.items ≡ items_of s words → IsStep s words r after ready
    → MakesProgress (λ (left : RemainingDifferences). ⊤)
    (item_count (λ (left : RemainingDifferences). left.items)) old r
    (record { items = map Ok ready ++ items_of s after; ready = ready; words = after })
progressed s old words after ready None e h = record { on = λ _. tt; keeps = tt; rests = λ _. tt }
progressed s old words after ready (Some item) e h =
    let cut = ap length (stepped s old words after ready (Some item) e h) in
    record { on = λ _. (tt, tt, omega (arith, cut)); keeps = tt; rests = λ _. tt }
