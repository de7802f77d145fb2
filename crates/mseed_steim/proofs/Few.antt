-- How many differences words have: seven each at the most.
use Rattle.mseed_steim.specs.private.Items.{Items}
use Rattle.std.proofs.Common.{◌+◌, ◌*◌, ◌/◌, ◌^◌, ◌≤◌, List, [], ◌∷◌, length, ℤ, arith, refl, length-append, eqb}
use Rattle.std.proofs.Common.{Option, Some, None}
use Rattle.std.proofs.lemmas.Bool.{cond_both}
use Rattle.std.proofs.lemmas.List.{length-map}
use Rattle.mseed_steim.specs.declared.scheme.Scheme.{Scheme}
use Rattle.mseed_steim.specs.Groups.{Group, group_of}
use Rattle.mseed_steim.specs.private.Digits.{differences_in, differences_of}
use Rattle.mseed_steim.specs.Frames.{DataWord}
use Rattle.mseed_steim.specs.private.Items.{with_items, items_of}
use Rattle.mseed_steim.proofs.Table.{AllSized, group_sized}
use Rattle.mseed_steim.proofs.Spelled.{length-digits}

few_in : (w : DataWord) (o : Option Group) (more : Items) → AllSized o
    → length (with_items w (differences_in w.bits o) more) ≤ 7 + length more
few_in w None more sized = omega arith
few_in w (Some g) more sized =
    let few : g.count ≤ 7 = (sized g refl).few in
    simp (length-append, length-map, length-digits) (omega arith)

few_items : (s : Scheme) (w : DataWord) (more : Items)
    → length (with_items w (differences_of s w.code w.bits) more) ≤ 7 + length more
unfolding differences_of
few_items s w more = cond_both (eqb w.code 0) (Some []) (differences_in w.bits (group_of s w.code (w.bits / 2 ^ 30)))
    (λ (o : Option (List ℤ)). length (with_items w o more) ≤ 7 + length more)
    (λ _. omega arith)
    (λ _. few_in w (group_of s w.code (w.bits / 2 ^ 30)) more (group_sized s w.code (w.bits / 2 ^ 30)))

pub few_of : (s : Scheme) (ws : List DataWord) → length (items_of s ws) ≤ 7 * length ws
unfolding items_of
few_of s [] = omega arith
few_of s (w ∷ ws) = let later = few_of s ws in omega (arith, later, few_items s w (items_of s ws))
