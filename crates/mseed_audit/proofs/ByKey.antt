-- Channels in the order of their keys.
use Rattle.std.proofs.Common.{◌≡◌, ◌∙◌, ◌<◌, ◌∷◌, [], ℕ, List, cond, Some, length}
use Rattle.std.proofs.Common.{◌+◌, refl, sym, ap, append-nil, arith}
use Rattle.std.proofs.lemmas.List.Elements.{All-from_recursion, All-nil, recursion_from_All}
use Rattle.std.proofs.lemmas.Map.Views.{All-keys-insert_entry}
use Rattle.std.specs.BTreeMap.{insert_entry}
use Rattle.std.specs.Cmp.Lexicographic.{slice_cmp}
use Rattle.std.specs.List.{AllByRecursion}
use Rattle.std.specs.List.Sorted.{IsStrictlySortedBy}
use Rattle.std.specs.Map.{keys_of, lookup}
use Rattle.std.specs.Ordering.{match_ordering, nat_cmp, ordering_reverse}
use Rattle.std.specs.declared.cmp.Ordering.{Ordering}
use Rattle.std.specs.declared.cmp.Ordering.TheVariants.{Less, Equal, Greater}
use Rattle.std.proofs.lemmas.Cmp.{nat_list_cmp_total}
use Rattle.std.proofs.lemmas.Iterator.Adapters.{option_map_id}
use Rattle.mseed_audit.specs.declared.channel.Channel.{Channel}
use Rattle.mseed_audit.specs.Channels.{same_key}
use Rattle.mseed_audit.specs.Places.{ArePlaced, by_key}
use Rattle.mseed_audit.proofs.Alike.{one_list}
use Rattle.mseed_audit.proofs.Maps.{same_is, same_itself}
use Rattle.std.proofs.lemmas.Map.Lookups.{exact_bytes}
use Rattle.mseed_audit.proofs.Rosters.{Entries, AreMade, all_made, made_at}

abbrev cmp : List ℕ → List ℕ → Ordering
cmp = slice_cmp nat_cmp

abbrev AreAbove : List ℕ → Entries → Type 0
AreAbove key es = AllByRecursion (λ k. cmp key k ≡ Less) (keys_of es)

abbrev pub IsAscending : Entries → Type 0
IsAscending es = IsStrictlySortedBy cmp (keys_of es)

-- ---- they ascend
all_above : (key x : List ℕ) (es : Entries) → cmp key x ≡ Less → AreAbove x es → AreAbove key es
all_above key x [] less all = tt
all_above key x (e ∷ es) less all =
    (nat_list_cmp_total.trans key x e.0 less all.0, all_above key x es less all.1)

pub insert_ascends : (key : List ℕ) (c : Channel) (es : Entries) → IsAscending es
    → IsAscending (insert_entry cmp es key c)
unfolding IsStrictlySortedBy
insert_ascends key c [] s = (tt, tt)
insert_ascends key c (e ∷ es) s =
    let more = insert_ascends key c es s.1 in
    let above : (k : List ℕ) → cmp k key ≡ Less → AreAbove k es → AreAbove k (insert_entry cmp es key c) =
    λ k less all. recursion_from_All (λ x. cmp k x ≡ Less) (keys_of (insert_entry cmp es key c)) (All-keys-insert_entry
    cmp key c (λ x. cmp k x ≡ Less) es (All-from_recursion (λ x. cmp k x ≡ Less) (keys_of es) all) less) in
    elim (cmp key e.0) as (λ o. cmp key e.0 ≡ o → IsAscending
    (match_ordering o ((key, c) ∷ e ∷ es) ((e.0, c) ∷ es) (e ∷ insert_entry cmp es key c))) [
      | Less ↦ λ is. ((is, all_above key e.0 es is s.0), s)
      | Equal ↦ λ is. s
      | Greater ↦ λ is. (above e.0 (nat_list_cmp_total.antisymm e.0 key ∙ ap ordering_reverse is) s.0, more)
    ] refl

pub by_key_ascends : (es : Entries) → IsAscending (by_key es)
unfolding IsStrictlySortedBy
by_key_ascends [] = tt
by_key_ascends (e ∷ es) = insert_ascends e.0 e.1 (by_key es) (by_key_ascends es)

-- ---- and are the same
-- what is at a key once another is entered
pub kept_insert : {X : Type 0} (key : List ℕ) (x : X) (es : List (List ℕ × X)) (other : List ℕ)
    → lookup (same_key other) (insert_entry cmp es key x)
    ≡ cond (same_key other key) (Some x) (lookup (same_key other) es)
kept_insert key x [] other = refl
kept_insert key x (e ∷ es) other =
    let more = kept_insert key x es other in
    grind (arith, more, exact_bytes key e.0, same_is other key, same_is other e.0, same_itself key)

pub kept_by_key : (es : Entries) (key : List ℕ) → lookup (same_key key) (by_key es) ≡ lookup (same_key key) es
kept_by_key [] key = refl
kept_by_key (e ∷ es) key =
    rw (kept_insert e.0 e.1 (by_key es) key, kept_by_key es key) refl

-- what is at each key what a list has there, and ascends, is the list by key
abbrev pub itself : Channel → Channel
itself c = c

pub made_by_key : (es made : Entries) → AreMade itself es made → made ≡ by_key es
made_by_key es made are = one_list made (by_key es) are.ascending (by_key_ascends es)
    (λ key. are.each key ∙ option_map_id (lookup (same_key key) es) ∙ sym (kept_by_key es key))

-- so is what is at the places of the channels, which ascend by their keys
pub placed_by_key : (places : List (List ℕ × ℕ)) (es : Entries) → ArePlaced places es
    → made_at itself es places ≡ by_key es
placed_by_key places es are =
    let made : Entries = made_at itself es places in
    made_by_key es made (all_made itself es es places [] places made (length made + 0) (record {
      all = append-nil made;
      fits = omega arith;
      within = All-nil (λ (i : ℕ). i < length es);
    }) refl refl are.places are.ascending refl)
