-- Channels in a list, and where each of them stands.
use Rattle.std.proofs.Common.{◌≡◌, ◌∙◌, ◌+◌, ◌<◌, ◌++◌, ◌∷◌, [], ℕ, suc, List, cond, Option, Some, None, length}
use Rattle.std.proofs.Common.{get_or, set, refl, sym, arith, zero, Bool, true, false, inl, inr}
use Rattle.std.proofs.lemmas.Bool.{cases_Bool}
use Rattle.std.specs.BTreeMap.{insert_entry}
use Rattle.std.specs.Cmp.Lexicographic.{slice_cmp}
use Rattle.std.specs.List.{All, slice_get}
use Rattle.std.specs.List.Sorted.{IsStrictlySortedBy}
use Rattle.std.specs.Map.{keys_of, lookup, set_value, values_of}
use Rattle.std.specs.Ordering.{nat_cmp}
use Rattle.std.proofs.lemmas.List.{length-append}
use Rattle.std.proofs.lemmas.Map.{length-set_value}
use Rattle.std.proofs.lemmas.Map.Views.{All-values-insert_entry}
use Rattle.std.proofs.lemmas.Option.{slice_get_read}
use Rattle.mseed_audit.specs.declared.channel.Channel.{Channel}
use Rattle.mseed_audit.specs.Channels.{same_key}
use Rattle.mseed_audit.specs.Places.{ArePlaced, place_of, with_channel, AreApart}
use Rattle.mseed_audit.specs.private.ChannelState.{IsMissed}
use Rattle.mseed_audit.proofs.ByKey.{kept_insert}
use Rattle.mseed_audit.proofs.Maps.{same_back, same_is, same_itself}
use Rattle.mseed_audit.proofs.Rosters.{Entries, no_place, place_after, places_set, places_stay, set_is as set_at}
use Rattle.mseed_audit.proofs.Rosters.{with_is, places_before}
use Rattle.std.specs.Option.{option_map}

-- ---- no two channels have the same key
-- where a channel stands, its key has its place
pub apart_place : (es : List (List ℕ × Channel)) (i : ℕ) (x : List ℕ × Channel) → AreApart es
    → slice_get es i ≡ Some x → place_of (same_key x.0) es ≡ Some i
apart_place [] i x apart at = absurd (cc at)
apart_place (e ∷ es) zero x apart at = let same : e ≡ x = cc at in rw (same, same_itself x.0) refl
apart_place (e ∷ es) (suc j) x apart at =
    let there = apart_place es j x apart.1 at in
    let other : same_key x.0 e.0 ≡ true → x.0 ≡ e.0 = same_is x.0 e.0 in
    grind (arith, there, other, apart.0)

-- what is kept at a key becomes something else
pub apart_set : (test : List ℕ → Bool) (es : List (List ℕ × Channel)) (v : Channel) → AreApart es
    → AreApart (set_value test es v)
apart_set test [] v apart = tt
apart_set test (x ∷ es) v apart =
    elim (test x.0) as (λ b. AreApart (cond b ((x.0, v) ∷ es) (x ∷ set_value test es v))) [
      | true ↦ apart
      | false ↦ (rw (places_stay (same_key x.0) test es v) apart.0, apart_set test es v apart.1)
    ]

missed : (b : Bool) (o : Option ℕ) → cond b (Some 0) (option_map suc o) ≡ None → (b ≡ false) × (o ≡ None)
missed b o none = search arith

-- a new channel stands after the others
pub apart_push : (es : List (List ℕ × Channel)) (x : List ℕ × Channel) → AreApart es
    → place_of (same_key x.0) es ≡ None → AreApart (es ++ x ∷ [])
apart_push [] x apart none = (refl, tt)
apart_push (e ∷ es) x apart none =
    let both = missed (same_key x.0 e.0) (place_of (same_key x.0) es) none in
    (places_before (same_key e.0) es x (same_back e.0 x.0 ∙ both.0) ∙ apart.0, apart_push es x apart.1 both.1)

-- ---- something else is kept of a channel
module _ (es : Entries) (i : ℕ) (e : List ℕ × Channel) (within : i < length es) (at : e ≡ get_or es i e) where
  pub there : slice_get es i ≡ Some e
  there = slice_get_read es (length es) i e refl within at

  module _ (ps : List (List ℕ × ℕ)) (are : ArePlaced ps es) (after : Channel) where
    place : place_of (same_key e.0) es ≡ Some i
    place = apart_place es i e are.apart there

    pub set_is : set es i (e.0, after) ≡ with_channel es i after
    set_is = rw at (set_at es i e after)

    same : set es i (e.0, after) ≡ set_value (same_key e.0) es after
    same = set_is ∙ with_is (same_key e.0) es i after place

    pub set_placed : ArePlaced ps (set es i (e.0, after))
    set_placed = rw same (record {
      places = places_set ps (same_key e.0) es after are.places;
      apart = apart_set (same_key e.0) es after are.apart;
      ascending = are.ascending;
      many = are.many ∙ sym (length-set_value (same_key e.0) es after);
    })

    pub set_missed : (missed : Option (List ℕ)) → IsMissed missed es → IsMissed missed (set es i (e.0, after))
    set_missed None is = tt
    set_missed (Some key) is = rw same (places_stay (same_key key) (same_key e.0) es after ∙ is)

-- ---- a new channel after the others
abbrev Places : Type 0
Places = List (List ℕ × ℕ)

longer : (key : List ℕ) (i : ℕ) (ps : Places) → lookup (same_key key) ps ≡ None
    → length (insert_entry (slice_cmp nat_cmp) ps key i) ≡ suc (length ps)
longer key i [] none = refl
longer key i (e ∷ ps) none = grind (arith, longer key i ps)

pub placed_push : (ps more : Places) (es fs : Entries) (key : List ℕ) (c : Channel) → ArePlaced ps es
    → fs ≡ es ++ (key, c) ∷ [] → lookup (same_key key) es ≡ None
    → more ≡ insert_entry (slice_cmp nat_cmp) ps key (length es)
    → IsStrictlySortedBy (slice_cmp nat_cmp) (keys_of more) → ArePlaced more fs
placed_push ps more es fs key c are entered none is ascending =
    let size : length (es ++ (key, c) ∷ []) ≡ length es + 1 = length-append es ((key, c) ∷ []) in
    let below : All (λ i. i < length es + 1) (values_of ps) =
    λ k d l. omega (arith, are.places.within k d l) in
    let absent = no_place (same_key key) es none in
    let each : (other : List ℕ) → lookup (same_key other) more ≡ place_of (same_key other) (es ++ (key, c) ∷ []) =
    λ other. rw (is, kept_insert key (length es) ps other) (elim (cases_Bool (same_key other key)) [
      | inl e ↦ rw e (sym (place_after (same_key other) es (key, c) (rw (same_is other key e) absent) e))
      | inr e ↦ rw (e, are.places.each other) (sym (places_before (same_key other) es (key, c) e))
    ]) in
    rw entered (record {
      places = record {
        each = each;
        within = rw (size, is) (All-values-insert_entry (slice_cmp nat_cmp) key (length es) (λ i. i < length es + 1) ps
            below (omega arith));
      };
      apart = apart_push es (key, c) are.apart absent;
      ascending = ascending;
      many = rw is (omega (arith, longer key (length es) ps (are.places.each key ∙ absent), are.many, size));
    })
