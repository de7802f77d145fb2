-- What is kept of the channels of a part, by their keys.
use Rattle.std.proofs.Common.{◌≡◌, ◌∙◌, ◌<◌, ◌++◌, ◌∷◌, [], ℕ, suc, is_some, List, Bool, cond, Option, Some, None}
use Rattle.std.proofs.Common.{length, get_or, sym, ap, subst, arith}
use Rattle.std.specs.Cmp.Lexicographic.{slice_cmp}
use Rattle.std.specs.List.{All, slice_get}
use Rattle.std.specs.Map.{lookup, set_value, values_of}
use Rattle.std.specs.Option.{option_map}
use Rattle.std.specs.Ordering.{nat_cmp}
use Rattle.std.proofs.lemmas.List.{map-append}
use Rattle.std.proofs.lemmas.List.Elements.{All-nil, All-push}
use Rattle.std.proofs.lemmas.Map.{lookup-set_value}
use Rattle.std.proofs.lemmas.Map.Views.{All-values-insert_entry, All-values-set_value}
use Rattle.mseed_audit.specs.declared.channel.Channel.{Channel}
use Rattle.mseed_audit.specs.Channels.{same_key}
use Rattle.mseed_audit.specs.Places.{IsFoundAt, by_key, place_of, with_channel}
use Rattle.mseed_audit.proofs.ByKey.{itself, kept_by_key}
use Rattle.mseed_audit.proofs.Maps.{keys_alike, same_back, same_is}
use Rattle.mseed_audit.proofs.Rosters.{found_at, kept_more, made_at, made_next, with_is}
use Rattle.mseed_join.specs.Parts.{Held, IsWithin, AreWithin, kept_of}
use Rattle.mseed_join.proofs.Adding.{Entries, HasAt}
use Rattle.mseed_join.proofs.Turns.{InTurn}

-- a new channel is within the limits as the others are
pub within_push : (es : Entries) (code : List ℕ) (c : Channel) → AreWithin es → IsWithin c
    → AreWithin (es ++ (code, c) ∷ [])
within_push es code c all one =
    let values = map-append (λ (e : List ℕ × Channel). e.1) es ((code, c) ∷ []) in
    subst (λ (cs : List Channel). All (λ d. IsWithin d) cs) (sym values)
    (All-push (λ (d : Channel). IsWithin d) (values_of es) c all one)

-- and none passes them in the order of the keys
pub by_key_within : (es : Entries) → AreWithin es → AreWithin (by_key es)
by_key_within [] all = All-nil (λ (c : Channel). IsWithin c)
by_key_within (e ∷ es) all =
    All-values-insert_entry (slice_cmp nat_cmp) e.0 e.1 (λ (c : Channel). IsWithin c) (by_key es)
    (by_key_within es (λ k d l. all (suc k) d (omega (arith, l)))) (all 0 e.1 (omega arith))

-- ---- where the channel is there
module _ (es now : Entries) (code : List ℕ) (i : ℕ) (c : Channel) (f : IsFoundAt code i es now)
    (at : option_map (λ (e : List ℕ × Channel). e.1) (slice_get now i) ≡ Some c) where
  there : place_of (same_key code) now ≡ Some i
  there = ap (λ (fs : Entries). place_of (same_key code) fs) f.stays ∙ f.place

  found : lookup (same_key code) now ≡ Some c
  found = found_at (same_key code) now i c there at

  pub kept_there : Some c ≡ kept_of code (by_key es)
  kept_there = sym (kept_by_key es code ∙ ap (λ (fs : Entries). kept_of code fs) (sym f.stays) ∙ found)

  -- and becomes something else
  pub with_within : (after : Channel) → AreWithin es → IsWithin after → AreWithin (with_channel now i after)
  with_within after all one =
      subst (λ (fs : Entries). AreWithin fs) (sym (with_is (same_key code) now i after there))
      (All-values-set_value (same_key code) (λ (d : Channel). IsWithin d) now after
      (subst (λ (fs : Entries). AreWithin fs) (sym f.stays) all) one)

  found_set : (after : Channel) (key : List ℕ)
      → kept_of key (set_value (same_key code) now after) ≡ cond (same_key code key) (Some after) (kept_of key now)
  found_set after key =
      lookup-set_value keys_alike (same_key code)
      (λ x y t. ap (λ (k : List ℕ). same_key k y) (same_is code x t)) key after now
      (ap (λ (o : Option Channel). is_some o) found)

  pub has_with : (after : Channel) → HasAt (by_key es) code after (by_key (with_channel now i after))
  has_with after = λ key.
      kept_by_key (with_channel now i after) key
      ∙ ap (λ (fs : Entries). kept_of key fs) (with_is (same_key code) now i after there)
      ∙ found_set after key
      ∙ ap (λ (o : Option Channel). cond (same_key code key) (Some after) o)
      (ap (λ (fs : Entries). kept_of key fs) f.stays ∙ sym (kept_by_key es key))

-- ---- where it is new
pub none_kept : (es : Entries) (code : List ℕ) → kept_of code es ≡ None → kept_of code (by_key es) ≡ None
none_kept es code none = kept_by_key es code ∙ none

pub has_new : (es fs : Entries) (code : List ℕ) (c : Channel) → fs ≡ es ++ (code, c) ∷ [] → kept_of code es ≡ None
    → HasAt (by_key es) code c (by_key fs)
has_new es fs code c more none = λ key.
    kept_by_key fs key
    ∙ ap (λ (gs : Entries). kept_of key gs) more
    ∙ kept_more es code c none key
    ∙ ap (λ (b : Bool). cond b (Some c) (kept_of key es)) (same_back key code)
    ∙ ap (λ (o : Option Channel). cond (same_key code key) (Some c) o) (sym (kept_by_key es key))

-- ---- those of a further part, in turn
pub turns_next : (a b now : Held) (key : List ℕ) (i : ℕ) (ps : List (List ℕ × ℕ)) (es : Entries) (e : List ℕ × Channel)
    → InTurn a b now (made_at itself es ((key, i) ∷ ps)) → All (λ j. j < length es) (values_of ((key, i) ∷ ps))
    → e ≡ get_or es i e → InTurn a b now ((key, (get_or es i e).1) ∷ made_at itself es ps)
turns_next a b now key i ps es e turn within at =
    subst (λ (rest : Entries). InTurn a b now rest)
    (made_next itself es key i ps (get_or es i e) (within 0 0 (omega arith))
    (ap (λ (d : List ℕ × Channel). get_or es i d) at)) turn
