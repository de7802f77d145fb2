-- Where channels stand on a roster, and what is kept of them there.
use Rattle.std.proofs.Common.{◌≡◌, ℕ, zero, suc, ◌+◌, ◌<◌, ◌≤◌, List, [], ◌∷◌, ◌++◌, Bool, true, false, cond, length}
use Rattle.std.proofs.Common.{get_or, set, is_some, Option, Some, None, refl, ◌∙◌, arith, inl, inr}
use Rattle.std.proofs.Common.{append-nil, append_assoc, length-append}
use Rattle.std.specs.List.{All, slice_get}
use Rattle.std.specs.Map.{keys_of, lookup, set_value, values_of}
use Rattle.std.specs.Option.{option_map}
use Rattle.std.specs.Ordering.{nat_cmp}
use Rattle.std.specs.Cmp.Lexicographic.{slice_cmp}
use Rattle.std.specs.List.Sorted.{IsStrictlySortedBy}
use Rattle.std.proofs.lemmas.Bool.{cases_Bool}
use Rattle.std.proofs.lemmas.Option.{slice_get_read, slice_get-get_or}
use Rattle.std.proofs.lemmas.Map.{length-set_value}
use Rattle.mseed_audit.specs.declared.channel.Channel.{Channel}
use Rattle.mseed_audit.specs.Channels.{same_key}
use Rattle.mseed_audit.specs.Places.{ArePlaces, place_of, with_channel}
use Rattle.mseed_audit.proofs.Maps.{same_is}

abbrev pub Entries : Type 0
Entries = List (List ℕ × Channel)

module _ (test : List ℕ → Bool) where
  -- a key has a place where something is kept at it
  pub same_some : (es : Entries) → is_some (place_of test es) ≡ is_some (lookup test es)
  same_some [] = refl
  same_some (e ∷ es) = grind (arith, same_some es)

  pub none_there : (es : Entries) → place_of test es ≡ None → lookup test es ≡ None
  none_there es e = grind (arith, same_some es)

  pub no_place : (es : Entries) → lookup test es ≡ None → place_of test es ≡ None
  no_place es e = grind (arith, same_some es)

  -- what is kept at a place
  kept_at : (es : Entries) (i : ℕ) → place_of test es ≡ Some i
      → lookup test es ≡ option_map (λ (e : List ℕ × Channel). e.1) (slice_get es i)
  kept_at [] i e = absurd (cc e)
  kept_at (x ∷ es) i e = grind (arith, kept_at es)

  pub found_at : (es : Entries) (i : ℕ) (c : Channel) → place_of test es ≡ Some i
      → option_map (λ (e : List ℕ × Channel). e.1) (slice_get es i) ≡ Some c → lookup test es ≡ Some c
  found_at es i c place is = kept_at es i place ∙ is

  -- a place is one of as many as there are channels
  pub place_within : (es : Entries) (i : ℕ) → place_of test es ≡ Some i → i < length es
  place_within [] i e = absurd (cc e)
  place_within (x ∷ es) i e = grind (arith, place_within es)

  -- and each place stays
  pub places_stay : (other : List ℕ → Bool) (es : Entries) (v : Channel)
      → place_of test (set_value other es v) ≡ place_of test es
  places_stay other [] v = refl
  places_stay other (x ∷ es) v = grind (arith, places_stay other es v)

  -- what is kept of the channel at a place is what is kept at its key
  pub with_is : (es : Entries) (i : ℕ) (v : Channel) → place_of test es ≡ Some i
      → with_channel es i v ≡ set_value test es v
  with_is [] i v e = absurd (cc e)
  with_is (x ∷ es) i v e = grind (arith, λ (j : ℕ). with_is es j v)

  -- a new channel stands after the others
  pub place_after : (es : Entries) (x : List ℕ × Channel) → place_of test es ≡ None → test x.0 ≡ true
      → place_of test (es ++ x ∷ []) ≡ Some (length es)
  place_after [] x none hit = rw hit refl
  place_after (e ∷ es) x none hit = grind (arith, place_after es x)

  -- and no other channel moves
  pub places_before : (es : Entries) (x : List ℕ × Channel) → test x.0 ≡ false
      → place_of test (es ++ x ∷ []) ≡ place_of test es
  places_before [] x other = rw other refl
  places_before (e ∷ es) x other = rw (places_before es x other) refl

  pub kept_after : (es : Entries) (x : List ℕ × Channel) (more : Entries) → lookup test es ≡ None → test x.0 ≡ true
      → lookup test (es ++ x ∷ more) ≡ Some x.1
  kept_after [] x more none hit = rw hit refl
  kept_after (e ∷ es) x more none hit = grind (arith, kept_after es x more)

  pub kept_before : (es : Entries) (x : List ℕ × Channel) → test x.0 ≡ false
      → lookup test (es ++ x ∷ []) ≡ lookup test es
  kept_before [] x other = rw other refl
  kept_before (e ∷ es) x other = rw (kept_before es x other) refl

-- what is kept once there is a new channel
pub kept_more : (es : Entries) (code : List ℕ) (c : Channel) → lookup (same_key code) es ≡ None → (key : List ℕ)
    → lookup (same_key key) (es ++ (code, c) ∷ []) ≡ cond (same_key key code) (Some c) (lookup (same_key key) es)
kept_more es code c none key = elim (cases_Bool (same_key key code)) [
  | inl e ↦ rw e (kept_after (same_key key) es (code, c) [] (rw (same_is key code e) none) e)
  | inr e ↦ rw e (kept_before (same_key key) es (code, c) e)
]

-- what a function makes of the channels at these places
abbrev read_through : {X : Type 0} → (Channel → X) → List ℕ → Option (List ℕ × Channel) → List (List ℕ × X)
read_through f key None = []
read_through f key (Some e) = (key, f e.1) ∷ []

abbrev pub made_at : {X : Type 0} → (Channel → X) → Entries → List (List ℕ × ℕ) → List (List ℕ × X)
made_at f es [] = []
made_at f es (p ∷ ps) = read_through f p.0 (slice_get es p.1) ++ made_at f es ps

there : {X : Type 0} (xs : List X) (i : ℕ) → i < length xs → (x : X) × (slice_get xs i ≡ Some x)
there [] i l = absurd (omega (arith, l))
there (x ∷ xs) i l = (get_or (x ∷ xs) i x, slice_get-get_or (x ∷ xs) i x l)

abbrev there_at : {X : Type 0} → (Channel → X) → Entries → Option ℕ → Option X
there_at f es None = None
there_at f es (Some i) = option_map f (option_map (λ (e : List ℕ × Channel). e.1) (slice_get es i))

-- What is made of the channels at the first of some places stands in a list, and what is made at the rest is to be put
-- after it: there is room.
pub record IsMaking {X : Type 0} (f : Channel → X) (es : Entries) (first rest : List (List ℕ × ℕ))
    (made : List (List ℕ × X)) (room : ℕ) : Type 0 where
  pub all : made ++ made_at f es rest ≡ made_at f es first
  pub fits : length made + length rest ≤ room
  pub within : All (λ i. i < length es) (values_of rest)

-- what was made of all channels of a roster, ascending by their keys
pub record AreMade {X : Type 0} (f : Channel → X) (old : Entries) (made : List (List ℕ × X)) : Type 0 where
  pub ascending : IsStrictlySortedBy (slice_cmp nat_cmp) (keys_of made)
  pub each : (key : List ℕ) → lookup (same_key key) made ≡ option_map f (lookup (same_key key) old)

module _ {X : Type 0} (f : Channel → X) (es : Entries) where
  pub made_next : (key : List ℕ) (i : ℕ) (ps : List (List ℕ × ℕ)) (e : List ℕ × Channel) → i < length es
      → e ≡ get_or es i e → made_at f es ((key, i) ∷ ps) ≡ (key, f e.1) ∷ made_at f es ps
  made_next key i ps e l is = rw (slice_get_read es (length es) i e refl l is) refl

  -- it has the same keys
  made_keys : (ps : List (List ℕ × ℕ)) → All (λ i. i < length es) (values_of ps)
      → keys_of (made_at f es ps) ≡ keys_of ps
  made_keys [] all = refl
  made_keys (p ∷ ps) all =
      rw ((there es p.1 (all 0 0 (omega arith))).1, made_keys ps (λ k d l. all (suc k) d (omega (arith, l)))) refl

  -- what is made at a key
  made_found : (ps : List (List ℕ × ℕ)) (test : List ℕ → Bool) → All (λ i. i < length es) (values_of ps)
      → lookup test (made_at f es ps) ≡ there_at f es (lookup test ps)
  made_found [] test all = refl
  made_found (p ∷ ps) test all =
      let here = (there es p.1 (all 0 0 (omega arith))).1 in elim (cases_Bool (test p.0)) [
        | inl e ↦ rw (e, here, e) refl
        | inr e ↦ rw (e, here, e) (made_found ps test (λ k d l. all (suc k) d (omega (arith, l))))
      ]

  there_place : (test : List ℕ → Bool) (o : Option ℕ) → place_of test es ≡ o
      → there_at f es o ≡ option_map f (lookup test es)
  there_place test None e = rw (none_there test es e) refl
  there_place test (Some i) e = rw (kept_at test es i e) refl

  -- nothing is made yet
  pub making_begin : (old : Entries) (first places : List (List ℕ × ℕ)) (made : List (List ℕ × X)) (room : ℕ)
      → first ≡ places → ArePlaces places es → es ≡ old → made ≡ [] → length places ≤ room
      → IsMaking f old first first made room
  making_begin old first places made room is are same none fits =
      rw (is, ← same, none) (record { all = refl; fits = omega (arith, fits); within = are.within })

  -- one more is made
  pub making_more : (first : List (List ℕ × ℕ)) (key : List ℕ) (i : ℕ) (rest : List (List ℕ × ℕ))
      (e : List ℕ × Channel) (x : X) (made more : List (List ℕ × X)) (room now : ℕ)
      → IsMaking f es first ((key, i) ∷ rest) made room → e ≡ get_or es i e → x ≡ f e.1
      → more ≡ made ++ (key, x) ∷ [] → room ≤ now → IsMaking f es first rest more now
  making_more first key i rest e x made more room now before at is pushed fits = rw (pushed, is) (record {
    all = rw append_assoc (rw (made_next key i rest e (before.within 0 0 (omega arith)) at) at before.all);
    fits = omega (arith, fits, before.fits, length-append made ((key, f e.1) ∷ []));
    within = λ k d l. before.within (suc k) d (omega (arith, l));
  })

  -- no place is left
  pub all_made : (old : Entries) (first rest places : List (List ℕ × ℕ)) (made : List (List ℕ × X)) (room : ℕ)
      → IsMaking f es first rest made room → rest ≡ [] → first ≡ places → ArePlaces places es
      → IsStrictlySortedBy (slice_cmp nat_cmp) (keys_of places) → es ≡ old → AreMade f old made
  all_made old first rest places made room making none is are ascending same =
      let whole = rw (none, is, append-nil) at making.all in
      rw (whole, ← same) (record {
        ascending = rw (made_keys places are.within) ascending;
        each = λ key. rw (made_found places (same_key key) are.within, are.each key)
            (there_place (same_key key) (place_of (same_key key) es) refl);
      })

-- where it is kept already the list is what it was
pub with_itself : (es : Entries) (i : ℕ) (c : Channel)
    → option_map (λ (e : List ℕ × Channel). e.1) (slice_get es i) ≡ Some c → with_channel es i c ≡ es
with_itself [] i c at = refl
with_itself (e ∷ es) zero c at = let same : e.1 ≡ c = cc at in rw (← same) refl
with_itself (e ∷ es) (suc i) c at = rw (with_itself es i c at) refl

-- what is kept at a place becomes something else
pub set_is : (es : Entries) (i : ℕ) (d : List ℕ × Channel) (v : Channel)
    → set es i ((get_or es i d).0, v) ≡ with_channel es i v
set_is [] i d v = refl
set_is (e ∷ es) zero d v = refl
set_is (e ∷ es) (suc i) d v = rw (set_is es i d v) refl

-- and each place stays
pub places_set : (places : List (List ℕ × ℕ)) (test : List ℕ → Bool) (es : Entries) (v : Channel)
    → ArePlaces places es → ArePlaces places (set_value test es v)
places_set places test es v are = record {
  each = λ key. rw (places_stay (same_key key) test es v) (are.each key);
  within = rw (length-set_value test es v) are.within;
}
