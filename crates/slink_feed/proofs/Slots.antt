-- Slots of which none is empty, as the list of what stands in them.
use Rattle.std.proofs.Common.{◌≡◌, ℕ, ◌<◌, ◌∙◌, ap, refl, sym, arith, List, [], ◌∷◌, ◌++◌, length}
use Rattle.std.proofs.Common.{length-set, get_or, set, take_all, drop_of_length-le, append-nil, Option}
use Rattle.std.proofs.Common.{map, Some, None, option_map, slice_get}
use Rattle.std.specs.List.{refill}
use Rattle.slink_feed.specs.Rings.{AreFilled, filled_of}
use Rattle.slink_feed.proofs.Items.{map_got, one_value, within_is}
use Rattle.std.proofs.lemmas.List.{length-map, map-append, map-set}
use Rattle.std.proofs.lemmas.Option.{get_or_from_slice_get}

module _ {X : Type 0} where
  -- they are those of the list, and so are those of any list
  slots_of : (slots : List (Option X)) → AreFilled slots → slots ≡ map (λ x. Some x) (filled_of slots)
  slots_of [] filled = refl
  slots_of (None ∷ slots) filled = absurd filled
  slots_of (Some x ∷ slots) filled = ap (λ t. Some x ∷ t) (slots_of slots filled)

  of_slots : (xs : List X) → AreFilled (map (λ x. Some x) xs) × (filled_of (map (λ x. Some x) xs) ≡ xs)
  of_slots [] = (tt, refl)
  of_slots (x ∷ xs) = ((of_slots xs).0, ap (λ t. x ∷ t) (of_slots xs).1)

  pub filled_more : (slots : List (Option X)) (y : X) → AreFilled slots → AreFilled (slots ++ Some y ∷ [])
      × (filled_of (slots ++ Some y ∷ []) ≡ filled_of slots ++ y ∷ [])
  filled_more slots y filled =
      let all : slots ++ Some y ∷ [] ≡ map (λ x. Some x) (filled_of slots ++ y ∷ []) =
      ap (λ s. s ++ Some y ∷ []) (slots_of slots filled) ∙ sym (map-append (λ x. Some x) (filled_of slots) (y ∷ [])) in
      let each = of_slots (filled_of slots ++ y ∷ []) in
      (rw all each.0, ap filled_of all ∙ each.1)

  slots_are : (items slots : List (Option X)) (now : List X) → AreFilled items → filled_of items ≡ now → slots ≡ items
      → slots ≡ map (λ x. Some x) now
  slots_are items slots now filled view s = s ∙ (slots_of items filled ∙ ap (map (λ x. Some x)) view)

  pub same_length : (items : List (Option X)) (now : List X) → AreFilled items → filled_of items ≡ now
      → length now ≡ length items
  same_length items now filled view =
      sym (ap length (slots_are items items now filled view refl) ∙ length-map now (λ x. Some x))

  -- the slot that is read stands at its place in the list
  pub slot_at : (items slots : List (Option X)) (now : List X) (k : ℕ) (o : Option X) → AreFilled items
      → filled_of items ≡ now → slots ≡ items → o ≡ get_or slots k o → k < length now
      → (x : X) × (o ≡ Some x) × (slice_get now k ≡ Some x)
  slot_at items slots now k o filled view s read lt =
      let at : (x : X) × (slice_get now k ≡ Some x) = within_is now k lt in
      let here : slice_get slots k ≡ Some (Some at.0) = ap (λ xs. slice_get xs k)
      (slots_are items slots now filled view s) ∙ map_got (λ x. Some x) now k at.0 at.1 in
      (at.0, read ∙ get_or_from_slice_get slots k (Some at.0) o here, at.1)

  pub no_slot : (o : Option X) → ((x : X) × (o ≡ Some x)) → o ≡ None → ⊥
  no_slot o some none = let bad : Some some.0 ≡ None = sym some.1 ∙ none in cc bad

  refill_same : (items ws : List (Option X)) → length ws ≡ length items → refill (length items) items ws ≡ ws
  refill_same items ws e =
      rw (drop_of_length-le items {i = length ws} (omega (arith, e)), append-nil ws)
      (take_all (length items) ws (omega (arith, e)))

  -- one slot is written
  pub slot_written : (items slots : List (Option X)) (now : List X) (k : ℕ) (o new : Option X) (f : X → X)
      → AreFilled items → filled_of items ≡ now → slots ≡ items → o ≡ get_or slots k o → k < length now
      → new ≡ option_map f o
      → AreFilled (refill (length items) items (set slots k new))
      × ((x : X) → slice_get now k ≡ Some x
      → filled_of (refill (length items) items (set slots k new)) ≡ set now k (f x))
  slot_written items slots now k o new f filled view s read lt e =
      let at : (x : X) × (o ≡ Some x) × (slice_get now k ≡ Some x) =
      slot_at items slots now k o filled view s read lt in
      let all : refill (length items) items (set slots k new) ≡ map (λ x. Some x) (set now k (f at.0)) =
      (let ws : set slots k new ≡ map (λ x. Some x) (set now k (f at.0)) =
      ap (λ xs. set xs k new) (slots_are items slots now filled view s)
      ∙ (ap (set (map (λ x. Some x) now) k) (e ∙ ap (option_map f) at.1)
      ∙ sym (map-set (λ x. Some x) now k (f at.0))) in
      let long : length (set slots k new) ≡ length items = length-set slots k new ∙ ap length s in
      refill_same items (set slots k new) long ∙ ws) in
      let done = of_slots (set now k (f at.0)) in (
        rw all done.0,
        λ x here. ap filled_of all
            ∙ (done.1 ∙ ap (λ y. set now k (f y)) (one_value (slice_get now k) at.0 x at.2 here)),
      )
