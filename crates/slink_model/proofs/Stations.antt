-- What holds of each station once a packet of one of them is sent or read.
use Rattle.std.proofs.Common.{◌≡◌, ◌≢◌, ℕ, ◌+◌, ◌<◌, inl, inr, sym, ap, subst, List, [], ◌∷◌}
use Rattle.std.proofs.Common.{◌++◌, length, set, Option, Some, None, slice_get, unwrap_or}
use Rattle.std.specs.Option.{option_and_then}
use Rattle.std.proofs.lemmas.Option.{slice_get_within}
use Rattle.slink_feed.specs.declared.dialogue.Wanted.{Wanted}
use Rattle.slink_feed.specs.declared.grant.Grant.{Grant}
use Rattle.slink_feed.specs.Dialogue.{Wants, next_at, next_set, want_at, with_next}
use Rattle.slink_feed.specs.Session.{State, grant_at, packet_at}
use Rattle.slink_feed.proofs.Items.{put_here, put_there, same_or_not}
use Rattle.slink_model.specs.Ties.{Item, Carried, of_place}
use Rattle.slink_model.proofs.Items.{carried_here, carried_there, carries_none, of_more}

module _ {X : Type 0} where
  -- what stands at an index, where something may
  pub slot_is : (o : Option (Option X)) (x : X) → unwrap_or o None ≡ Some x → o ≡ Some (Some x)
  slot_is None x h = absurd (let bad : None ≡ Some x = h in cc bad)
  slot_is (Some y) x h = ap (λ z. Some z) h

  pub slot_within : (xs : List (Option X)) (k : ℕ) (x : X) → unwrap_or (slice_get xs k) None ≡ Some x → k < length xs
  slot_within xs k x h = slice_get_within xs k (Some x) (slot_is (slice_get xs k) x h)

-- once the packet at the position of a grant was sent
pub each_sent : (s : State) (k : ℕ) (g : Grant) (r : List ℕ) (items : List Item)
    (Q : ℕ → Option Grant → List (ℕ × List ℕ) → Type 0) → grant_at s.grants k ≡ Some g
    → Q k (Some (record { mode = g.mode; position = g.position + 1 })) (of_place k items ++ (g.position, r) ∷ [])
    → ((i : ℕ) → i ≢ k → Q i (grant_at s.grants i) (of_place i items)) → (i : ℕ)
    → Q i (grant_at (packet_at s k g (Some r)).0.grants i) (of_place i (items ++ Carried k g.position r ∷ []))
each_sent s k g r items Q grant here there i =
    let h : Grant = record { mode = g.mode; position = g.position + 1 } in
    let item : List Item = Carried k g.position r ∷ [] in
    elim (same_or_not i k) [
      | inl e ↦ rw (e, put_here s.grants k (Some h) None (slot_within s.grants k g grant), of_more k items item)
          (rw (carried_here k g.position r) here)
      | inr ne ↦ rw (put_there s.grants k i (Some h) None ne) (rw (carries_none i items item
          (ap (λ b. b ++ []) (carried_there k i g.position r (λ e. ne (sym e))))) (there i ne))
    ]

-- once another number is wanted of a station
pub each_want : (wants : Wants) (k x : ℕ) (w : Wanted) (Q : ℕ → Option Wanted → Type 0) → want_at wants k ≡ Some w
    → Q k (Some (record { place = w.place; next = Some x })) → ((i : ℕ) → i ≢ k → Q i (want_at wants i)) → (i : ℕ)
    → Q i (want_at (with_next wants k x) i)
each_want wants k x w Q is here there i =
    let v : Wanted = record { place = w.place; next = Some x } in
    let becomes : with_next wants k x ≡ set wants k (Some v) = ap (λ (o : Option Wanted). next_set o wants k x) is in
    subst (λ (ws : Wants). Q i (want_at ws i)) (sym becomes) (elim (same_or_not i k) [
      | inl e ↦ subst (λ y. Q y (want_at (set wants k (Some v)) y)) (sym e)
          (subst (Q k) (sym (put_here wants k (Some v) None (slot_within wants k w is))) here)
      | inr ne ↦ subst (Q i) (sym (put_there wants k i (Some v) None ne)) (there i ne)
    ])

-- so it is once the first packet on the way was read
pub each_read : (wants : Wants) (k x n : ℕ) (r : List ℕ) (rest : List Item) (w : Wanted)
    (Q : ℕ → Option ℕ → List (ℕ × List ℕ) → Type 0) → want_at wants k ≡ Some w → Q k (Some x) (of_place k rest)
    → ((i : ℕ) → i ≢ k → Q i (next_at wants i) (of_place i (Carried k n r ∷ rest))) → (i : ℕ)
    → Q i (next_at (with_next wants k x) i) (of_place i rest)
each_read wants k x n r rest w Q is here there =
    each_want wants k x w (λ i o. Q i (option_and_then (λ (z : Wanted). z.next) o) (of_place i rest)) is here
    (λ i ne. subst (Q i (next_at wants i)) (ap (λ b. b ++ of_place i rest) (carried_there k i n r (λ q. ne (sym q))))
    (there i ne))
