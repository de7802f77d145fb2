-- The station of a record that a client takes, and what is wanted of it next.
use Rattle.slink_model.proofs.Stations.{each_want, slot_is}
use Rattle.std.proofs.Common.{◌≡◌, ℕ, ◌+◌, ◌%◌, ◌^◌, ◌<◌, refl, sym, ap, subst, ◌∙◌, arith}
use Rattle.std.proofs.Common.{true, false, not, ◌==◌, List, ◌∷◌, length}
use Rattle.std.proofs.Common.{Option, Some, None, IfSome, option_map, slice_get, unwrap_or}
use Rattle.std.specs.List.{position_from}
use Rattle.std.specs.Option.{option_and_then}
use Rattle.std.proofs.lemmas.Iterator.Adapters.{position_from-zero}
use Rattle.slink_wire.specs.Place.{Bears, Fields}
use Rattle.slink_wire.proofs.Carrying.{carries_passes, one_place}
use Rattle.slink_wire.proofs.Cuts.{Lacks}
use Rattle.slink_feed.specs.declared.dialogue.Wanted.{Wanted}
use Rattle.slink_feed.specs.declared.grant.Grant.{Grant}
use Rattle.slink_feed.specs.Cutting.{LacksEnd}
use Rattle.slink_feed.specs.Dialogue.{Wants, place_of}
use Rattle.slink_feed.specs.Dialogue.{is_of_wanted}
use Rattle.slink_feed.specs.Dialogue.{want_at, with_next}
use Rattle.slink_model.specs.Ties.{Places}
use Rattle.slink_model.specs.World.{Differ}
use Rattle.std.proofs.lemmas.List.Sums.{AllPass-from_list_all}
use Rattle.std.proofs.lemmas.Option.{get_or_from_slice_get}
use Rattle.slink_model.proofs.Requested.{first_found}
use Rattle.slink_model.proofs.Shaking.{AreCalled, IsSuited, place_at, want_of}
use Rattle.slink_model.proofs.Taken.{matched_is}
use Rattle.std.proofs.lemmas.Bool.{false_from_ne_true}
use Rattle.std.proofs.lemmas.Option.{slice_get_within}

pub lacks_end : (bytes : List ℕ) → Lacks 10 bytes → LacksEnd bytes
lacks_end bytes lacks i cr lf =
    let passes = AllPass-from_list_all (λ b. not (b == 10)) bytes lacks (i + 1) 0
    (slice_get_within bytes (i + 1) 10 lf) in
    let bad : false ≡ true = sym (ap (λ b. not (b == 10)) (get_or_from_slice_get bytes (i + 1) 10 0 lf)) ∙ passes in
    cc bad

pub some_if : (o : Option ℕ) (n : ℕ) → ((m : ℕ) → o ≡ Some m → n ≡ m) → IfSome o (λ want. n ≡ want)
some_if None n h = tt
some_if (Some m) n h = h m refl

-- the record of the first packet on the way is the one that is wanted
pub suited_wanted : (want : Option ℕ) (o : Option Grant) (n : ℕ) (r : List ℕ) (rest : List (ℕ × List ℕ))
    → IsSuited want o ((n, r) ∷ rest) → (m : ℕ) → want ≡ Some m → n % 2 ^ 24 ≡ m
suited_wanted want None n r rest s m e = absurd (omega (arith, ap length s))
suited_wanted want (Some g) n r rest s m e = ap (λ x. x % 2 ^ 24) s.1.0 ∙ s.3 m e

-- the next one is wanted once it is reported
pub suited_next : (want : Option ℕ) (o : Option Grant) (n : ℕ) (r : List ℕ) (rest : List (ℕ × List ℕ))
    → IsSuited want o ((n, r) ∷ rest) → IsSuited (Some ((n % 2 ^ 24 + 1) % 2 ^ 24)) o rest
suited_next want None n r rest s = absurd (omega (arith, ap length s))
suited_next want (Some g) n r rest s = (
  s.0 + 1,
  s.1.1,
  omega (arith, s.2),
  λ m e. let same : (n % 2 ^ 24 + 1) % 2 ^ 24 ≡ m = cc e in omega (arith, same, s.1.0),
)

module _ (places : Places) (wants : Wants) (called : AreCalled places wants) where
  -- A record's station is found.
  pub place_found : Differ places → (k : ℕ) (p : Fields × Option ℕ) (r : List ℕ) → slice_get places k ≡ Some p
      → Bears r p.0 → (place_of wants r ≡ Some k) × (w : Wanted) × (want_at wants k ≡ Some w)
  place_found differ k p r here bears =
      let at_k = want_of places wants called k p here in
      let passes = carries_passes at_k.0.place r (subst (Bears r) at_k.2 bears) in
      let first : position_from (is_of_wanted r) 0 wants ≡ Some (0 + k) =
      first_found (is_of_wanted r) 0 k wants (Some at_k.0) (slot_is (slice_get wants k) at_k.0 at_k.1) passes
      (λ j y lt at_j. false_from_ne_true (is_of_wanted r y) (λ is.
      let v : (w : Wanted) × (y ≡ Some w) × Bears r w.place = matched_is r y is in
      let q = place_at places wants called j v.0 (ap (λ o. unwrap_or o None) at_j ∙ v.1) in
      let same : j ≡ k = differ j k q.0 p q.1 here (one_place r q.0.0 p.0 (subst (Bears r) q.2 v.2) bears) in
      omega (arith, lt, same))) in (
        position_from-zero (is_of_wanted r) wants ∙ (first ∙ ap (λ n. Some n) (let e : 0 + k ≡ k = omega arith in e)),
        at_k.0,
        at_k.1,
      )

  -- another number is wanted of a station
  pub called_next : (k x : ℕ) (w : Wanted) → want_at wants k ≡ Some w → x < 2 ^ 24
      → AreCalled places (with_next wants k x)
  called_next k x w is short = record {
    alike = each_want wants k x w (λ i o. option_map (λ (z : Wanted). z.place) o ≡ option_map
        (λ (p : Fields × Option ℕ). p.0) (slice_get places i)) is (rw is at (called.alike k)) (λ i ne. called.alike i);
    short = λ i n. each_want wants k x w (λ i o. option_and_then (λ (z : Wanted). z.next) o ≡ Some n → n < 2 ^ 24) is
        (λ both. let same : x ≡ n = cc both in omega (arith, same, short)) (λ i ne. called.short i n) i;
  }
