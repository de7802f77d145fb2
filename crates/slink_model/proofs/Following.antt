-- Stretches of the records of one station.
use Rattle.slink_feed.proofs.Items.{drop_at as from_record}
use Rattle.std.proofs.lemmas.List.{drop_at, length-take-le}
use Rattle.std.proofs.Common.{◌-◌, drop, take, take-append-drop}
use Rattle.std.proofs.Common.{◌≡◌, ℕ, ◌+◌, ◌-◌, ◌%◌, ◌^◌, ◌<◌, ◌≤◌, inl, inr, zero, suc, refl, sym, ap, subst, ◌∙◌}
use Rattle.std.proofs.Common.{arith, List, [], ◌∷◌, ◌++◌, append_assoc, length, length-append, Option, Some, None}
use Rattle.std.proofs.Common.{slice_get}
use Rattle.std.proofs.lemmas.Option.{slice_get_within}
use Rattle.std.proofs.lemmas.List.{length_push}
use Rattle.slink_feed.specs.declared.grant.Grant.{Grant}
use Rattle.slink_model.specs.Ties.{AreNext, Holds, IsNear, IsFirst, IsOnWay}
use Rattle.slink_model.specs.World.{or_else}

-- a number that ends alike and is near is the same
pub near_alike : (m n : ℕ) → m % 2 ^ 24 ≡ n % 2 ^ 24 → m < n + 2 ^ 24 → n < m + 2 ^ 24 → m ≡ n
near_alike m n e a b = omega arith

pub get_more : (xs ys : List (List ℕ)) (i : ℕ) (r : List ℕ) → slice_get xs i ≡ Some r → slice_get (xs ++ ys) i ≡ Some r
get_more [] ys i r h = absurd (let bad : None ≡ Some r = h in cc bad)
get_more (x ∷ xs) ys zero r h = h
get_more (x ∷ xs) ys (suc i) r h = get_more xs ys i r h

holds_as : (first n s : ℕ) (F held older back : List (List ℕ)) (r : List ℕ) → F ≡ older ++ (held ++ r ∷ back)
    → s ≡ first + length older → n ≡ s + length held
    → Holds first F (Some ((n + 1) % 2 ^ 24)) (held ++ r ∷ []) (Some s)
holds_as first n s F held older back r is begins here =
    let e : n + 1 ≡ s + length (held ++ r ∷ []) = omega (arith, here, length-append held (r ∷ [])) in
    (older, back, rw (append_assoc held (r ∷ []) back) is, begins, ap (λ m. Some (m % 2 ^ 24)) e)

-- another record is pushed
pub holds_pushed : (first : ℕ) (F : List (List ℕ)) (next : Option ℕ) (held : List (List ℕ)) (start : Option ℕ)
    (r : List ℕ) → Holds first F next held start → Holds first (F ++ r ∷ []) next held start
holds_pushed first F next held None r h = h
holds_pushed first F next held (Some s) r h = (
  h.0,
  h.1 ++ r ∷ [],
  ap (λ x. x ++ r ∷ []) h.2
      ∙ (append_assoc h.0 (held ++ h.1) (r ∷ []) ∙ ap (λ x. h.0 ++ x) (append_assoc held h.1 (r ∷ []))),
  h.3,
  h.4,
)

pub next_pushed : (first : ℕ) (F : List (List ℕ)) (r : List ℕ) (n : ℕ) (rest : List (ℕ × List ℕ))
    → AreNext first F n rest → AreNext first (F ++ r ∷ []) n rest
next_pushed first F r n [] a = tt
next_pushed first F r n (i ∷ is) a =
    (a.0, get_more F (r ∷ []) (n - first) i.1 a.1, next_pushed first F r (n + 1) is a.2)

pub way_pushed : (few : ℕ → Type 0) (first : ℕ) (F held : List (List ℕ)) (start sent : Option ℕ) (grant : Option Grant)
    (rest : List (ℕ × List ℕ)) (r : List ℕ)
    → IsOnWay few first F held start sent grant rest → IsOnWay few first (F ++ r ∷ []) held start sent grant rest
way_pushed few first F held start sent None rest r w = w
way_pushed few first F held start sent (Some g) rest r w = (w.0, w.1, next_pushed first F r w.0 rest w.2, w.3, w.4, w.5)

-- the record of the next number is sent
next_sent : (first : ℕ) (F : List (List ℕ)) (n p : ℕ) (rest : List (ℕ × List ℕ)) (r : List ℕ) → p ≡ n + length rest
    → slice_get F (p - first) ≡ Some r → AreNext first F n rest → AreNext first F n (rest ++ (p, r) ∷ [])
next_sent first F n p [] r e at a = let same : p ≡ n = omega (arith, e) in
    (same, subst (λ m. slice_get F (m - first) ≡ Some r) same at, tt)
next_sent first F n p (i ∷ is) r e at a = (a.0, a.1, next_sent first F (n + 1) p is r (omega (arith, e)) at a.2)

first_more : (start sent : Option ℕ) (n p : ℕ) (rest : List (ℕ × List ℕ)) (r : List ℕ) → p ≡ n + length rest
    → IsFirst start sent n rest → IsFirst start (or_else sent (Some p)) n (rest ++ (p, r) ∷ [])
first_more (Some s) sent n p rest r e f = tt
first_more None None n p rest r e f = omega (arith, e, ap length f)
first_more None (Some m) n p rest r e f = f

pub way_sent : (few : ℕ → Type 0) (first : ℕ) (F held : List (List ℕ)) (start sent : Option ℕ) (g h : Grant)
    (rest : List (ℕ × List ℕ)) (r : List ℕ) → h.position ≡ g.position + 1 → slice_get F (g.position - first) ≡ Some r
    → IsOnWay few first F held start sent (Some g) rest
    → IsOnWay few first F held start (or_else sent (Some g.position)) (Some h) (rest ++ (g.position, r) ∷ [])
way_sent few first F held start sent g h rest r e at w = (
  w.0,
  w.1,
  next_sent first F w.0 g.position rest r w.3 at w.2,
  omega (arith, e, w.3, length_push rest (g.position, r)),
  w.4,
  first_more start sent w.0 g.position rest r w.3 w.5,
)

-- With a packet on the way there is the number of the first one that was sent.
started_some : (start sent : Option ℕ) (n : ℕ) (i : ℕ × List ℕ) (rest : List (ℕ × List ℕ))
    → IsFirst start sent n (i ∷ rest) → or_else start sent ≡ None → ⊥
started_some (Some s) sent n i rest f e = let bad : Some s ≡ None = e in cc bad
started_some None None n i rest f e = omega (arith, ap length f)
started_some None (Some m) n i rest f e = let bad : Some m ≡ None = e in cc bad

pub way_started : (few : ℕ → Type 0) (first : ℕ) (F held : List (List ℕ)) (start sent : Option ℕ) (g : Grant)
    (i : ℕ × List ℕ) (rest : List (ℕ × List ℕ)) → IsOnWay few first F held start sent (Some g) (i ∷ rest)
    → or_else start sent ≡ None → ⊥
way_started few first F held start sent g i rest w e = started_some start sent w.0 i rest w.5 e

-- after the record that is held the next one comes
next_comes : (few : ℕ → Type 0) (first n s : ℕ) (F held : List (List ℕ)) (sent : Option ℕ) (g : Grant) (r : List ℕ)
    (rest : List (ℕ × List ℕ)) → first ≤ n → AreNext first F (n + 1) rest → g.position ≡ n + 1 + length rest
    → n ≡ s + length held → IsOnWay few first F (held ++ r ∷ []) (Some s) sent (Some g) rest
next_comes few first n s F held sent g r rest from more position here =
    let e : n + 1 ≡ s + length (held ++ r ∷ []) = omega (arith, here, length-append held (r ∷ [])) in
    (n + 1, omega (arith, from), more, position, inl e, tt)

comes : (first : ℕ) (F : List (List ℕ)) (next : Option ℕ) (held : List (List ℕ)) (start sent : Option ℕ) (g : Grant)
    (n : ℕ) (r : List ℕ) (rest : List (ℕ × List ℕ)) → first ≤ n → slice_get F (n - first) ≡ Some r
    → AreNext first F (n + 1) rest → g.position ≡ n + 1 + length rest
    → ((w : ℕ) → next ≡ Some w → n % 2 ^ 24 ≡ w) → Holds first F next held start
    → IsNear (λ x. first + length F < x + 2 ^ 24) n start (length held) → IsFirst start sent n ((n, r) ∷ rest)
    → Holds first F (Some ((n + 1) % 2 ^ 24)) (held ++ r ∷ []) (or_else start sent)
    × IsOnWay (λ x. first + length F < x + 2 ^ 24) first F (held ++ r ∷ []) (or_else start sent) sent (Some g) rest
comes first F next held None None g n r rest from at more position wanted h near begins =
    absurd (omega (arith, ap length begins))
comes first F next held None (Some m) g n r rest from at more position wanted h near begins =
    let i : ℕ = n - first in
    let lt : i < length F = slice_get_within F i r at in
    let here : n ≡ m + length held = omega (arith, begins, ap length h) in (
      holds_as first n m F held (take i F) (drop (i + 1) F) r
          (rw (h, ← (from_record F i r at)) (sym (take-append-drop i F)))
          (omega (arith, length-take-le i F (omega (arith, lt)), from, begins)) here,
      next_comes (λ x. first + length F < x + 2 ^ 24) first n m F held (Some m) g r rest from more position here,
    )
comes first F next held (Some s) sent g n r rest from at more position wanted h near begins =
    let i : ℕ = n - first in
    let lt : i < length F = slice_get_within F i r at in
    let here : n ≡ s + length held = elim near [
      | inl same ↦ same
      | inr far ↦ near_alike _ _ (wanted ((s + length held) % 2 ^ 24) h.4) (omega (arith, from, lt, far.1)) far.0
    ] in
    let before : length (h.0 ++ held) ≡ i = omega (arith, here, h.3, length-append h.0 held) in
    let later : h.1 ≡ r ∷ drop (i + 1) F = sym (drop_at (h.0 ++ held) h.1 i before)
    ∙ (ap (drop i) (append_assoc h.0 held h.1 ∙ sym h.2) ∙ from_record F i r at) in (
      holds_as first n s F held h.0 (drop (i + 1) F) r (rw (← later) h.2) h.3 here,
      next_comes (λ x. first + length F < x + 2 ^ 24) first n s F held sent g r rest from more position here,
    )

-- The record of a packet that comes, and that is wanted, is the one after the last one held.
pub delivered : (first : ℕ) (F : List (List ℕ)) (next : Option ℕ) (held : List (List ℕ)) (start sent : Option ℕ)
    (g : Grant) (n : ℕ) (r : List ℕ) (rest : List (ℕ × List ℕ))
    → ((w : ℕ) → next ≡ Some w → n % 2 ^ 24 ≡ w) → Holds first F next held start
    → IsOnWay (λ x. first + length F < x + 2 ^ 24) first F held start sent (Some g) ((n, r) ∷ rest)
    → Holds first F (Some ((n + 1) % 2 ^ 24)) (held ++ r ∷ []) (or_else start sent)
    × IsOnWay (λ x. first + length F < x + 2 ^ 24) first F (held ++ r ∷ []) (or_else start sent) sent (Some g) rest
delivered first F next held start sent g n r rest wanted h w =
    comes first F next held start sent g n r rest (omega (arith, w.1, w.2.0)) (rw w.2.0 w.2.1) (rw w.2.0 w.2.2)
    (omega (arith, w.3, w.2.0)) wanted h (rw w.2.0 w.4)
    (subst (λ m. IsFirst start sent m ((n, r) ∷ rest)) (sym w.2.0) w.5)

first_none : (start : Option ℕ) (n : ℕ) → IsFirst start None n []
first_none None n = refl
first_none (Some s) n = tt

-- a grant near the last one held
pub way_granted : (few : ℕ → Type 0) (first : ℕ) (F held : List (List ℕ)) (start sent : Option ℕ) (g : Grant)
    → first ≤ g.position → IsNear few g.position start (length held) → sent ≡ None
    → IsOnWay few first F held start sent (Some g) []
way_granted few first F held start sent g from near none = (
  g.position,
  from,
  tt,
  omega arith,
  near,
  subst (λ o. IsFirst start o g.position []) (sym none) (first_none start g.position),
)

-- where other records may be lacking
near_as : (few more : ℕ → Type 0) (n : ℕ) (start : Option ℕ) (count : ℕ)
    → ((s : ℕ) → start ≡ Some s → more (s + count)) → IsNear few n start count → IsNear more n start count
near_as few more n None count on near = tt
near_as few more n (Some s) count on near = elim near [ inl same ↦ inl same | inr far ↦ inr (far.0, on s refl) ]

pub way_as : (few more : ℕ → Type 0) (first : ℕ) (F held : List (List ℕ)) (start sent : Option ℕ)
    (grant : Option Grant) (rest : List (ℕ × List ℕ))
    → ((s : ℕ) → start ≡ Some s → more (s + length held))
    → IsOnWay few first F held start sent grant rest → IsOnWay more first F held start sent grant rest
way_as few more first F held start sent None rest on w = w
way_as few more first F held start sent (Some g) rest on w =
    (w.0, w.1, w.2, w.3, near_as few more w.0 start (length held) on w.4, w.5)
