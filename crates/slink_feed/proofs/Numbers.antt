-- The numbers of the records that a client reports a station go up one by one.
use Rattle.std.proofs.Common.{◌≡◌, ◌≢◌, ℕ, ◌+◌, ◌%◌, ◌^◌, inl, inr, refl, sym, ap, ◌∙◌, arith, Bool}
use Rattle.std.proofs.Common.{true, false, if◌then◌else◌, List, [], ◌∷◌, length, Option, Some, ◌++◌}
use Rattle.std.proofs.Common.{None, IfSome, ◌-◌, ◌<◌, ◌≤◌, ◌==◌, map, nat_lt}
use Rattle.std.specs.List.{position_or_len}
use Rattle.std.proofs.lemmas.Bool.{ltb-true}
use Rattle.std.proofs.lemmas.Bool.Decides.{eqb_tells}
use Rattle.std.proofs.lemmas.Option.{cond_some, unwrap_or-slice_get}
use Rattle.std.proofs.lemmas.List.Sums.{passes_at_first}
use Rattle.std.specs.Option.{option_and_then}
use Rattle.slink_feed.specs.declared.dialogue.Event.{Event}
use Rattle.slink_feed.specs.declared.dialogue.Stage.{Stage}
use Rattle.slink_feed.specs.declared.dialogue.Wanted.{Wanted}
use Rattle.slink_feed.specs.Dialogue.{Talk, Wants, Whole, place_of}
use Rattle.slink_feed.specs.Dialogue.{ahead_of, read_at, is_of_wanted, next_at}
use Rattle.slink_feed.specs.Dialogue.{next_set, to_place}
use Rattle.slink_feed.specs.Dialogue.{heard, reported, want_at, with_next}
use Rattle.slink_feed.specs.Holding.{Arrival, AreRising, GoBy, IsNext, Rise, arrived, brings, connects, numbers_in}
use Rattle.slink_feed.specs.Holding.{numbers_of, talk_past}
use Rattle.slink_feed.proofs.Items.{put_there, wrote_here}
use Rattle.slink_feed.proofs.Outcomes.{Outcome, ended_quietly, ends, kept_read, outcome, reports}

pub next_here : (wants : Wants) (k n : ℕ) (o : Option Wanted) (w : Wanted) → want_at wants k ≡ o → o ≡ Some w
    → next_at (next_set o wants k n) k ≡ Some n
next_here wants k n None w at is = absurd (let bad : None ≡ Some w = is in cc bad)
next_here wants k n (Some v) w at is =
    ap (option_and_then (λ (x : Wanted). x.next))
    (wrote_here wants k (Some (record { place = v.place; next = Some n })) v at)

pub next_other : (wants : Wants) (j k n : ℕ) (o : Option Wanted) → j ≢ k
    → next_at (next_set o wants j n) k ≡ next_at wants k
next_other wants j k n None other = refl
next_other wants j k n (Some v) other =
    ap (option_and_then (λ (x : Wanted). x.next))
    (put_there wants j k (Some (record { place = v.place; next = Some n })) None (λ e. other (sym e)))

-- the first station that a record is of is one of the stations
matched_some : (bytes : List ℕ) (o : Option Wanted) → is_of_wanted bytes o ≡ true → (w : Wanted) × (o ≡ Some w)
matched_some bytes None h = absurd (let bad : false ≡ true = h in cc bad)
matched_some bytes (Some w) h = (w, refl)

pub place_some : (wants : Wants) (bytes : List ℕ) (j : ℕ) → place_of wants bytes ≡ Some j
    → (w : Wanted) × (want_at wants j ≡ Some w)
place_some wants bytes j h =
    let first : ℕ = position_or_len (is_of_wanted bytes) wants in
    let at = cond_some (nat_lt first (length wants)) first j h in
    matched_some bytes (want_at wants j) (rw (unwrap_or-slice_get wants j None, ← at.1)
    (passes_at_first (is_of_wanted bytes) wants None (ltb-true first (length wants) at.0)))

pub kept_place : (j : ℕ) (t : Talk) (o : Option Wanted) → (to_place o j t).0.holes ≡ t.holes
kept_place j t None = refl
kept_place j t (Some w) = refl

pub go_on_more : (holes : Bool) (want last : Option ℕ) (n : ℕ) (ns : List ℕ) → IfSome want (λ x. IsNext holes x n)
    → GoBy holes (Some ((n + 1) % 2 ^ 24)) ns last → GoBy holes want (n ∷ ns) last
go_on_more holes None last n ns is rest = rest
go_on_more holes (Some want) last n ns is rest = (is, rest)

pub go_both : (holes : Bool) (want now last : Option ℕ) (some more : List ℕ) → GoBy holes want some now
    → GoBy holes now more last → GoBy holes want (some ++ more) last
go_both holes want now last [] more on too = rw on at too
go_both holes None now last (n ∷ ns) more on too = go_both holes (Some ((n + 1) % 2 ^ 24)) now last ns more on too
go_both holes (Some want) now last (n ∷ ns) more on too =
    (on.0, go_both holes (Some ((n + 1) % 2 ^ 24)) now last ns more on.1 too)

-- Each number is taken where one is wanted, over a step, and over one after another.
step_reported : (k j n : ℕ) (bytes : List ℕ) (t : Talk) (w : Wanted) → want_at t.wants j ≡ Some w
    → IfSome (next_at t.wants j) (λ want. IsNext t.holes want n)
    → GoBy t.holes (next_at t.wants k) (if j == k then n ∷ [] else []) (next_at (reported j n bytes t).0.wants k)
step_reported k j n bytes t w at wanted =
    let m : ℕ = (n + 1) % 2 ^ 24 in
    elim (eqb_tells j k) [
      | inl same ↦ rw (same.0, same.1) (go_on_more t.holes (next_at t.wants k) (next_at (with_next t.wants k m) k) n []
          (rw same.1 at wanted) (next_here t.wants k m (want_at t.wants k) w refl (rw same.1 at at)))
      | inr other ↦ rw other.0 (next_other t.wants j k m (want_at t.wants j) other.1)
    ]

pub step_by : (k : ℕ) (t : Talk) (stage : Stage) (w : Whole) (x : Talk × Event) → Outcome t stage w x
    → GoBy t.holes (next_at t.wants k) (numbers_in k x.1) (next_at x.0.wants k)
step_by k t stage w x (reports j n bytes at is bears wanted) =
    let some = place_some t.wants bytes j bears in step_reported k j n bytes t some.0 some.1 wanted
step_by k t stage w x (ends ending) = rw ((ended_quietly ending).3 k) refl
step_by k t stage w x outcome = refl

step_place : (k j : ℕ) (t : Talk) (o : Option Wanted)
    → GoBy t.holes (next_at t.wants k) (numbers_in k (to_place o j t).1) (next_at (to_place o j t).0.wants k)
step_place k j t None = refl
step_place k j t (Some w) = refl

step_arrival : (k : ℕ) (t : Talk) (a : Arrival)
    → GoBy t.holes (next_at t.wants k) (numbers_in k (arrived t a).1) (next_at (arrived t a).0.wants k)
step_arrival k t connects = step_place k 0 t (want_at t.wants 0)
step_arrival k t (brings w) =
    step_by k (heard w t) t.stage w (read_at t.stage (heard w t) w) (outcome (heard w t) t.stage w)

kept_arrival : (t : Talk) (a : Arrival) → (arrived t a).0.holes ≡ t.holes
kept_arrival t connects = kept_place 0 t (want_at t.wants 0)
kept_arrival t (brings w) = kept_read (heard w t) t.stage w

pub numbers_go_on : (k : ℕ) (t : Talk) (arrivals : List Arrival)
    → GoBy t.holes (next_at t.wants k) (numbers_of k t arrivals) (next_at (talk_past t arrivals).wants k)
numbers_go_on k t [] = refl
numbers_go_on k t (a ∷ more) =
    let u : Talk = (arrived t a).0 in
    go_both t.holes (next_at t.wants k) (next_at u.wants k) (next_at (talk_past u more).wants k)
    (numbers_in k (arrived t a).1) (numbers_of k u more) (step_arrival k t a)
    (rw (kept_arrival t a) at (numbers_go_on k u more))

-- The numbers are those of positions that go up.
pub record Risen (position : ℕ) (numbers : List ℕ) : Type 0 where
  pub positions : List ℕ
  pub numbers_are : map (λ p. p % 2 ^ 24) positions ≡ map (λ n. n % 2 ^ 24) numbers
  pub rise : Rise position positions

-- where the position of a number stands
step_of : (holes : Bool) (want n position : ℕ) → want < 2 ^ 24 → position % 2 ^ 24 ≡ want → IsNext holes want n
    → (p : ℕ) × (position ≤ p) × (p < position + 2 ^ 23) × (p % 2 ^ 24 ≡ n % 2 ^ 24)
step_of false want n position short at is = (position, omega arith, omega arith, omega (arith, at, is))
step_of true want n position short at is = elim is [
  | inl same ↦ (position, omega arith, omega arith, omega (arith, at, same))
  | inr ahead ↦
      let d : ℕ = ahead_of want n in
      let far : d ≡ (n + 2 ^ 24 - want) % 2 ^ 24 = refl in
      (position + d, omega arith, omega (arith, ahead.1), omega (arith, at, far, short))
]

risen_more : (position n p : ℕ) (ns : List ℕ) → position ≤ p → p < position + 2 ^ 23 → p % 2 ^ 24 ≡ n % 2 ^ 24
    → Risen (p + 1) ns → Risen position (n ∷ ns)
risen_more position n p ns above near same rest = record {
  positions = p ∷ rest.positions;
  numbers_are = ap (λ m. m ∷ map (λ p. p % 2 ^ 24) rest.positions) same
      ∙ ap (λ ms. n % 2 ^ 24 ∷ ms) rest.numbers_are;
  rise = (above, near, rest.rise);
}

risen : (holes : Bool) (want position : ℕ) (ns : List ℕ) (last : Option ℕ) → want < 2 ^ 24
    → position % 2 ^ 24 ≡ want → GoBy holes (Some want) ns last → Risen position ns
risen holes want position [] last short at go = record { positions = []; numbers_are = refl; rise = tt }
risen holes want position (n ∷ ns) last short at go =
    let step = step_of holes want n position short at go.0 in
    risen_more position n step.0 ns step.1 step.2 step.3
    (risen holes ((n + 1) % 2 ^ 24) (step.0 + 1) ns last (omega arith) (omega (arith, step.3)) go.1)

rising : (want : Option ℕ) (first : ℕ) (ns : List ℕ) → IfSome want (λ n. first ≡ n) → Risen first ns → AreRising want ns
rising want first ns wanted all = record {
  first = first;
  positions = all.positions;
  wanted = wanted;
  numbers_are = all.numbers_are;
  rise = all.rise;
}

pub are_rising : (holes : Bool) (want : Option ℕ) (ns : List ℕ) (last : Option ℕ) → IfSome want (λ n. n < 2 ^ 24)
    → GoBy holes want ns last → AreRising want ns
are_rising holes None [] last short go = rising None 0 [] tt (record { positions = []; numbers_are = refl; rise = tt })
are_rising holes None (n ∷ ns) last short go =
    rising None n (n ∷ ns) tt (risen_more n n n ns (omega arith) (omega arith) refl
    (risen holes ((n + 1) % 2 ^ 24) (n + 1) ns last (omega arith) refl go))
are_rising holes (Some want) ns last short go =
    rising (Some want) want ns refl (risen holes want want ns last short (omega (arith, short)) go)
