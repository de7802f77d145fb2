-- Where no first record is reported, and the client doesn't go past holes, nothing is reported.
use Rattle.std.proofs.Common.{◌≡◌, ℕ, ◌+◌, ◌%◌, ◌^◌, inl, inr, refl, sym, ap, ◌∙◌, Bool}
use Rattle.std.proofs.Common.{false, List, [], ◌∷◌, set, slice_get, unwrap_or}
use Rattle.std.proofs.Common.{Option, Some, None, IfSome}
use Rattle.std.specs.Option.{option_and_then}
use Rattle.std.proofs.lemmas.Bool.Decides.{eqb_tells}
use Rattle.slink_wire.specs.Place.{Fields}
use Rattle.slink_feed.specs.declared.dialogue.Wanted.{Wanted}
use Rattle.slink_feed.specs.Delivered.{Numbered}
use Rattle.slink_feed.specs.Dialogue.{Wants, next_at, want_at, with_next}
use Rattle.slink_feed.specs.Holding.{GoBy}
use Rattle.slink_feed.specs.Reporter.{Reporting, first_lines, hole_lines, if_other, lines_of, reporting_of}
use Rattle.slink_feed.specs.Reporter.{reporting_past}
use Rattle.slink_feed.specs.Reported.{AreOf, HasReported, numbers_at}
use Rattle.slink_feed.proofs.Numbers.{place_some, next_here, next_other}
use Rattle.slink_feed.proofs.ReportedOver.{of_same, places_next}
use Rattle.slink_feed.proofs.Items.{none_but, set_or}
use Rattle.std.proofs.lemmas.Bool.{eq-eqb}

-- no first record is to be reported
abbrev AreQuiet : List Bool → Type 0
AreQuiet firsts = (k : ℕ) → unwrap_or (slice_get firsts k) false ≡ false

quiet_set : (firsts : List Bool) (j : ℕ) → AreQuiet firsts → AreQuiet (set firsts j false)
quiet_set firsts j quiet k = elim (set_or firsts j k false false) [ inl here ↦ here.1 | inr there ↦ there ∙ quiet k ]

-- no hole
same_number : (place : Fields) (want : Option ℕ) (n : ℕ) → IfSome want (λ x. n ≡ x) → if_other place want n ≡ []
same_number place None n is = refl
same_number place (Some want) n is = rw (eq-eqb n want is) refl

no_hole : (o : Option Wanted) (n : ℕ) → IfSome (option_and_then (λ (w : Wanted). w.next) o) (λ x. n ≡ x)
    → hole_lines o n ≡ []
no_hole None n is = refl
no_hole (Some w) n is = same_number w.place w.next n is

go_parts : (want : Option ℕ) (n : ℕ) (ns : List ℕ) (last : Option ℕ) → GoBy false want (n ∷ ns) last
    → IfSome want (λ x. n ≡ x) × GoBy false (Some ((n + 1) % 2 ^ 24)) ns last
go_parts None n ns last go = (tt, go)
go_parts (Some want) n ns last go = go

quiet_lines : (t : Reporting) (last : ℕ → Option ℕ) (rs : List Numbered) → AreQuiet t.firsts → AreOf t.wants rs
    → ((k : ℕ) → GoBy false (next_at t.wants k) (numbers_at k rs) (last k)) → lines_of t rs ≡ []
quiet_lines t last [] quiet of go = refl
quiet_lines t last (r ∷ rs) quiet of go =
    let p : ℕ = r.place in
    let m : ℕ = (r.number + 1) % 2 ^ 24 in
    let past : Reporting = reporting_past t p r.number in
    let wants : Wants = with_next t.wants p m in
    let some : (w : Wanted) × (want_at t.wants p ≡ Some w) = place_some t.wants r.bytes p of.1 in
    let parts = go_parts (next_at t.wants p) r.number (numbers_at p rs) (last p)
    (rw (eq-eqb p p refl) at (go p)) in
    let first : List (List ℕ) = first_lines (unwrap_or (slice_get t.firsts p) false) (want_at t.wants p) r.number in
    let unreported : first ≡ [] = ap (λ b. first_lines b (want_at t.wants p) r.number) (quiet p) in
    let next_p : next_at wants p ≡ Some m = next_here t.wants p m (want_at t.wants p) some.0 refl some.1 in
    let rest : lines_of past rs ≡ [] =
    quiet_lines past last rs (quiet_set t.firsts p quiet)
    (of_same wants t.wants rs (sym (places_next t.wants p m (want_at t.wants p) refl)) of.2)
    (λ k. elim (eqb_tells p k) [
      | inl same ↦ rw (← same.1, next_p) parts.1
      | inr other ↦ rw (next_other t.wants p k m (want_at t.wants p) other.1) (rw other.0 at (go k))
    ]) in
    rw (no_hole (want_at t.wants p) r.number parts.0, unreported) rest

pub nothing_reported : (old new : Wants) (rs : List Numbered) → HasReported false old new rs
    → lines_of (reporting_of old false) rs ≡ []
nothing_reported old new rs h =
    quiet_lines (reporting_of old false) (λ k. next_at new k) rs (λ k. none_but 16 k false) h.are_of h.go_on
