-- What a client does with what its link brings.
use Rattle.std.proofs.Common.{◌≡◌, ◌≢◌, ℕ, ◌+◌, ◌⊎◌, inl, inr, refl, subst, ◌∙◌, List}
use Rattle.std.proofs.Common.{[]}
use Rattle.std.proofs.Common.{Option, Some, None, IfSome}
use Rattle.std.proofs.lemmas.Bool.{cond_both}
use Rattle.slink_wire.specs.declared.request.Request.{Request}
use Rattle.slink_wire.specs.declared.request.Request.TheVariants as requests
use Rattle.slink_feed.specs.declared.dialogue.Answer.{Answer}
use Rattle.slink_feed.specs.declared.dialogue.Answer.TheVariants.{Granted, Refusal, Neither}
use Rattle.slink_feed.specs.declared.dialogue.Ending.{Ending}
use Rattle.slink_feed.specs.declared.dialogue.Ending.TheVariants as endings
use Rattle.slink_feed.specs.declared.dialogue.Event.{Event}
use Rattle.slink_feed.specs.declared.dialogue.Event.TheVariants as events
use Rattle.slink_feed.specs.declared.dialogue.Stage.{Stage}
use Rattle.slink_feed.specs.declared.dialogue.Stage.TheVariants.{Unlinked, Station, Number, Packets}
use Rattle.slink_feed.specs.declared.dialogue.Wanted.{Wanted}
use Rattle.slink_feed.specs.Dialogue.{Talk, Whole, Reply, Packet, End, Garbage, answer_of, at_packet, ended, event_of}
use Rattle.slink_feed.specs.Dialogue.{foreign_by, if_wanted, is_taken, next_at, numbered, place_of, read_at, reported}
use Rattle.slink_feed.specs.Dialogue.{requests_number, requests_place, sends_line, to_answer, to_place, want_at}
use Rattle.slink_feed.specs.Fetching.{line_written, record_reported}
use Rattle.slink_feed.specs.Holding.{IsNext, numbers_in}
use Rattle.slink_feed.specs.Listening.{IsLinked}
use Rattle.slink_feed.specs.Reported.{record_in}
use Rattle.slink_feed.proofs.Taken.{taken_next}

-- Nothing; a line; a record of a station, of the number that this wants, if any; or an end.
pub data Outcome (t : Talk) (stage : Stage) (w : Whole) : Talk × Event → Type 0 where
  unmoved : Outcome t stage w (t, events.None)
  says : (next : Stage) (request : Request) → IsLinked next → Outcome t stage w (sends_line t next request)
  reports : (k n : ℕ) (bytes : List ℕ) → stage ≡ Packets → w ≡ Packet n bytes → place_of t.wants bytes ≡ Some k
      → IfSome (next_at t.wants k) (λ want. IsNext t.holes want n) → Outcome t stage w (reported k n bytes t)
  ends : (ending : Ending) → Outcome t stage w (ended ending t)

module _ (t : Talk) (stage : Stage) (w : Whole) where
  of_place : (k : ℕ) (o : Option Wanted) → Outcome t stage w (to_place o k t)
  of_place k None = says Packets requests.End tt
  of_place k (Some v) = says (Station k) (requests.Station v.place) tt

  of_answer : (k : ℕ) (next : Talk × Event) (answer : Answer) → Outcome t stage w next
      → Outcome t stage w (to_answer answer k next t)
  of_answer k next Granted outcome = outcome
  of_answer k next Refusal outcome = ends (endings.Refused k)
  of_answer k next Neither outcome = ends (endings.Unanswered k)

  of_wanted : (k n : ℕ) (bytes : List ℕ) → stage ≡ Packets → w ≡ Packet n bytes → place_of t.wants bytes ≡ Some k
      → (o : Option ℕ) → next_at t.wants k ≡ o → Outcome t stage w (if_wanted o k n bytes t)
  of_wanted k n bytes at is bears None next = reports k n bytes at is bears (rw next tt)
  of_wanted k n bytes at is bears (Some want) next =
      cond_both (is_taken t.holes want n) (reported k n bytes t) (ended (endings.Gap k want n) t) (Outcome t stage w)
      (λ taken. reports k n bytes at is bears (rw next (taken_next t.holes want n taken)))
      (λ skipped. ends (endings.Gap k want n))

  of_packet : (n : ℕ) (bytes : List ℕ) → stage ≡ Packets → w ≡ Packet n bytes → (o : Option ℕ)
      → place_of t.wants bytes ≡ o → Outcome t stage w (at_packet o n bytes t)
  of_packet n bytes at is None bears = ends (foreign_by bytes)
  of_packet n bytes at is (Some k) bears = of_wanted k n bytes at is bears (next_at t.wants k) refl

pub outcome : (t : Talk) (stage : Stage) (w : Whole) → Outcome t stage w (read_at stage t w)
outcome t (Station k) (Reply line) = of_answer t (Station k) (Reply line) k (requests_number k t) (answer_of line)
    (says (Number k) (numbered t.mode (next_at t.wants k)) tt)
outcome t (Station k) Garbage = ends (endings.Unanswered k)
outcome t (Number k) (Reply line) = of_answer t (Number k) (Reply line) k (requests_place (k + 1) t) (answer_of line)
    (of_place t (Number k) (Reply line) (k + 1) (want_at t.wants (k + 1)))
outcome t (Number k) Garbage = ends (endings.Unanswered k)
outcome t Packets (Packet n bytes) =
    of_packet t Packets (Packet n bytes) n bytes refl refl (place_of t.wants bytes) refl
outcome t Packets End = ends endings.End
outcome t Packets Garbage = ends endings.Garbage
outcome t stage w = unmoved

-- An end says nothing, and reports no record.
pub ended_quietly : (ending : Ending) → (line_written (event_of ending) ≡ [])
    × (record_reported (event_of ending) ≡ []) × (record_in (event_of ending) ≡ [])
    × ((k : ℕ) → numbers_in k (event_of ending) ≡ [])
ended_quietly endings.End = (refl, refl, refl, λ k. refl)
ended_quietly ending = (refl, refl, refl, λ k. refl)

-- a client goes past holes as it did
pub kept_by : (t : Talk) (stage : Stage) (w : Whole) (x : Talk × Event) → Outcome t stage w x → x.0.holes ≡ t.holes
kept_by t stage w x unmoved = refl
kept_by t stage w x outcome = refl

pub kept_read : (t : Talk) (stage : Stage) (w : Whole) → (read_at stage t w).0.holes ≡ t.holes
kept_read t stage w = kept_by t stage w (read_at stage t w) (outcome t stage w)

-- A link is linked until it is at an end.
pub still_by : (t : Talk) (stage : Stage) (w : Whole) (x : Talk × Event) → t.stage ≢ Unlinked → Outcome t stage w x
    → x.0.stage ≢ Unlinked
still_by t stage w x linked (says next request on) = λ e. subst IsLinked e on
still_by t stage w x linked (ends ending) = λ e. cc e
still_by t stage w x linked outcome = linked

-- It is still linked where something is given that neither nothing nor an end gives.
pub on_by : (given : Event → List ℕ) → given events.None ≡ [] → ((e : Ending) → given (event_of e) ≡ []) → (t : Talk)
    (stage : Stage) (w : Whole) (x : Talk × Event) → t.stage ≡ stage → Outcome t stage w x
    → IsLinked x.0.stage ⊎ (given x.1 ≡ [])
on_by given none quiet t stage w x at unmoved = inr none
on_by given none quiet t stage w x at (says next request on) = inl on
on_by given none quiet t stage w x at (reports k n bytes packets is bears wanted) = inl (rw (at ∙ packets) tt)
on_by given none quiet t stage w x at (ends ending) = inr (quiet ending)
