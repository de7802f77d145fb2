-- A client that says a line or reports a record goes on with its link.
use Rattle.std.proofs.Common.{◌≡◌, ◌≢◌, ℕ, ◌⊎◌, inr, refl, subst, List, []}
use Rattle.slink_feed.specs.declared.dialogue.Ending.{Ending}
use Rattle.slink_feed.specs.declared.dialogue.Event.{Event}
use Rattle.slink_feed.specs.declared.dialogue.Event.TheVariants as events
use Rattle.slink_feed.specs.declared.dialogue.Stage.TheVariants.{Unlinked}
use Rattle.slink_feed.specs.Dialogue.{Talk, event_of, heard, read}
use Rattle.slink_feed.specs.Listening.{Brings, IsLinked, Listening, begun, whole}
use Rattle.slink_feed.proofs.Outcomes.{on_by, outcome, still_by}

pub goes_on : (given : Event → List ℕ) → given events.None ≡ [] → ((e : Ending) → given (event_of e) ≡ [])
    → (talk : Talk) (bytes : List ℕ) (new : Listening) (event : Event) → Brings talk bytes new event
    → IsLinked new.talk.stage ⊎ (given event ≡ [])
goes_on given none quiet talk bytes new event (whole w is h kept) =
    rw h at (on_by given none quiet (heard w talk) talk.stage w (read talk w) refl
    (outcome (heard w talk) talk.stage w))
goes_on given none quiet talk bytes new event (begun is same nothing) = inr (rw nothing none)

pub still_linked : (talk : Talk) (bytes : List ℕ) (new : Listening) (event : Event) → Brings talk bytes new event
    → IsLinked talk.stage → new.talk.stage ≢ Unlinked
still_linked talk bytes new event (whole w is h kept) linked =
    rw h at (still_by (heard w talk) talk.stage w (read talk w) (λ e. subst IsLinked e linked)
    (outcome (heard w talk) talk.stage w))
still_linked talk bytes new event (begun is same nothing) linked = rw same (λ e. subst IsLinked e linked)
