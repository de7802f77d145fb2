-- How what happened goes on by one event.
use Rattle.std.proofs.Common.{◌≡◌, ◌≢◌, ℕ, ◌+◌, List, [], ◌∷◌, ◌++◌, length, refl}
use Rattle.std.proofs.Common.{Ok}
use Rattle.slink_feed.specs.Window.{Window}
use Rattle.slink_live.specs.declared.ready.Event.{Event}
use Rattle.slink_live.specs.declared.ready.Event.TheVariants as events
use Rattle.slink_live.specs.Awake.{IsAwake}
use Rattle.slink_live.specs.Happening.{Happening, Next}
use Rattle.slink_live.specs.Served.{IsFinished, IsServing, IsSound, ServerState}
use Rattle.slink_live.specs.Turns.{IsCalled, Stands, Turns}
use Rattle.slink_live.specs.Turns.{no_turn, one_turn}
use Rattle.slink_live.specs.private.Keeping.{KeepsAwake, KeepsServing}
use Rattle.slink_live.proofs.Updating.{awake_same, awake_then, said_awake}
use Rattle.slink_live.proofs.Slots.{keeps_both, keeps_one, keeps_same}

-- What the turns of a server come to, but for what is answered.
pub record HasCome (s t : ServerState) (first log : List Happening) : Type 0 where
  pub keeps : KeepsServing s t first log
  pub awakens : KeepsAwake s t first log

-- What holds between the turns, after so many of them.
pub record HasServed (s t : ServerState) (first log : List Happening) (n : ℕ) : Type 0 where
  pub come : HasCome s t first log
  pub turns : (start : List Window) → IsServing start s first → IsAwake s first
      → Turns start (length s.links) first n log

pub served_first : {s : ServerState} {log : List Happening} → IsSound s → HasServed s s log log 0
served_first sound = record {
  come = record { keeps = keeps_same sound; awakens = awake_same };
  turns = λ start v a. no_turn;
}

-- a step more
pub come_on : {s t u : ServerState} {first log last : List Happening} → HasCome s t first log
    → KeepsServing t u log last → KeepsAwake t u log last → HasCome s u first last
come_on so_far keeps awakens = record {
  keeps = keeps_both so_far.keeps.carries keeps;
  awakens = awake_then so_far.keeps.carries.serving so_far.awakens.awake so_far.awakens.closed (λ a. awakens);
}

module _ {s t : ServerState} {first log : List Happening} {n : ℕ} (so_far : HasServed s t first log n) where
  pub stands : (start : List Window) → IsServing start s first → IsAwake s first → Stands start (length s.links) t log
  stands start v a = record {
    serving = so_far.come.keeps.carries.serving start v;
    awake = so_far.come.awakens.awake a;
    slots_are = so_far.come.keeps.carries.slots;
  }

  -- the device said what can be done next
  pub handled_come : (e : Event) {now : List Happening} → now ≡ log ++ Next e ∷ [] → HasCome s t first now
  handled_come e is = rw is (come_on so_far.come (keeps_one (Next e) refl (λ k. refl) so_far.come.keeps.sound)
      (said_awake t log (Next e) (λ k w. refl) (λ b. refl) (λ w. w) (λ start. tt)))

  -- and it was done
  module _ {last : List Happening} (e : Event) (going : ¬ (IsFinished t)) where
    pub served_on : {u : ServerState} → HasCome s u first last → e ≢ events.Nothing
        → IsCalled e t (log ++ Next e ∷ []) last (Ok tt) → HasServed s u first last (n + 1)
    served_on come some called = record {
      come = come;
      turns = λ start v a. one_turn n log last t e (so_far.turns start v a) (stands start v a) going some called;
    }
