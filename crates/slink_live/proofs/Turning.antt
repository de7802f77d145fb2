-- Whose turn it is.
use Rattle.std.proofs.Common.{◌≡◌, ℕ, ◌≤◌, ◌<◌, arith, inl, inr, List, length}
use Rattle.slink_feed.specs.declared.session.Sent.TheVariants as Sents
use Rattle.slink_feed.specs.Session.{State, sent}
use Rattle.slink_feed.specs.Window.{Window}
use Rattle.slink_live.specs.Served.{LinkState}
use Rattle.slink_live.specs.History.{Asks, IsTurn, none_called, one_called}
use Rattle.slink_live.specs.private.Calling.{Gives}

-- nothing is sent of a station
abbrev pub Waits : List Window → State → ℕ → Type 0
Waits feed s j = sent feed s j ≡ (s, Sents.Wait)

-- from the station whose turn it is on
pub turn_then : (feed : List Window) (s : State) (ring k : ℕ) → ring ≤ k → k < length feed
    → ((j : ℕ) → ring ≤ j → j < k → Waits feed s j) → ¬ (Waits feed s k) → IsTurn feed s ring k
turn_then feed s ring k beyond lt waits sends = record {
  within = lt;
  sends = sends;
  first = λ j within earlier. waits j (grind arith) (grind arith);
}

-- before it, once all from it on wait
pub turn_before : (feed : List Window) (s : State) (ring k : ℕ) → k < ring → k < length feed
    → ((j : ℕ) → ring ≤ j → j < length feed → Waits feed s j) → ((j : ℕ) → j < k → Waits feed s j)
    → ¬ (Waits feed s k) → IsTurn feed s ring k
turn_before feed s ring k before lt beyond waits sends = record {
  within = lt;
  sends = sends;
  first = λ j within earlier. elim earlier [
    | inl wrong ↦ absurd (omega (arith, before, wrong.0, wrong.1))
    | inr (inl other) ↦ beyond j other.1 within
    | inr (inr side) ↦ waits j side.1
  ];
}

-- what the station whose turn it is gives
pub gives_asks : (feed : List Window) (old new : LinkState) (k : ℕ) → Gives feed k old new
    → IsTurn feed old.session.state old.ring k
    → Asks feed old.session old.ring old.pending new.session new.ring new.pending
gives_asks feed old new k g turn =
    rw g.ring (one_called old.session new.session old.ring k g.answer old.pending new.pending none_called turn g.given
    g.held g.pending)
