-- Where nothing is sent of any station.
use Rattle.std.proofs.Common.{◌≡◌, ◌≢◌, ℕ, ◌<◌, ◌⊎◌, ◌==◌, ◌∙◌, ap, inl, inr, refl}
use Rattle.std.proofs.Common.{length, sym, List, Option, Some, None, slice_get, false}
use Rattle.std.proofs.lemmas.Bool.Decides.{eqb_tells}
use Rattle.slink_feed.specs.declared.grant.Grant.{Grant}
use Rattle.slink_feed.specs.declared.session.Phase.{Phase}
use Rattle.slink_feed.specs.declared.session.Phase.TheVariants.{Chosen, Fresh, Granted, Streaming}
use Rattle.slink_feed.specs.declared.session.Phase.TheVariants as Phases
use Rattle.slink_feed.specs.declared.session.Sent.{Sent}
use Rattle.slink_feed.specs.declared.session.Sent.TheVariants.{Wait}
use Rattle.slink_feed.specs.Session.{Grants, IsAtNext, IsWaiting, State, has_sent_all, grant_at, has_sent}
use Rattle.slink_feed.specs.Session.{sent, sent_in}
use Rattle.slink_feed.specs.Window.{Window}
use Rattle.slink_feed.specs.Grant.{is_fetch}
use Rattle.slink_feed.proofs.Done.{not_done, some_at}
use Rattle.slink_feed.proofs.Calls.{Sends, idle, is_done, is_next, is_overrun, is_packet, is_shut, is_waiting, sends}
use Rattle.std.proofs.lemmas.Bool.{and_right, both_ways}

-- a station at its ring's next record, where not all are done
waits_by : (feed : List Window) (s : State) (k : ℕ) (x : State × Sent) → Sends feed s k x → s.phase ≡ Streaming
    → IsAtNext feed s.grants k → has_sent_all feed s.grants ≡ false → x ≡ (s, Wait)
waits_by feed s k x (is_waiting h) phase at unfinished = refl
waits_by feed s k x (is_done on done) phase at unfinished = absurd (both_ways _ unfinished done)
waits_by feed s k x (is_overrun g on off) phase at unfinished = absurd (off at)
waits_by feed s k x (is_packet g w bytes on granted here off read) phase at unfinished =
    absurd (off (at g w granted here))
waits_by feed s k x (is_shut shut) phase at unfinished =
    absurd (let bad : Streaming ≡ Phases.Closed = sym phase ∙ shut in cc bad)

-- where each station that has a grant is at its ring's next record, and not all are done
pub waits_all : (feed : List Window) (s : State) → s.phase ≡ Streaming
    → ((k : ℕ) → k < length feed → IsAtNext feed s.grants k) → has_sent_all feed s.grants ≡ false → IsWaiting feed s
waits_all feed s phase at unfinished k lt =
    waits_by feed s k (sent feed s k) (sends feed s k) phase (at k lt) unfinished

-- a station that something is sent of
pub sends_here : (feed : List Window) (s : State) (k : ℕ) → s.phase ≡ Streaming → k < length feed
    → ¬ (IsAtNext feed s.grants k) → sent feed s k ≢ (s, Wait)
sends_here feed s k phase lt off e =
    off (λ g w granted here. ((idle feed s k (ap (λ (x : State × Sent). x.1) e)).1 phase g w granted here).0)

open_at : (feed : List Window) (gs : Grants) (k : ℕ) (w : Window) (o : Option Grant) → grant_at gs k ≡ o
    → slice_get feed k ≡ Some w → ¬ (IsAtNext feed gs k) → has_sent w o ≡ false
open_at feed gs k w None granted here off =
    absurd (off (λ g v other there. absurd (let bad : None ≡ Some g = sym granted ∙ other in cc bad)))
open_at feed gs k w (Some g) granted here off = elim (eqb_tells g.position w.next) [
  | inl same ↦ absurd (off (λ h v other there. is_next g h w v (sym granted ∙ other) (sym here ∙ there) same.1))
  | inr other ↦ and_right (is_fetch g.mode) (g.position == w.next) other.0
]

unfinished : (feed : List Window) (gs : Grants) (k : ℕ) → k < length feed → ¬ (IsAtNext feed gs k)
    → has_sent_all feed gs ≡ false
unfinished feed gs k lt off =
    let here = some_at feed k lt in
    not_done feed gs k here.0 _ here.1 refl (open_at feed gs k here.0 _ refl here.1 off)

-- While the next record of a station is due, or left its ring, nothing is sent of those at their rings' next records.
pub waits_beside : (feed : List Window) (s : State) (m k : ℕ) → s.phase ≡ Streaming → m < length feed
    → ¬ (IsAtNext feed s.grants m) → k < length feed → IsAtNext feed s.grants k → sent feed s k ≡ (s, Wait)
waits_beside feed s m k phase within off lt at =
    waits_by feed s k (sent feed s k) (sends feed s k) phase at (unfinished feed s.grants m within off)

-- A session that doesn't send records yet sends nothing, and one that does no more is closed.
quiet_in : (p : Phase) (feed : List Window) (s : State) → s.phase ≡ p → s.phase ≢ Streaming
    → IsWaiting feed s ⊎ (s.phase ≡ Phases.Closed)
quiet_in Phases.Streaming feed s is ne = absurd (ne is)
quiet_in Phases.Closed feed s is ne = inr is
quiet_in phase feed s is ne = inl (λ k lt. ap (λ (p : Phase). sent_in p feed s k) is)

pub quiet_or_closed : (feed : List Window) (s : State) → s.phase ≢ Streaming
    → IsWaiting feed s ⊎ (s.phase ≡ Phases.Closed)
quiet_or_closed feed s ne = quiet_in s.phase feed s refl ne

-- before records are sent
pub waits_before : (feed : List Window) (r s : State) → r ≡ s
    → (r.phase ≡ Fresh) ⊎ (((k : ℕ) × (r.phase ≡ Chosen k)) ⊎ ((k : ℕ) × (r.phase ≡ Granted k)))
    → (k : ℕ) → sent feed s k ≡ (s, Wait)
waits_before feed r s same (inl is) k = rw (← same, is) refl
waits_before feed r s same (inr (inl is)) k = rw (← same, is.1) refl
waits_before feed r s same (inr (inr is)) k = rw (← same, is.1) refl
