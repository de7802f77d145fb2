-- What a session sends when a packet of a station is requested, and where it stands then.
use Rattle.std.proofs.Common.{◌≡◌, ◌≢◌, ℕ, ◌⊎◌, inl, inr, refl, sym, ◌∙◌, Bool, true, false, List, Option}
use Rattle.std.proofs.Common.{Some, None, slice_get}
use Rattle.std.proofs.lemmas.Bool.Decides.{eqb_tells}
use Rattle.slink_feed.specs.declared.grant.Grant.{Grant}
use Rattle.slink_feed.specs.declared.session.Phase.{Phase}
use Rattle.slink_feed.specs.declared.session.Phase.TheVariants.{Streaming, Closed}
use Rattle.slink_feed.specs.declared.session.Sent.{Sent}
use Rattle.slink_feed.specs.declared.session.Sent.TheVariants as sents
use Rattle.slink_feed.specs.Session.{IsAtNext, State, at_next, grant_at, has_sent_all, packet_at, sent, sent_in}
use Rattle.slink_feed.specs.Session.{sent_of}
use Rattle.slink_feed.specs.Window.{Window, record_at}

-- The station has no grant, or one at its ring's next record, and not all is sent that was granted.
abbrev pub HasToWait : List Window → State → ℕ → Type 0
HasToWait feed s k = (g : Grant) (w : Window) → grant_at s.grants k ≡ Some g → slice_get feed k ≡ Some w
    → (g.position ≡ w.next) × (has_sent_all feed s.grants ≡ false)

pub data Sends (feed : List Window) (s : State) (k : ℕ) : State × Sent → Type 0 where
  is_waiting : (s.phase ≡ Streaming → HasToWait feed s k) → Sends feed s k (s, sents.Wait)
  is_done : s.phase ≡ Streaming → has_sent_all feed s.grants ≡ true → Sends feed s k (at_next true s)
  is_overrun : (g : Grant) → s.phase ≡ Streaming → ¬ (IsAtNext feed s.grants k) → Sends feed s k (packet_at s k g None)
  is_packet : (g : Grant) (w : Window) (bytes : List ℕ) → s.phase ≡ Streaming → grant_at s.grants k ≡ Some g
      → slice_get feed k ≡ Some w → g.position ≢ w.next → record_at w g.position ≡ Some bytes
      → Sends feed s k (packet_at s k g (Some bytes))
  is_shut : s.phase ≡ Closed → Sends feed s k (s, sents.Closed)

pub is_next : (g h : Grant) (w v : Window) → Some g ≡ Some h → Some w ≡ Some v → g.position ≡ w.next
    → h.position ≡ v.next
is_next g h w v e f same = cc

module _ (feed : List Window) (s : State) (k : ℕ) where
  of_record : (g : Grant) (w : Window) → s.phase ≡ Streaming → grant_at s.grants k ≡ Some g
      → slice_get feed k ≡ Some w → g.position ≢ w.next → (o : Option (List ℕ)) → record_at w g.position ≡ o
      → Sends feed s k (packet_at s k g o)
  of_record g w on granted here off None read = is_overrun g on (λ next. off (next g w granted here))
  of_record g w on granted here off (Some bytes) read = is_packet g w bytes on granted here off read

  of_next : (g : Grant) (w : Window) → s.phase ≡ Streaming → grant_at s.grants k ≡ Some g
      → slice_get feed k ≡ Some w → g.position ≡ w.next → (t : Bool) → has_sent_all feed s.grants ≡ t
      → Sends feed s k (at_next t s)
  of_next g w on granted here same true done = is_done on done
  of_next g w on granted here same false unfinished = is_waiting (λ _ h v other there. (
    is_next g h w v (sym granted ∙ other) (sym here ∙ there) same,
    unfinished,
  ))

  of_grant : s.phase ≡ Streaming → (o : Option Grant) (r : Option Window) → grant_at s.grants k ≡ o
      → slice_get feed k ≡ r → Sends feed s k (sent_of feed s k o r)
  of_grant on None r granted here =
      is_waiting (λ _ g w other there. absurd (let bad : None ≡ Some g = sym granted ∙ other in cc bad))
  of_grant on (Some g) None granted here =
      is_waiting (λ _ h w other there. absurd (let bad : None ≡ Some w = sym here ∙ there in cc bad))
  of_grant on (Some g) (Some w) granted here = elim (eqb_tells g.position w.next) [
    | inl same ↦ rw same.0 (of_next g w on granted here same.1 (has_sent_all feed s.grants) refl)
    | inr other ↦ rw other.0 (of_record g w on granted here other.1 (record_at w g.position) refl)
  ]

  of_phase : (p : Phase) → s.phase ≡ p → Sends feed s k (sent_in p feed s k)
  of_phase Streaming on = of_grant on (grant_at s.grants k) (slice_get feed k) refl refl
  of_phase Closed shut = is_shut shut
  of_phase p before = is_waiting (λ on. absurd (let bad : p ≡ Streaming = sym before ∙ on in cc bad))

pub sends : (feed : List Window) (s : State) (k : ℕ) → Sends feed s k (sent feed s k)
sends feed s k = of_phase feed s k s.phase refl

-- A session that streams streams on, or is closed, once it was called.
abbrev pub IsOn : Phase → Type 0
IsOn phase = (phase ≡ Streaming) ⊎ (phase ≡ Closed)

on_by : (feed : List Window) (s : State) (k : ℕ) (x : State × Sent) → IsOn s.phase → Sends feed s k x → IsOn x.0.phase
on_by feed s k x on (is_waiting h) = on
on_by feed s k x on (is_packet g w bytes streams granted here off read) = on
on_by feed s k x on (is_shut shut) = on
on_by feed s k x on sent = inr refl

pub on_sent : (feed : List Window) (t : State) (place : ℕ) → IsOn t.phase → IsOn (sent feed t place).0.phase
on_sent feed t place on = on_by feed t place (sent feed t place) on (sends feed t place)

-- where it gives nothing, it stays as it is, and has to wait
idle_by : (feed : List Window) (s : State) (k : ℕ) (x : State × Sent) → Sends feed s k x → x.1 ≡ sents.Wait
    → (x.0 ≡ s) × (s.phase ≡ Streaming → HasToWait feed s k)
idle_by feed s k x (is_waiting h) e = (refl, h)
idle_by feed s k x sent e = absurd (cc e)

pub idle : (feed : List Window) (s : State) (k : ℕ) → (sent feed s k).1 ≡ sents.Wait
    → ((sent feed s k).0 ≡ s) × (s.phase ≡ Streaming → HasToWait feed s k)
idle feed s k e = idle_by feed s k (sent feed s k) (sends feed s k) e

-- a closed one gives nothing and stays
pub shut_sent : (feed : List Window) (s : State) (k : ℕ) → s.phase ≡ Closed → sent feed s k ≡ (s, sents.Closed)
shut_sent feed s k shut = rw shut refl
