-- What a session sends when a packet of a station is requested.
use Rattle.std.proofs.Common.{◌≡◌, ℕ, ◌==◌, refl, Bool, true, false, if◌then◌else◌, List, Option, Some, None, slice_get}
use Rattle.slink_feed.specs.declared.grant.Grant.{Grant}
use Rattle.slink_feed.specs.declared.session.Phase.{Phase}
use Rattle.slink_feed.specs.declared.session.Phase.TheVariants.{Streaming, Closed}
use Rattle.slink_feed.specs.declared.session.Sent.{Sent}
use Rattle.slink_feed.specs.declared.session.Sent.TheVariants as sents
use Rattle.slink_feed.specs.Session.{State, has_sent_all, at, at_next, grant_at, packet_at, sent, sent_in, sent_of}
use Rattle.slink_feed.specs.Window.{Window, record_at}

-- It waits or is closed; while it streams, it sends a packet or the end, or the record is gone.
module _ (feed : List Window) (s : State) (k : ℕ) (Q : State × Sent → Type 0) (wait : Q (s, sents.Wait))
    (closed : Q (s, sents.Closed)) (overrun : s.phase ≡ Streaming → Q (at Closed s.grants, sents.Overrun))
    (done : s.phase ≡ Streaming → Q (at Closed s.grants, sents.Done))
    (packet : (g : Grant) (w : Window) (r : List ℕ) → s.phase ≡ Streaming → grant_at s.grants k ≡ Some g
    → slice_get feed k ≡ Some w → record_at w g.position ≡ Some r → Q (packet_at s k g (Some r))) where
  at_ring : (g : Grant) (w : Window) (o : Option (List ℕ)) → s.phase ≡ Streaming → grant_at s.grants k ≡ Some g
      → slice_get feed k ≡ Some w → record_at w g.position ≡ o → Q (packet_at s k g o)
  at_ring g w None phase grant here is = overrun phase
  at_ring g w (Some r) phase grant here is = packet g w r phase grant here is

  at_end : (t : Bool) → s.phase ≡ Streaming → Q (at_next t s)
  at_end true phase = done phase
  at_end false phase = wait

  choice : (t : Bool) (x y : State × Sent) → Q x → Q y → Q (if t then x else y)
  choice true x y p q = p
  choice false x y p q = q

  in_stream : (o : Option Grant) (ring : Option Window) → s.phase ≡ Streaming → grant_at s.grants k ≡ o
      → slice_get feed k ≡ ring → Q (sent_of feed s k o ring)
  in_stream None ring phase grant here = wait
  in_stream (Some g) None phase grant here = wait
  in_stream (Some g) (Some w) phase grant here =
      choice (g.position == w.next) (at_next (has_sent_all feed s.grants) s) (packet_at s k g (record_at w g.position))
      (at_end (has_sent_all feed s.grants) phase) (at_ring g w (record_at w g.position) phase grant here refl)

  in_phase : (phase : Phase) → s.phase ≡ phase → Q (sent_in phase feed s k)
  in_phase Streaming is = in_stream (grant_at s.grants k) (slice_get feed k) is refl refl
  in_phase Closed is = closed
  in_phase phase is = wait

  pub by_sent : Q (sent feed s k)
  by_sent = in_phase s.phase refl
