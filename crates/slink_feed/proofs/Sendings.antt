-- What one session sends of a station is a slice of its pushed records.
use Rattle.std.proofs.Common.{◌≡◌, ℕ, ◌+◌, ◌-◌, ◌%◌, ◌^◌, ◌≤◌, inl, inr, suc, refl, sym, ap, subst, ◌∙◌}
use Rattle.std.proofs.Common.{arith, Bool, true, false, ◌==◌, if◌then◌else◌, List, [], ◌∷◌, ◌++◌, length}
use Rattle.std.proofs.Common.{take, take-append-drop, drop, Option, Some, None, slice_get}
use Rattle.std.proofs.lemmas.Bool.{eq-eqb}
use Rattle.std.proofs.lemmas.Bool.Decides.{eqb_tells}
use Rattle.std.proofs.lemmas.Option.{slice_get_within}
use Rattle.slink_wire.specs.Packet.{packet_bytes}
use Rattle.slink_wire.specs.declared.command.Command.{Command}
use Rattle.slink_wire.specs.declared.command.Command.TheVariants.{Bye}
use Rattle.slink_wire.specs.declared.lines.LineOutcome.{LineOutcome}
use Rattle.slink_wire.specs.declared.lines.LineOutcome.TheVariants.{More, Line, TooLong}
use Rattle.slink_wire.specs.declared.reply.Reply.{Reply}
use Rattle.slink_feed.specs.declared.grant.Grant.{Grant}
use Rattle.slink_feed.specs.declared.session.Phase.{Phase}
use Rattle.slink_feed.specs.declared.session.Phase.TheVariants.{Streaming}
use Rattle.slink_feed.specs.declared.session.Sent.{Sent}
use Rattle.slink_feed.specs.declared.session.Sent.TheVariants as Sents
use Rattle.slink_feed.specs.Serving.{IsAnswer}
use Rattle.slink_feed.specs.Session.{State, answered_in, grant_at, answer_streaming, sent}
use Rattle.slink_feed.specs.Sending.{AreCalled, AreShown, Called, IsReadFrom, IsSlice, packet_in, packets_from}
use Rattle.slink_feed.specs.Sending.{packets_of}
use Rattle.slink_feed.specs.Window.{Shows, Window, record_at}
use Rattle.slink_feed.proofs.Calls.{Sends, is_packet, on_sent, sends}
use Rattle.slink_feed.proofs.Items.{at_number, drop_at, number_from, put_there, wrote_here}
use Rattle.slink_feed.proofs.Prefixes.{get_left}
pub use Rattle.slink_feed.proofs.Calls.{IsOn}

-- the record of a number is the one that was pushed under it
shown_at : (w : Window) (first n p : ℕ) (pushed : List (List ℕ)) (x : List ℕ) → Shows w first (take n pushed)
    → record_at w p ≡ Some x → (first ≤ p) × (slice_get pushed (p - first) ≡ Some x)
shown_at w first n p pushed x shows read =
    let i : ℕ = p - first in
    let here : slice_get (take n pushed) i ≡ Some x = at_number w first (take n pushed) p x shows read in (
      number_from w first (take n pushed) p x shows read,
      subst (λ xs. slice_get xs i ≡ Some x) (take-append-drop n pushed)
          (get_left (take n pushed) (drop n pushed) i (slice_get_within (take n pushed) i x here) ∙ here),
    )

-- one packet more before a slice
slice_more : (first p : ℕ) (pushed packets : List (List ℕ)) (x : List ℕ) → first ≤ p
    → slice_get pushed (p - first) ≡ Some x → IsSlice first pushed (p + 1) packets
    → IsSlice first pushed p (packet_bytes (p % 2 ^ 24) x ∷ packets)
slice_more first p pushed packets x above here rest =
    let i : ℕ = p - first in
    let next : p + 1 - first ≡ i + 1 = omega (arith, above) in
    ap (λ ps. packet_bytes (p % 2 ^ 24) x ∷ ps) (rest
    ∙ ap (λ n. packets_from (p + 1) (take (length packets) (drop n pushed))) next)
    ∙ ap (λ xs. packets_from p (take (suc (length packets)) xs)) (sym (drop_at pushed i x here))

-- A call sends no packet of the station, whose grant stays; or the one at its position, which goes on.
pub data Stepped (k : ℕ) (feed : List Window) (place : ℕ) (t : State) (x : State × Sent) : Type 0 where
  quiet : (if place == k then packet_in x.1 else []) ≡ [] → grant_at x.0.grants k ≡ grant_at t.grants k
      → Stepped k feed place t x
  went : (g : Grant) (w : Window) (bytes : List ℕ) → place ≡ k
      → x.1 ≡ Sents.Packet (packet_bytes (g.position % 2 ^ 24) bytes) → grant_at t.grants k ≡ Some g
      → slice_get feed k ≡ Some w → record_at w g.position ≡ Some bytes
      → grant_at x.0.grants k ≡ Some (record { mode = g.mode; position = g.position + 1 }) → Stepped k feed place t x

none_either : (t : Bool) → ◌≡◌ {A = List (List ℕ)} (if t then [] else []) []
none_either true = refl
none_either false = refl

stepped_by : (k : ℕ) (feed : List Window) (place : ℕ) (t : State) (x : State × Sent) → Sends feed t place x
    → Stepped k feed place t x
stepped_by k feed place t x (is_packet g w bytes on granted here off read) =
    let next : Option Grant = Some (record { mode = g.mode; position = g.position + 1 }) in
    elim (eqb_tells place k) [
      | inl same ↦ went g w bytes same.1 refl (rw same.1 at granted) (rw same.1 at here) read
          (rw same.1 (wrote_here t.grants k next g (rw same.1 at granted)))
      | inr other ↦ quiet (rw other.0 refl) (put_there t.grants place k next None (λ e. other.1 (sym e)))
    ]
stepped_by k feed place t x sent = quiet (none_either (place == k)) refl

pub stepped : (k : ℕ) (feed : List Window) (place : ℕ) (t : State) → Stepped k feed place t (sent feed t place)
stepped k feed place t = stepped_by k feed place t (sent feed t place) (sends feed t place)

pub read_on : (s t : State) → IsReadFrom s t → IsOn s.phase → IsOn t.phase
read_on s t (inl same) on = rw same on
read_on s t (inr closed) on = inr (ap (λ (u : State). u.phase) closed)

pub read_grants : (s t : State) → IsReadFrom s t → t.grants ≡ s.grants
read_grants s t (inl same) = ap (λ (u : State). u.grants) same
read_grants s t (inr closed) = ap (λ (u : State). u.grants) closed

sent_more : (k first : ℕ) (pushed : List (List ℕ)) (a : Called) (packets : List (List ℕ)) (g : Grant) (w : Window)
    (n : ℕ) (bytes : List ℕ) → a.place ≡ k → a.answer ≡ Sents.Packet (packet_bytes (g.position % 2 ^ 24) bytes)
    → Shows w first (take n pushed) → record_at w g.position ≡ Some bytes
    → IsSlice first pushed (g.position + 1) packets
    → IsSlice first pushed g.position ((if a.place == k then packet_in a.answer else []) ++ packets)
sent_more k first pushed a packets g w n bytes same is shows read rest =
    let shown = shown_at w first n g.position pushed bytes shows read in
    rw (eq-eqb a.place k same, is) (slice_more first g.position pushed packets bytes shown.0 shown.1 rest)

pub slice_sent : (k first : ℕ) (pushed : List (List ℕ)) (more : List Called) (s : State) (g : Grant) → IsOn s.phase
    → grant_at s.grants k ≡ Some g → AreCalled s more → AreShown k first pushed more
    → IsSlice first pushed g.position (packets_of k more)
slice_sent k first pushed [] s g on at_k called shown = refl
slice_sent k first pushed (a ∷ more) s g on at_k called shown =
    let t : State = called.0 in
    let goes : IsOn (sent a.feed t a.place).0.phase = on_sent a.feed t a.place (read_on s t called.1 on) in
    let grant : grant_at t.grants k ≡ Some g = ap (λ gs. grant_at gs k) (read_grants s t called.1) ∙ at_k in
    elim (stepped k a.feed a.place t) [
      | quiet none stays ↦ rw (← called.2, none)
          (slice_sent k first pushed more (sent a.feed t a.place).0 g goes (stays ∙ grant) called.3 shown.1)
      | went h w bytes same is granted here read stays ↦
          let one : h ≡ g = (let both : Some h ≡ Some g = sym granted ∙ grant in cc both) in
          let ring : shown.0.0 ≡ w = (let both : Some shown.0.0 ≡ Some w = sym shown.0.2 ∙ here in cc both) in
          sent_more k first pushed a (packets_of k more) g w shown.0.1 bytes same (sym called.2 ∙ rw one at is)
          (rw ring at shown.0.3) (rw one at read)
          (slice_sent k first pushed more (sent a.feed t a.place).0
          (record { mode = g.mode; position = g.position + 1 }) goes (rw one at stays) called.3 shown.1)
    ]

-- what a line leaves of a session that streams
line_read : (s : State) (c : Command) → IsReadFrom s (answer_streaming s c).0
line_read s Bye = inr refl
line_read s command = inl refl

pub answer_read : (feed : List Window) (s new : State) (what : LineOutcome) (reply : Reply) → s.phase ≡ Streaming
    → IsAnswer feed s what new reply → IsReadFrom s new
answer_read feed s new More reply on is = inl is.0
answer_read feed s new (Line line) reply on is =
    subst (IsReadFrom s) (ap (λ (p : Phase). (answered_in p feed s is.0).0) (sym on)
    ∙ ap (λ (x : State × Reply). x.0) is.2) (line_read s is.0)
answer_read feed s new TooLong reply on is = inr (sym (ap (λ (x : State × Reply). x.0) is))
