use Rattle.std.proofs.Common.{◌≡◌, ◌≢◌, ◌∙◌, ℕ, List, ◌+◌, inr, refl, ap, sym, subst}
use Rattle.slink_wire.specs.Packet.{packet_bytes}
use Rattle.slink_feed.specs.Session.{State, sent}
use Rattle.slink_feed.specs.Window.{Window}
use Rattle.slink_feed.specs.declared.session.Sent.{Sent}
use Rattle.slink_feed.specs.declared.session.Sent.TheVariants.{Packet, Wait}
use Rattle.slink_live.specs.Served.{LinkState, link_state}
use Rattle.slink_live.specs.private.Calling.{Gives}
use Rattle.slink_live.proofs.link.Link.ask_at.Goals as goal

sends_not : (feed : List Window) (s t : State) (k : ℕ) (a : Sent) → sent feed s k ≡ (t, a) → a ≢ Wait
    → ¬ (sent feed s k ≡ (s, Wait))
sends_not feed s t k a is never e = never (ap (λ (x : State × Sent). x.1) (sym is ∙ e))

pub returns-in-Ok-clause-yes : goal.returns-in-Ok-clause-yes
returns-in-Ok-clause-yes c =
    let packet = packet_bytes c.in-Ok.number c.in-Ok.record.now in
    subst (λ (x : LinkState). Gives c.args.feed.now c.args.k x
    (link_state c.next_record.new.self (c.args.k + 1) c.queue_packet.new.self.bytes)) c.self.view_is (record {
      answer = Packet packet;
      sends = sends_not c.args.feed.now c.self.inside.session.state c.next_record.new.self.state c.args.k
          (Packet packet) c.in-Ok.ensures.sent (λ e. cc e);
      given = c.in-Ok.ensures.sent;
      held = c.in-Ok.ensures.held;
      ring = refl;
      pending = c.queue_packet.ensures.value;
      grows = inr c.queue_packet.ensures.size;
    })
