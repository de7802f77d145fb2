use Rattle.std.proofs.Common.{◌≤◌, List, ℕ, arith, length, refl, subst}
use Rattle.std.proofs.lemmas.Result.{err_from_is_err_and}
use Rattle.slink_wire.specs.Packet.{packet_bytes}
use Rattle.slink_feed.specs.Session.{sent_without}
use Rattle.slink_feed.specs.declared.session.Sent.TheVariants.{Packet}
use Rattle.slink_feed.proofs.Sendoffs.{few_without, no_packet, passed_on}
use Rattle.slink_feed.proofs.serving.give.Goals as goal

pub returns-in_err-written-in-Ok-clause-fault : goal.returns-in_err-written-in-Ok-clause-fault
returns-in_err-written-in-Ok-clause-fault g c =
    passed_on _ _ _ (err_from_is_err_and c.from_residual.result c.from_residual.ensures.1) (record {
      answer = Packet (packet_bytes c.in-Ok.number c.in-Ok.bytes.now);
      is = c.in-Ok.ensures.sent;
      held = c.next_record.ensures.held;
      cut = rw c.put.ensures.value at c.in_err-written-in-Ok.ensures.fault;
    })

pub returns-in_err-after-in-Err-clause-fault : goal.returns-in_err-after-in-Err-clause-fault
returns-in_err-after-in-Err-clause-fault g c =
    passed_on _ _ _
    (err_from_is_err_and c.from_residual-in_err-after-in-Err.result c.from_residual-in_err-after-in-Err.ensures.1)
    (record {
      answer = sent_without c.in-Err.unsent;
      is = c.in-Err.ensures.unsent;
      held = c.next_record.ensures.held;
      cut = rw c.bytes.ensures at c.in_err-after-in-Err.ensures.fault;
    })

pub returns-in_ok-written-in-Ok-clause-ok : goal.returns-in_ok-written-in-Ok-clause-ok
returns-in_ok-written-in-Ok-clause-ok g c = record {
  answer = Packet (packet_bytes c.in-Ok.number c.in-Ok.bytes.now);
  is = c.in-Ok.ensures.sent;
  held = c.next_record.ensures.held;
  written = rw c.put.ensures.value at c.in_ok-written-in-Ok.ensures.ok;
  short = subst (λ (xs : List ℕ). length xs ≤ 520) c.put.ensures.value (omega (arith, c.put.array_long));
  waited_is = refl;
  few = λ bytes is. c.in-Ok.ensures.few;
}

pub returns-in_ok-after-in-Err-clause-ok : goal.returns-in_ok-after-in-Err-clause-ok
returns-in_ok-after-in-Err-clause-ok g c = record {
  answer = sent_without c.in-Err.unsent;
  is = c.in-Err.ensures.unsent;
  held = c.next_record.ensures.held;
  written = rw c.bytes.ensures at c.in_ok-after-in-Err.ensures.ok;
  short = few_without c.in-Err.unsent;
  waited_is = c.count_waits.ensures;
  few = λ bytes is. absurd (no_packet c.in-Err.unsent bytes is);
}
