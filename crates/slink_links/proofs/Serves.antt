-- Turns of a session with its link, one after another.
use Rattle.std.specs.Prelude.{⊤}
use Rattle.std.proofs.Common.{◌≡◌, ◌⊎◌, inl, inr, ℕ, ◌+◌, Bool, nat_lt, not, if◌then◌else◌, List}
use Rattle.std.proofs.Common.{[], ◌++◌, append-nil, append_assoc, Result, Ok, Err, refl, sym, ◌∙◌}
use Rattle.std.proofs.Common.{arith}
use Rattle.std.proofs.lemmas.List.Elements.{All-append}
use Rattle.std.specs.Result.{is_ok}
use Rattle.mseed_stream.specs.Device.{BytesRead, BytesWritten, nothing_read, nothing_written}
use Rattle.mseed_stream.specs.Exchanges.{Exchange, exchange}
use Rattle.slink_feed.specs.Attending.{Attends, IsServeFault, is_closed, is_at_end, replies, at_send}
use Rattle.slink_feed.specs.Attending.{at_read, at_reply}
use Rattle.slink_feed.specs.Rounds.{Attending}
use Rattle.slink_feed.specs.Window.{Window}
use Rattle.slink_feed.specs.declared.dialogue.Event.{Event}
use Rattle.slink_feed.specs.declared.turn.LinkFault.{LinkFault}
use Rattle.slink_feed.specs.declared.turn.Turn.{Turn}
use Rattle.slink_links.specs.Served.{HasServedEach, HasTakenAll, HasTakenTurns, IsServed, WasServed}
use Rattle.slink_links.specs.Served.{has_failed, none, more, to_the_end, for_long, to_a_fault}

-- how many calls failed
abbrev failures_of : BytesRead → BytesWritten → ℕ
failures_of read written = read.failures + written.failures

turn_fine : {feed : List Window} {old new : Attending} {before after : BytesRead} {turn : Turn}
    → Attends feed old new before after turn → failures_of after new.written ≡ failures_of before old.written
turn_fine (is_closed sends closed same) = rw same (omega (arith, sends.written.failures))
turn_fine (is_at_end goes reported) = rw reported (omega (arith, goes.sends.written.failures))
turn_fine (replies now bytes goes reported some few answered) =
    rw reported (omega (arith, goes.sends.written.failures, answered.failures))

fault_counted : {feed : List Window} {old new : Attending} {before after : BytesRead} {fault : LinkFault}
    → IsServeFault feed old new before after fault → failures_of after new.written ≡ failures_of before old.written + 1
fault_counted (at_send count fails same) = rw same (omega (arith, fails.written.failures))
fault_counted (at_read goes failed) = rw failed (omega (arith, goes.sends.written.failures))
fault_counted (at_reply count now bytes goes reported few fails size) =
    rw reported (omega (arith, goes.sends.written.failures, fails.replies.failures, fails.written.failures))

turns_fine : {feed : List Window} {first : Attending} {before : BytesRead} {n : ℕ} {now : Attending} {mid : BytesRead}
    → HasTakenTurns feed first before n now mid → failures_of mid now.written ≡ failures_of before first.written
turns_fine none = refl
turns_fine (more n now new mid after taken turn) = turn_fine turn ∙ turns_fine taken

-- whether a call failed, by the result
abbrev pub is_fault : Result ⊤ LinkFault → Bool
is_fault result = not (is_ok result)

served_failures : {feed : List Window} {first last : Attending} {before after : BytesRead} {result : Result ⊤ LinkFault}
    → HasTakenAll feed first before result last after
    → failures_of after last.written ≡ failures_of before first.written + (if is_fault result then 1 else 0)
served_failures (to_the_end u n now last mid after few taken turn) = omega (arith, turn_fine turn, turns_fine taken)
served_failures (for_long u last after taken) = omega (arith, turns_fine taken)
served_failures (to_a_fault fault n now last mid after few taken failed) =
    omega (arith, fault_counted failed, turns_fine taken)

failed_by : (result : Result ⊤ LinkFault) (n : ℕ) → n ≡ (if is_fault result then 1 else 0)
    → is_fault result ≡ nat_lt 0 n
failed_by (Ok u) n e = rw e
failed_by (Err fault) n e = rw e

-- of a new link a call has failed exactly where the result is a fault
pub failed_exactly : {feed : List Window} {result : Result ⊤ LinkFault} {h h' : BytesRead} {s s' : BytesWritten}
    → h ≡ nothing_read → s ≡ nothing_written → IsServed feed result h h' s s' → is_fault result ≡ has_failed h' s'
failed_exactly {result = result} {h' = h'} {s' = s'} unread unwritten is =
    failed_by result (failures_of h' s') (omega (arith, rw (unread, unwritten) at (served_failures is.turns)))

-- a step by which a link ends
abbrev pub Ends : Turn → Type 0
Ends turn = (turn ≡ Turn.Closed) ⊎ ((turn ≡ Turn.Ended) ⊎ ((event : Event) × (turn ≡ Turn.Stopped event)))

pub closes : {feed : List Window} {old new : Attending} {before after : BytesRead} {turn : Turn}
    → Attends feed old new before after turn → Ends turn → turn ≡ Turn.Closed
closes (is_closed sends closed same) ends = refl
closes (is_at_end goes reported) ends = refl
closes (replies now bytes goes reported some few answered) (inl e) = e
closes (replies now bytes goes reported some few answered) (inr (inl e)) = cc
closes (replies now bytes goes reported some few answered) (inr (inr e)) = cc (e.1)

-- no link yet
pub each_none : (feed : List Window) (a : List Exchange) → HasServedEach feed a a
each_none feed a = record { links = []; given_back = sym (append-nil a); served = λ k d lt. absurd (omega (arith, lt)) }

-- a new link
pub served_first : (feed : List Window) (result : Result ⊤ LinkFault) (h h' : BytesRead) (s s' : BytesWritten)
    → h ≡ nothing_read → s ≡ nothing_written → IsServed feed result h h' s s' → WasServed feed (exchange h' s')
served_first feed result h h' s s' unread unwritten is = (result, rw (unread, unwritten) at is)

-- some and then others
pub each_both : (feed : List Window) (a b c : List Exchange) → HasServedEach feed a b → HasServedEach feed b c
    → HasServedEach feed a c
each_both feed a b c p q = record {
  links = p.links ++ q.links;
  given_back = rw (q.given_back, p.given_back, append_assoc);
  served = All-append (WasServed feed) p.links q.links p.served q.served;
}
