-- A session answers the bytes of its link, line by line.
use Rattle.std.proofs.Common.{ℕ, ◌+◌, ◌-◌, ◌≤◌, sym, List, ◌++◌, length, take, drop}
use Rattle.std.proofs.Common.{take-append-drop}
use Rattle.std.proofs.lemmas.List.{drop-drop, drop_all, take_rest}
use Rattle.slink_wire.specs.declared.reply.Reply.{Reply}
use Rattle.slink_wire.specs.Reply.{reply_bytes}
use Rattle.slink_feed.specs.Serving.{Serves, SessionState, Takes, none_served, piece_served}
use Rattle.slink_feed.specs.Window.{Window}

-- What is left to be answered leads to what all leads to.
abbrev pub Leads : List Window → SessionState → List ℕ → List ℕ → ℕ → SessionState → List ℕ → Type 0
Leads feed s bytes way start now produced = (last : SessionState) (all : List ℕ)
    → Serves feed now (drop start bytes) produced last all → Serves feed s bytes way last all

-- one line more
pub leads_on : (feed : List Window) (s now new : SessionState) (bytes way produced : List ℕ) (start used : ℕ)
    (reply : Reply) → Leads feed s bytes way start now produced
    → Takes feed now (take used (take (length bytes - start) (drop start bytes))) new reply
    → Leads feed s bytes way (start + used) new (produced ++ reply_bytes reply)
leads_on feed s now new bytes way produced start used reply before takes last all h =
    before last all (piece_served now new last (drop start bytes) _ (drop (start + used) bytes) produced all reply
    (rw (take_rest bytes start, ← (drop-drop used start bytes)) (sym (take-append-drop used (drop start bytes))))
    takes h)

pub leads_last : (feed : List Window) (s now : SessionState) (bytes way produced : List ℕ) (start : ℕ)
    → Leads feed s bytes way start now produced → length bytes ≤ start → Serves feed s bytes way now produced
leads_last feed s now bytes way produced start before whole =
    before now produced (rw (drop_all start bytes whole) (none_served now produced))
