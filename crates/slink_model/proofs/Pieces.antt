-- Bytes that are taken piece by piece.
use Rattle.std.proofs.Common.{◌≡◌, ℕ, ◌+◌, ◌≤◌, sym, ap, subst, ◌∙◌, List, [], ◌++◌}
use Rattle.std.proofs.Common.{append-nil, length, take, take-append-drop, drop}
use Rattle.std.proofs.lemmas.List.{drop-drop, drop_all}
use Rattle.slink_wire.specs.declared.reply.Reply.{Reply}
use Rattle.slink_wire.specs.Reply.{reply_bytes}
use Rattle.slink_feed.specs.Listening.{IsLinked}
use Rattle.slink_feed.specs.Serving.{Serves, SessionState, Takes, none_served, piece_served}
use Rattle.slink_feed.specs.Window.{Window}
use Rattle.slink_model.specs.World.{Reads, Numbers, Taking, none_read, piece_lost}

-- the piece that begins at an offset, and the rest after it
pub at_offset : (bytes : List ℕ) (start used : ℕ)
    → drop start bytes ≡ take used (drop start bytes) ++ drop (start + used) bytes
at_offset bytes start used = sym (take-append-drop used (drop start bytes))
    ∙ ap (λ b. take used (drop start bytes) ++ b) (drop-drop used start bytes)

pub serves_more : (feed : List Window) (s now last : SessionState) (bytes : List ℕ) (start used : ℕ)
    (way on all : List ℕ)
    (reply : Reply) → Takes feed s (take used (drop start bytes)) now reply → on ≡ way ++ reply_bytes reply
    → Serves feed now (drop (start + used) bytes) on last all → Serves feed s (drop start bytes) way last all
serves_more feed s now last bytes start used way on all reply takes e more =
    piece_served s now last (drop start bytes) (take used (drop start bytes)) (drop (start + used) bytes) way all reply
    (at_offset bytes start used) takes
    (subst (λ (w : List ℕ). Serves feed now (drop (start + used) bytes) w last all) e more)

pub serves_all : (feed : List Window) (s : SessionState) (bytes : List ℕ) (start : ℕ) (way : List ℕ)
    → length bytes ≤ start → Serves feed s (drop start bytes) way s way
serves_all feed s bytes start way past = rw (drop_all start bytes past) (none_served s way)

pub reads_all : (first_sent : Numbers) (t : Taking) (bytes : List ℕ) (start : ℕ) → length bytes ≤ start
    → Reads first_sent t (drop start bytes) t
reads_all first_sent t bytes start past = rw (drop_all start bytes past) (none_read t)

pub rest_lost : (first_sent : Numbers) (t : Taking) (bytes : List ℕ) → ¬ (IsLinked t.client.talk.stage)
    → Reads first_sent t bytes t
rest_lost first_sent t bytes unlinked = piece_lost t t bytes bytes [] (sym (append-nil bytes)) unlinked (none_read t)
