-- A server, a client and at most one link between them, and what each step of a schedule does.
use Rattle.std.specs.Prelude.{false, ◌≡◌, ℕ, ◌<◌, List, [], ◌∷◌, ◌++◌, length, map, take, drop, replicate, Option, Some}
use Rattle.std.specs.Prelude.{None, option_map, unwrap_or, slice_get, slice_set, slice_index_or}
use Rattle.std.specs.Global.{Vec}
use Rattle.slink_wire.specs.Place.{Fields, Bears}
use Rattle.slink_feed.specs.declared.dialogue.Event.{Event}
use Rattle.slink_feed.specs.declared.dialogue.Event.TheVariants as events
use Rattle.slink_feed.specs.declared.grant.Grant.{Grant}
use Rattle.slink_feed.specs.declared.session.Sent.{Sent}
use Rattle.slink_feed.specs.declared.session.Sent.TheVariants as sents
use Rattle.slink_model.specs.declared.world.Link.{Link}
use Rattle.slink_model.specs.declared.world.Setup.{Setup}
use Rattle.slink_model.specs.declared.world.Step.{Step}
use Rattle.slink_model.specs.declared.world.Step.TheVariants.{Append, Connect, ToServer, ToClient, Send, Cut}
use Rattle.slink_model.specs.declared.world.World.{World}
use Rattle.slink_feed.specs.Dialogue.{requests_place}
use Rattle.slink_feed.specs.Listening.{Brings, IsLinked, Listening, new_client}
use Rattle.slink_feed.specs.Serving.{IsNew, Serves, SessionState}
use Rattle.slink_feed.specs.Session.{Grants, grant_at, sent, sent_bytes}
use Rattle.slink_feed.specs.Window.{Window, with_record}

-- the records of each station
abbrev pub Lists : Type 0
Lists = List (List (List ℕ))

-- a number of each station, where there is one
abbrev pub Numbers : Type 0
Numbers = List (Option ℕ)

-- a link: the session at its end, the number of the first packet that this sent of each station, and the bytes that are
-- on their way to the server and to the client
pub record LinkState : Type 0 where
  pub session : SessionState
  pub first_sent : List (Option ℕ)
  pub to_server : List ℕ
  pub to_client : List ℕ

-- the rings, all records that were pushed to each, the client, what it holds of each station, the number of the first
-- record that it holds of each, and the link
pub record WorldState : Type 0 where
  pub windows : List Window
  pub pushed : List (List (List ℕ))
  pub client : Listening
  pub held : List (List (List ℕ))
  pub start : List (Option ℕ)
  pub link : Option LinkState

-- one record more of a station
abbrev pub with_one : Lists → ℕ → List ℕ → Lists
with_one lists k bytes = slice_set lists k (slice_index_or lists k [] ++ bytes ∷ [])

-- the number of a station, where there is one
abbrev pub number_at : Numbers → ℕ → Option ℕ
number_at numbers k = unwrap_or (slice_get numbers k) None

abbrev pub or_else : Option ℕ → Option ℕ → Option ℕ
or_else None other = other
or_else (Some n) other = Some n

-- with a number of a station, unless there is one already
abbrev pub with_first : Numbers → ℕ → Option ℕ → Numbers
with_first numbers k number = slice_set numbers k (or_else (number_at numbers k) number)

-- the client, what it holds, and what is on its way to the server
pub record Taking : Type 0 where
  pub client : Listening
  pub held : List (List (List ℕ))
  pub start : List (Option ℕ)
  pub to_server : List ℕ

abbrev pub with_client : Listening → Lists → Numbers → List ℕ → Taking
with_client client held start to_server = record { client = client; held = held; start = start; to_server = to_server }

-- what comes of an event: a record is held, and what is written goes on its way. The first record of a station that is
-- held is the first that the link was sent.
abbrev pub noted : Numbers → Event → Taking → Taking
noted first_sent (events.Say line) t = record t { to_server = t.to_server ++ line.items }
noted first_sent (events.Record k number bytes) t =
    record t { held = with_one t.held k bytes; start = with_first t.start k (number_at first_sent k) }
noted first_sent event t = t

-- A client takes all of these bytes, piece by piece. Once it is at an end, the rest is lost.
pub data Reads (first_sent : List (Option ℕ)) : Taking → List ℕ → Taking → Type 0 where
  none_read : (t : Taking) → Reads first_sent t [] t
  piece_read : (t last : Taking) (now : Listening) (bytes piece rest : List ℕ) (event : Event) → bytes ≡ piece ++ rest
      → IsLinked t.client.talk.stage → Brings t.client.talk (t.client.kept ++ piece) now event
      → Reads first_sent (noted first_sent event (record t { client = now })) rest last
      → Reads first_sent t bytes last
  piece_lost : (t last : Taking) (bytes piece rest : List ℕ) → bytes ≡ piece ++ rest
      → ¬ (IsLinked t.client.talk.stage) → Reads first_sent t rest last → Reads first_sent t bytes last

-- the first packet of a station is that of its grant's position
abbrev pub first_after : Numbers → Grants → ℕ → Sent → Numbers
first_after first_sent grants k (sents.Packet bytes) =
    with_first first_sent k (option_map (λ (g : Grant). g.position) (grant_at grants k))
first_after first_sent grants k answer = first_sent

-- The link once a packet of a station was requested.
abbrev pub sent_on : List Window → ℕ → LinkState → LinkState
sent_on feed k l = record {
  session = record { state = (sent feed l.session.state k).0; held = l.session.held };
  first_sent = first_after l.first_sent l.session.state.grants k (sent feed l.session.state k).1;
  to_server = l.to_server;
  to_client = l.to_client ++ sent_bytes (sent feed l.session.state k).1;
}

-- The first bytes on their way come to the server.
pub record IsServed (feed : List Window) (n : ℕ) (l m : LinkState) : Type 0 where
  pub serves : Serves feed l.session (take n l.to_server) l.to_client m.session m.to_client
  pub left : m.to_server ≡ drop n l.to_server
  pub first_sent : m.first_sent ≡ l.first_sent

abbrev pub taking : WorldState → LinkState → Taking
taking w l = with_client w.client w.held w.start l.to_server

-- The first bytes on their way come to the client.
pub record IsRead (n : ℕ) (w v : WorldState) (l m : LinkState) : Type 0 where
  pub reads : Reads l.first_sent (taking w l) (take n l.to_client) (taking v m)
  pub left : m.to_client ≡ drop n l.to_client
  pub session : m.session ≡ l.session
  pub first_sent : m.first_sent ≡ l.first_sent

-- A relation between two links; where there is none, there is none afterwards.
abbrev pub Both : (LinkState → LinkState → Type 0) → Option LinkState → Option LinkState → Type 0
Both R None None = Unit {0}
Both R (Some l) (Some m) = R l m
Both R old new = ⊥

-- what a client sends
abbrev pub written : Event → List ℕ
written (events.Say line) = line.items
written event = []

-- a record is pushed to the ring of a station
abbrev pub pushed_to : WorldState → ℕ → List ℕ → Option Window → WorldState
pushed_to w k bytes None = w
pushed_to w k bytes (Some window) =
    record w { windows = slice_set w.windows k (with_record window bytes); pushed = with_one w.pushed k bytes }

-- The link that a client connects has a new session, and the client's first line on its way.
pub record Connects (w v : WorldState) : Type 0 where
  pub session : SessionState
  pub is_new : IsNew session
  pub becomes : v ≡ record w {
    client = record { talk = (requests_place 0 w.client.talk).0; kept = [] };
    link = Some (record {
      session = session;
      first_sent = replicate 16 None;
      to_server = written (requests_place 0 w.client.talk).1;
      to_client = [];
    });
  }

-- The bytes come to the client: the rings stay.
pub record Delivers (n : ℕ) (w v : WorldState) : Type 0 where
  pub windows : v.windows ≡ w.windows
  pub pushed : v.pushed ≡ w.pushed
  pub link : Both (IsRead n w v) w.link v.link
  pub unlinked : w.link ≡ None → v ≡ w

-- What a step makes of a world. Without a link there is nothing that is taken, sent or cut.
abbrev pub Happens : WorldState → Step → WorldState → Type 0
Happens w (Append k bytes) v = v ≡ pushed_to w k bytes (slice_get w.windows k)
Happens w Connect v = Connects w v
Happens w (ToServer n) v = (v ≡ record w { link = v.link }) × Both (IsServed w.windows n) w.link v.link
Happens w (ToClient n) v = Delivers n w v
Happens w (Send k) v = v ≡ record w { link = option_map (sent_on w.windows k) w.link }
Happens w Cut v = v ≡ record w { link = None }

-- one step after another
abbrev pub AllHappen : WorldState → List Step → WorldState → Type 0
AllHappen w [] v = v ≡ w
AllHappen w (step ∷ steps) v = (u : WorldState) × Happens w step u × AllHappen u steps v

-- before the first step
abbrev pub empty_window : Setup → Fields × Option ℕ → Window
empty_window setup p = record { place = p.0; capacity = setup.capacity; records = []; next = setup.first }

abbrev pub opening : Setup → WorldState
opening setup = record {
  windows = map (empty_window setup) setup.places.items;
  pushed = map (λ p. []) setup.places.items;
  client = new_client setup.places.items setup.mode false;
  held = map (λ p. []) setup.places.items;
  start = map (λ p. None) setup.places.items;
  link = None;
}

-- No two are the same: they differ by the station's code or by the network's.
abbrev pub Differ : List (Fields × Option ℕ) → Type 0
Differ places = (i j : ℕ) (p q : Fields × Option ℕ) → slice_get places i ≡ Some p → slice_get places j ≡ Some q
    → p.0 ≡ q.0 → i ≡ j

-- A step names one of the stations, and a record is of the station that it is pushed to.
abbrev pub IsOf : List (Fields × Option ℕ) → Step → Type 0
IsOf places (Append k bytes) = (p : Fields × Option ℕ) × (slice_get places k ≡ Some p) × Bears bytes p.0
IsOf places (Send k) = k < length places
IsOf places step = Unit {0}

-- what steps see of records
abbrev pub lists_of : Vec (Vec (List ℕ)) → Lists
lists_of lists = map (λ (v : Vec (List ℕ)). v.items) lists.items

-- what they see of a client with what it holds
abbrev pub taken : Listening → Vec (Vec (List ℕ)) → Vec (Option ℕ) → Vec ℕ → Taking
taken client held start to_server = with_client client (lists_of held) start.items to_server.items

-- what they see of a link, and of a world
abbrev pub link_state : Link → LinkState
link_state l = record {
  session = l.session;
  first_sent = l.first_sent;
  to_server = l.to_server.items;
  to_client = l.to_client.items;
}

abbrev pub seen : World → WorldState
seen w = record {
  windows = w.feed;
  pushed = lists_of w.pushed;
  client = w.client;
  held = lists_of w.held;
  start = w.start.items;
  link = option_map link_state w.link;
}
