-- The counted world: where the steps of a schedule lead to, by lists and counts alone. A station has the list of all
-- records that were pushed. A link has what the client sent, what the server sent, in whole replies and packets, and
-- how
-- many bytes of each were taken. There is no ring, no buffer, and no part of a line, a reply or a packet.
use Rattle.std.specs.Prelude.{◌≡◌, ℕ, Bool, true, false, not, min, ◌+◌, ◌-◌, ◌*◌, ◌%◌, ◌^◌, ◌≤◌, ◌&&◌, List, [], ◌∷◌}
use Rattle.std.specs.Prelude.{◌++◌, length, map, take, drop, replicate, codes, Option, Some, None, option_map, nat_le}
use Rattle.std.specs.Prelude.{unwrap_or, slice_get, if◌then◌else◌}
use Rattle.slink_wire.specs.Lines.{IsHeld}
use Rattle.slink_wire.specs.Place.{Fields}
use Rattle.slink_wire.specs.declared.reply.Reply.{Reply as ServerReply}
use Rattle.slink_wire.specs.declared.reply.Reply.TheVariants as replies
use Rattle.slink_feed.specs.declared.dialogue.Ending.TheVariants as endings
use Rattle.slink_feed.specs.declared.dialogue.Event.{Event}
use Rattle.slink_feed.specs.declared.dialogue.Event.TheVariants as events
use Rattle.slink_feed.specs.declared.dialogue.Stage.{Stage}
use Rattle.slink_feed.specs.declared.dialogue.Stage.TheVariants.{Station, Number, Packets}
use Rattle.slink_feed.specs.declared.grant.Grant.{Grant}
use Rattle.slink_feed.specs.declared.session.Phase.TheVariants.{Fresh, Streaming}
use Rattle.slink_feed.specs.declared.session.Sent.{Sent}
use Rattle.slink_feed.specs.declared.session.Sent.TheVariants as sents
use Rattle.slink_model.specs.declared.world.Setup.{Setup}
use Rattle.slink_model.specs.declared.world.Step.{Step}
use Rattle.slink_model.specs.declared.world.Step.TheVariants.{Append, Connect, ToServer, ToClient, Send, Cut}
use Rattle.slink_feed.specs.Dialogue.{End, Packet, Reply as Heard, Talk, ended, heard, next_at, requests_number}
use Rattle.slink_feed.specs.Dialogue.{requests_place, reported}
use Rattle.slink_feed.specs.Listening.{IsLinked, new_client}
use Rattle.slink_feed.specs.Session.{Grants, State, called, at, chosen, grant_at, sent}
use Rattle.slink_model.specs.Ties.{Item, Accepted, Refused, Carried, Finished, item_bytes, items_of, way_bytes}
use Rattle.slink_feed.specs.Window.{Window, record_at, window}
use Rattle.slink_model.specs.World.{LinkState, Lists, Numbers, WorldState, first_after, number_at, written, with_first}
use Rattle.slink_model.specs.World.{with_one}

-- a link: where its session stands, the number of the first packet that was sent of each station; the bytes of all
-- lines that the client sent, and how many of them the server accepted; all that the server sent, and how many bytes of
-- it the client accepted
pub record CountedLink : Type 0 where
  pub session : State
  pub first_sent : List (Option ℕ)
  pub written : List ℕ
  pub taken : ℕ
  pub sent : List Item
  pub delivered : ℕ

-- all records that were pushed of each station, what the client has come to, what it holds of each station, the number
-- of the first record that it holds of each, and the link
pub record Counted : Type 0 where
  pub pushed : List (List (List ℕ))
  pub talk : Talk
  pub held : List (List (List ℕ))
  pub start : List (Option ℕ)
  pub link : Option CountedLink

-- What a server shows of a station: the last of its records, as many as it keeps.
abbrev pub shown_of : Setup → Fields × Option ℕ → List (List ℕ) → Window
shown_of setup p pushed = record {
  place = p.0;
  capacity = setup.capacity;
  records = window setup.capacity pushed;
  next = setup.first + length pushed;
}

abbrev pub shown_all : Setup → List (Fields × Option ℕ) → Lists → List Window
shown_all setup (p ∷ ps) (records ∷ pushed) = shown_of setup p records ∷ shown_all setup ps pushed
shown_all setup places pushed = []

abbrev pub windows_of : Setup → Counted → List Window
windows_of setup c = shown_all setup setup.places.items c.pushed

-- What answers the line that a client sent last, by what it waits for: its station is chosen; what it asks for is
-- granted, if
-- there is that grant; or packets may follow.
abbrev pub answer_at : Stage → List Window → Talk → State → State × ServerReply
answer_at (Station k) feed t s = chosen (Some k) s
answer_at (Number k) feed t s = called feed k t.mode (next_at t.wants k) s
answer_at Packets feed t s = (at Streaming s.grants, replies.Nothing)
answer_at stage feed t s = (s, replies.Nothing)

-- A line waits for its answer while its CR isn't taken, which an LF follows.
abbrev pub waits : ℕ → List ℕ → Bool
waits taken written = nat_le (taken + 2) (length written)

abbrev pub replied : State × ServerReply → CountedLink → CountedLink
replied x l = record l { session = x.0; sent = l.sent ++ items_of x.1 }

-- The line that was sent last is answered, if its CR has come.
abbrev pub if_come : Bool → List Window → Talk → CountedLink → CountedLink
if_come true feed talk l = replied (answer_at talk.stage feed talk l.session) l
if_come false feed talk l = l

abbrev pub taken_by : ℕ → CountedLink → ℕ
taken_by n l = min (l.taken + n) (length l.written)

-- `n` bytes come to the server.
abbrev pub served_by : List Window → Talk → ℕ → CountedLink → CountedLink
served_by feed talk n l = if_come (waits l.taken l.written && not (waits (taken_by n l) l.written)) feed talk
    (record l { taken = taken_by n l })

-- what a session sends of a station: the packet of the record at its position, or the end
abbrev pub carried_at : ℕ → Option Grant → Option Window → List Item
carried_at k (Some g) (Some w) = Carried k g.position (unwrap_or (record_at w g.position) []) ∷ []
carried_at k grant ring = []

abbrev pub items_sent : List Window → Grants → ℕ → Sent → List Item
items_sent feed grants k (sents.Packet bytes) = carried_at k (grant_at grants k) (slice_get feed k)
items_sent feed grants k sents.Done = Finished ∷ []
items_sent feed grants k answer = []

-- The session is called for a packet of a station.
abbrev pub sent_by : List Window → ℕ → CountedLink → CountedLink
sent_by feed k l = record l {
  session = (sent feed l.session k).0;
  first_sent = first_after l.first_sent l.session.grants k (sent feed l.session k).1;
  sent = l.sent ++ items_sent feed l.session.grants k (sent feed l.session k).1;
}

-- which of these are whole in `d` bytes, which aren't, and how many bytes there are of the first that isn't
abbrev pub wholes : ℕ → List Item → List Item
wholes d [] = []
wholes d (i ∷ is) = if nat_le (length (item_bytes i)) d then i ∷ wholes (d - length (item_bytes i)) is else []

abbrev pub undelivered : ℕ → List Item → List Item
undelivered d [] = []
undelivered d (i ∷ is) = if nat_le (length (item_bytes i)) d then undelivered (d - length (item_bytes i)) is else i ∷ is

abbrev pub part : ℕ → List Item → ℕ
part d [] = 0
part d (i ∷ is) = if nat_le (length (item_bytes i)) d then part (d - length (item_bytes i)) is else d

-- What a client makes of what is sent to it, by what it waits for: `OK` lets it say its next line, and `ERROR` ends the
-- link;
-- a packet brings a record of its station, and the number after it is wanted next.
abbrev pub on_item : Stage → Item → Talk → Talk × Event
on_item (Station k) Accepted t = requests_number k (heard (Heard (codes "OK")) t)
on_item (Station k) Refused t = ended (endings.Refused k) (heard (Heard (codes "ERROR")) t)
on_item (Number k) Accepted t = requests_place (k + 1) (heard (Heard (codes "OK")) t)
on_item (Number k) Refused t = ended (endings.Refused k) (heard (Heard (codes "ERROR")) t)
on_item Packets (Carried k n r) t = reported k (n % 2 ^ 24) r (heard (Packet (n % 2 ^ 24) r) t)
on_item Packets Finished t = ended endings.End (heard End t)
on_item stage item t = (t, events.None)

abbrev pub talk_upon : Talk → List Item → Talk
talk_upon t [] = t
talk_upon t (i ∷ is) = talk_upon (on_item t.stage i t).0 is

abbrev pub events_upon : Talk → List Item → List Event
events_upon t [] = []
events_upon t (i ∷ is) = (on_item t.stage i t).1 ∷ events_upon (on_item t.stage i t).0 is

-- what comes of events, beside the client
pub record Gained : Type 0 where
  pub held : List (List (List ℕ))
  pub start : List (Option ℕ)
  pub to_server : List ℕ

abbrev pub with_event : Numbers → Event → Gained → Gained
with_event f (events.Say line) g = record g { to_server = g.to_server ++ line.items }
with_event f (events.Record k n bytes) g =
    record g { held = with_one g.held k bytes; start = with_first g.start k (number_at f k) }
with_event f event g = g

abbrev pub with_events : Numbers → List Event → Gained → Gained
with_events f [] g = g
with_events f (e ∷ es) g = with_events f es (with_event f e g)

-- what is whole once `n` more bytes come to the client
abbrev pub news : ℕ → CountedLink → List Item
news n l = wholes (part l.delivered l.sent + n) (undelivered l.delivered l.sent)

abbrev pub delivered_by : ℕ → CountedLink → ℕ
delivered_by n l = min (l.delivered + n) (length (way_bytes l.sent))

abbrev pub gained_by : ℕ → Counted → CountedLink → Gained
gained_by n c l = with_events l.first_sent (events_upon c.talk (news n l))
    (record { held = c.held; start = c.start; to_server = l.written })

-- The client reads it.
abbrev pub read_by : ℕ → Counted → Option CountedLink → Counted
read_by n c None = c
read_by n c (Some l) = record c {
  talk = talk_upon c.talk (news n l);
  held = (gained_by n c l).held;
  start = (gained_by n c l).start;
  link = Some (record l { written = (gained_by n c l).to_server; delivered = delivered_by n l });
}

abbrev pub new_link : List ℕ → CountedLink
new_link written = record {
  session = at Fresh (replicate 16 None);
  first_sent = replicate 16 None;
  written = written;
  taken = 0;
  sent = [];
  delivered = 0;
}

-- what a step makes of a counted world
abbrev pub counted_step : Setup → Counted → Step → Counted
counted_step setup c (Append k bytes) = record c { pushed = with_one c.pushed k bytes }
counted_step setup c Connect =
    record c { talk = (requests_place 0 c.talk).0; link = Some (new_link (written (requests_place 0 c.talk).1)) }
counted_step setup c (ToServer n) = record c { link = option_map (served_by (windows_of setup c) c.talk n) c.link }
counted_step setup c (ToClient n) = read_by n c c.link
counted_step setup c (Send k) = record c { link = option_map (sent_by (windows_of setup c) k) c.link }
counted_step setup c Cut = record c { link = None }

-- one step after another
abbrev pub counted_after : Setup → Counted → List Step → Counted
counted_after setup c [] = c
counted_after setup c (step ∷ steps) = counted_after setup (counted_step setup c step) steps

-- before the first step
abbrev pub counted_opening : Setup → Counted
counted_opening setup = record {
  pushed = map (λ p. []) setup.places.items;
  talk = (new_client setup.places.items setup.mode false).talk;
  held = map (λ p. []) setup.places.items;
  start = map (λ p. None) setup.places.items;
  link = None;
}

-- The link of a world is the counted one: its session stands where that one does, and has what was begun of the lines
-- that were taken; what is on its way is what was written or sent and isn't taken; and the client has kept what was
-- delivered of the first reply or packet that isn't whole.
pub record IsCountedLink (talk : Talk) (kept : List ℕ) (c : CountedLink) (l : LinkState) : Type 0 where
  pub session : l.session.state ≡ c.session
  pub begun : IsHeld l.session.held (take c.taken c.written)
  pub first_sent : l.first_sent ≡ c.first_sent
  pub to_server : l.to_server ≡ drop c.taken c.written
  pub to_client : l.to_client ≡ drop c.delivered (way_bytes c.sent)
  pub kept_is : IsLinked talk.stage → kept ≡ take (part c.delivered c.sent) (way_bytes (undelivered c.delivered c.sent))
  pub taken_few : c.taken ≤ length c.written
  pub delivered_few : c.delivered ≤ length (way_bytes c.sent)

abbrev pub AreCountedLinks : Talk → List ℕ → Option CountedLink → Option LinkState → Type 0
AreCountedLinks talk kept None None = Unit {0}
AreCountedLinks talk kept (Some c) (Some l) = IsCountedLink talk kept c l
AreCountedLinks talk kept counted link = ⊥

-- The world is the counted one.
pub record IsCounted (setup : Setup) (c : Counted) (w : WorldState) : Type 0 where
  pub windows : w.windows ≡ windows_of setup c
  pub pushed : w.pushed ≡ c.pushed
  pub talk : w.client.talk ≡ c.talk
  pub held : w.held ≡ c.held
  pub start : w.start ≡ c.start
  pub link : AreCountedLinks c.talk w.client.kept c.link w.link

-- packets of records of 512 bytes
abbrev pub ArePackets : List Item → Type 0
ArePackets [] = Unit {0}
ArePackets (Carried k n r ∷ is) = (length r ≡ 512) × ArePackets is
ArePackets (i ∷ is) = ⊥

-- the same, and after the last of them the end, if it was sent
abbrev pub AreItems : List Item → Type 0
AreItems [] = Unit {0}
AreItems (Carried k n r ∷ is) = (length r ≡ 512) × AreItems is
AreItems (Finished ∷ is) = is ≡ []
AreItems (i ∷ is) = ⊥

-- Two replies of 4 bytes to each of `places` stations were sent and came to the client; after them packets were sent,
-- and after the last of these the end, if it was.
pub record IsStreamed (places : ℕ) (l : CountedLink) : Type 0 where
  pub packets : List Item
  pub sent_is : l.sent ≡ replicate (2 * places) Accepted ++ packets
  pub are : AreItems packets
  pub replies : 8 * places ≤ l.delivered

-- So it is while packets are awaited.
abbrev pub AreStreamed : ℕ → Talk → Option CountedLink → Type 0
AreStreamed places talk None = Unit {0}
AreStreamed places talk (Some l) = talk.stage ≡ Packets → IsStreamed places l
