-- How client and session stand to one another over a link: who has sent what, and what is on its way.
use Rattle.std.proofs.Common.{◌≡◌, ℕ, ◌+◌, ◌%◌, ◌^◌, ◌<◌, ◌⊎◌, inl, inr, refl, sym, ap, subst, ◌∙◌, arith, List, []}
use Rattle.std.proofs.Common.{◌∷◌, length, set, Option, Some, None, option_map}
use Rattle.std.proofs.Common.{slice_get}
use Rattle.std.specs.Option.{option_and_then}
use Rattle.slink_wire.specs.declared.reply.Reply.{Reply}
use Rattle.slink_wire.specs.declared.request.Request.{Request}
use Rattle.slink_wire.specs.declared.request.Request.TheVariants as requests
use Rattle.slink_wire.specs.Place.{Fields, IsField}
use Rattle.slink_wire.specs.Request.{IsShort, request_line, requested}
use Rattle.slink_feed.specs.declared.dialogue.Wanted.{Wanted}
use Rattle.slink_feed.specs.declared.dialogue.Stage.TheVariants.{Station, Number, Packets}
use Rattle.slink_feed.specs.declared.grant.Grant.{Grant}
use Rattle.slink_feed.specs.declared.grant.Mode.{Mode}
use Rattle.slink_feed.specs.declared.grant.Mode.TheVariants as modes
use Rattle.slink_feed.specs.declared.session.Phase.{Phase}
use Rattle.slink_feed.specs.declared.session.Phase.TheVariants.{Fresh, Chosen, Granted, Closed}
use Rattle.slink_model.specs.Spared.{HaveCodes}
use Rattle.slink_feed.specs.Dialogue.{AreShort, Talk, Wants, next_at, numbered, want_at}
use Rattle.slink_feed.specs.Grant.{grant_of}
use Rattle.slink_feed.specs.Listening.{AwaitsReply}
use Rattle.slink_feed.specs.Rings.{station_at}
use Rattle.slink_feed.specs.Session.{Grants, IsBefore, State, answered, answered_in, called as called_in, chosen}
use Rattle.slink_feed.specs.Session.{grant_at, granted}
use Rattle.slink_model.specs.Ties.{AreOfPlace, AreSound, Item, Accepted, Refused, Carried, Finished, Places}
use Rattle.slink_model.specs.Ties.{items_of, of_place}
use Rattle.slink_feed.specs.Window.{Window}
use Rattle.slink_model.specs.World.{Differ}
use Rattle.slink_feed.proofs.Reached.{grant_set}
use Rattle.slink_model.proofs.Lined.{IsAnswered, IsAsking}
use Rattle.slink_model.proofs.Requested.{also_at}
use Rattle.slink_model.proofs.Requested.{number_command, station_found}
use Rattle.slink_wire.proofs.Requests.{end_written, station_written}
use Rattle.slink_model.specs.Counted.{answer_at}
use Rattle.slink_wire.specs.Command.{IsCommand}
use Rattle.slink_wire.specs.declared.command.Command.{Command}
use Rattle.slink_wire.specs.declared.command.Command.TheVariants as commands
use Rattle.slink_feed.specs.declared.dialogue.Stage.{Stage}
use Rattle.slink_model.proofs.Resolved.{resolved_alike}

-- what is sent once lines are no longer answered
abbrev pub IsSent : Item → Type 0
IsSent (Carried k n r) = Unit {0}
IsSent Finished = Unit {0}
IsSent item = ⊥

abbrev pub AreSent : List Item → Type 0
AreSent [] = Unit {0}
AreSent (i ∷ is) = IsSent i × AreSent is

-- numbers from one on
abbrev pub AreFrom : ℕ → List (ℕ × List ℕ) → Type 0
AreFrom n [] = Unit {0}
AreFrom n (i ∷ is) = (i.0 ≡ n) × AreFrom (n + 1) is

-- The records of a station that are on their way end before the position of its grant, and the first of them is wanted.
abbrev pub IsSuited : Option ℕ → Option Grant → List (ℕ × List ℕ) → Type 0
IsSuited want None rest = rest ≡ []
IsSuited want (Some g) rest = (n : ℕ) × AreFrom n rest × (g.position ≡ n + length rest) × ((m : ℕ) → want ≡ Some m
    → n % 2 ^ 24 ≡ m)

-- where the session stands when a station is requested: at the beginning, or after the grant of the station before
abbrev pub IsReadyFor : ℕ → Phase → Type 0
IsReadyFor k phase = ((k ≡ 0) × (phase ≡ Fresh)) ⊎ ((j : ℕ) × (k ≡ j + 1) × (phase ≡ Granted j))

-- what a client asks for over a link
pub data Asks (talk : Talk) (phase : Phase) : Request → Type 0 where
  asks_place : (k : ℕ) (w : Wanted) → talk.stage ≡ Station k → want_at talk.wants k ≡ Some w → IsReadyFor k phase
      → Asks talk phase (requests.Station w.place)
  asks_number : (k : ℕ) → talk.stage ≡ Number k → phase ≡ Chosen k
      → Asks talk phase (numbered talk.mode (next_at talk.wants k))
  asks_end : (k : ℕ) → talk.stage ≡ Packets → phase ≡ Granted k → Asks talk phase requests.End

-- what it is answered
pub data Has (talk : Talk) (phase : Phase) : Item → Type 0 where
  has_place : (k : ℕ) → talk.stage ≡ Station k → phase ≡ Chosen k → Has talk phase Accepted
  has_number : (k : ℕ) → talk.stage ≡ Number k → phase ≡ Granted k → Has talk phase Accepted
  has_none : (k : ℕ) → talk.stage ≡ Number k → phase ≡ Chosen k → Has talk phase Refused

-- who has sent what: a line is on its way or its reply is, or the packets are
pub data Shakes (talk : Talk) (phase : Phase) (taken way : List ℕ) (items : List Item) : Type 0 where
  asks : (r : Request) → Asks talk phase r → IsAsking (request_line r) taken way → items ≡ []
      → Shakes talk phase taken way items
  has : (i : Item) → Has talk phase i → IsAnswered taken way → items ≡ i ∷ [] → Shakes talk phase taken way items
  streams : talk.stage ≡ Packets → ¬ (IsBefore phase) → AreSent items → IsAnswered taken way
      → Shakes talk phase taken way items

before_at : (phase p : Phase) → phase ≡ p → IsBefore p → IsBefore phase
before_at phase p is before = subst IsBefore (sym is) before

pub asks_before : (talk : Talk) (phase : Phase) (r : Request) → Asks talk phase r → IsBefore phase
asks_before talk phase r (asks_place k w stage want (inl fresh)) = before_at phase Fresh fresh.1 tt
asks_before talk phase r (asks_place k w stage want (inr beyond)) = before_at phase (Granted beyond.0) beyond.2 tt
asks_before talk phase r (asks_number k stage is) = before_at phase (Chosen k) is tt
asks_before talk phase r (asks_end k stage is) = before_at phase (Granted k) is tt

has_before : (talk : Talk) (phase : Phase) (i : Item) → Has talk phase i → IsBefore phase
has_before talk phase i (has_place k stage is) = before_at phase (Chosen k) is tt
has_before talk phase i (has_number k stage is) = before_at phase (Granted k) is tt
has_before talk phase i (has_none k stage is) = before_at phase (Chosen k) is tt

has_awaits : (talk : Talk) (phase : Phase) (i : Item) → Has talk phase i → AwaitsReply talk.stage
has_awaits talk phase i (has_place k stage is) = subst AwaitsReply (sym stage) tt
has_awaits talk phase i (has_number k stage is) = subst AwaitsReply (sym stage) tt
has_awaits talk phase i (has_none k stage is) = subst AwaitsReply (sym stage) tt

-- While packets are awaited, only they and the end are on their way.
pub packets_sent : (talk : Talk) (phase : Phase) (taken way : List ℕ) (is : List Item) → talk.stage ≡ Packets
    → Shakes talk phase taken way is → AreSent is
packets_sent talk phase taken way is p (asks r asked asking none) = subst AreSent (sym none) tt
packets_sent talk phase taken way is p (has i at told one) =
    absurd (subst AwaitsReply p (has_awaits talk phase i at))
packets_sent talk phase taken way is p (streams stage later sent told) = sent

-- So it is once packets are sent.
pub streaming_is : (talk : Talk) (phase : Phase) (taken way : List ℕ) (is : List Item) → ¬ (IsBefore phase)
    → Shakes talk phase taken way is → (talk.stage ≡ Packets) × AreSent is × IsAnswered taken way
streaming_is talk phase taken way is later (asks r asked asking none) =
    absurd (later (asks_before talk phase r asked))
streaming_is talk phase taken way is later (has i at told one) = absurd (later (has_before talk phase i at))
streaming_is talk phase taken way is later (streams stage over sent told) = (stage, sent, told)

-- Nothing comes after the end, which closes the session.
abbrev pub EndsIn : Phase → List Item → Type 0
EndsIn phase [] = Unit {0}
EndsIn phase (Finished ∷ is) = (is ≡ []) × (phase ≡ Closed)
EndsIn phase (i ∷ is) = EndsIn phase is

-- what is on its way to a client of which more is taken, and who has sent what
pub record Left (places : Places) (s : State) (taken : List ℕ) (t : Talk) (way : List ℕ) (items : List Item) : Type 0
  where
    pub matched : AreOfPlace places items
    pub suited : (k : ℕ) → IsSuited (next_at t.wants k) (grant_at s.grants k) (of_place k items)
    pub shakes : Shakes t s.phase taken way items
    pub ends : EndsIn s.phase items

-- The stations are requested, in their order.
pub record AreCalled (places : Places) (wants : List (Option Wanted)) : Type 0 where
  pub alike : (k : ℕ) → option_map (λ (w : Wanted). w.place) (want_at wants k) ≡ option_map
      (λ (p : Fields × Option ℕ). p.0) (slice_get places k)
  pub short : AreShort wants

-- the station of what is wanted, with its codes, and what is wanted of a station
pub place_at : (places : Places) (wants : Wants) → AreCalled places wants → (k : ℕ) (w : Wanted)
    → want_at wants k ≡ Some w → (p : Fields × Option ℕ) × (slice_get places k ≡ Some p) × (w.place ≡ p.0)
place_at places wants called k w is =
    also_at (λ (x : Wanted). x.place) (λ (p : Fields × Option ℕ). p.0) (want_at wants k) (slice_get places k) w
    (called.alike k) is

pub fields_at : (places : Places) (wants : Wants) → HaveCodes places → AreCalled places wants → (k : ℕ) (w : Wanted)
    → want_at wants k ≡ Some w → IsField 5 w.place.station × IsField 2 w.place.network
fields_at places wants codes called k w is =
    let q = place_at places wants called k w is in
    subst (λ (f : Fields). IsField 5 f.station × IsField 2 f.network) (sym q.2) (codes k q.0 q.1)

pub want_of : (places : Places) (wants : Wants) → AreCalled places wants → (k : ℕ) (p : Fields × Option ℕ)
    → slice_get places k ≡ Some p → (w : Wanted) × (want_at wants k ≡ Some w) × (p.0 ≡ w.place)
want_of places wants called k p here =
    also_at (λ (q : Fields × Option ℕ). q.0) (λ (w : Wanted). w.place) (slice_get places k) (want_at wants k) p
    (sym (called.alike k)) here

-- The rings are of the stations, and so are their records.
pub record AreRinged (places : Places) (feed : List Window) : Type 0 where
  pub alike : (k : ℕ) → option_map (λ (v : Window). v.place) (slice_get feed k) ≡ option_map
      (λ (p : Fields × Option ℕ). p.0) (slice_get places k)
  pub sound : (k : ℕ) (v : Window) → slice_get feed k ≡ Some v → AreSound v.place v.records

pub is_short : (o : Option ℕ) → ((n : ℕ) → o ≡ Some n → n < 2 ^ 24) → IsShort o
is_short None short = tt
is_short (Some n) short = short n refl

-- what is granted is what was wanted
pub granted_alike : (mode : Mode) (number : Option ℕ) (o : Option Window) (p m : ℕ)
    → option_and_then (grant_of mode number) o ≡ Some p → number ≡ Some m → m < 2 ^ 24 → p % 2 ^ 24 ≡ m
granted_alike mode number None p m is wanted short = absurd (let bad : None ≡ Some p = is in cc bad)
granted_alike modes.Data None (Some w) p m is wanted short = absurd (let bad : None ≡ Some m = wanted in cc bad)
granted_alike modes.Fetch None (Some w) p m is wanted short = absurd (let bad : None ≡ Some m = wanted in cc bad)
granted_alike modes.Data (Some n) (Some w) p m is wanted short = let same : n ≡ m = cc wanted in
    resolved_alike w n p is ∙ (let e : n % 2 ^ 24 ≡ m = omega (arith, same, short) in e)
granted_alike modes.Fetch (Some n) (Some w) p m is wanted short = let same : n ≡ m = cc wanted in
    resolved_alike w n p is ∙ (let e : n % 2 ^ 24 ≡ m = omega (arith, same, short) in e)

module _ (wants : Wants) (grants : Grants) (j k : ℕ)
    (suits : (i : ℕ) → IsSuited (next_at wants i) (grant_at grants i) []) where
  pub no_grant : IsSuited (next_at wants k) (grant_at (set grants j None) k) []
  no_grant = elim (grant_set grants j k None) [
    | inl here ↦ subst (λ (o : Option Grant). IsSuited (next_at wants k) o []) (sym here.1) refl
    | inr there ↦ subst (λ (o : Option Grant). IsSuited (next_at wants k) o []) (sym there) (suits k)
  ]

  pub a_grant : (g : Grant) → ((m : ℕ) → next_at wants j ≡ Some m → g.position % 2 ^ 24 ≡ m)
      → IsSuited (next_at wants k) (grant_at (set grants j (Some g)) k) []
  a_grant g wanted = elim (grant_set grants j k (Some g)) [
    | inl here ↦ rw here.1 (rw here.0 (g.position, tt, omega arith, wanted))
    | inr there ↦ subst (λ (o : Option Grant). IsSuited (next_at wants k) o []) (sym there) (suits k)
  ]

module _ (places : Places) (feed : List Window) (differ : Differ places) (codes : HaveCodes places)
    (ringed : AreRinged places feed) (talk : Talk) (called : AreCalled places talk.wants) where
  -- the ring of the station that is requested
  called_place : (k : ℕ) (w : Wanted) → want_at talk.wants k ≡ Some w
      → station_at feed w.place.station (Some w.place.network) ≡ Some k
  called_place k w is =
      let q = place_at places talk.wants called k w is in
      rw q.2 (station_found places feed k q.0 differ ringed.alike q.1)

  -- what is asked is a command
  pub asked_command : (phase : Phase) (r : Request) → Asks talk phase r → IsCommand (request_line r) (requested r)
  asked_command phase r (asks_place k w stage want ready) =
      let fields = fields_at places talk.wants codes called k w want in
      station_written w.place.station w.place.network fields.0 fields.1
  asked_command phase r (asks_number k stage is) =
      number_command talk.mode (next_at talk.wants k) (is_short (next_at talk.wants k) (λ n e. called.short k n e))
  asked_command phase r (asks_end k stage is) = end_written

  module _ (s : State) where
    in_phase : (phase : Phase) (c : Command) → s.phase ≡ phase → answered feed s c ≡ answered_in phase feed s c
    in_phase phase c is = ap (λ (p : Phase). answered_in p feed s c) is

    number_asked : (mode : Mode) (number : Option ℕ) (k : ℕ)
        → answered_in (Chosen k) feed s (requested (numbered mode number)) ≡ called_in feed k mode number s
    number_asked modes.Data number k = refl
    number_asked modes.Fetch number k = refl

    ready_asked : (k : ℕ) (sta net : List ℕ) → IsReadyFor k s.phase
        → answered feed s (commands.Station sta (Some net)) ≡ chosen (station_at feed sta (Some net)) s
    ready_asked k sta net (inl fresh) = in_phase Fresh (commands.Station sta (Some net)) fresh.1
    ready_asked k sta net (inr beyond) = in_phase (Granted beyond.0) (commands.Station sta (Some net)) beyond.2

    -- what a session answers to it
    pub asked_answer : (r : Request) → Asks talk s.phase r
        → answered feed s (requested r) ≡ answer_at talk.stage feed talk s
    asked_answer r (asks_place k w stage want ready) = ready_asked k w.place.station w.place.network ready
        ∙ (ap (λ (o : Option ℕ). chosen o s) (called_place k w want)
        ∙ ap (λ (x : Stage). answer_at x feed talk s) (sym stage))
    asked_answer r (asks_number k stage is) =
        in_phase (Chosen k) (requested (numbered talk.mode (next_at talk.wants k))) is
        ∙ (number_asked talk.mode (next_at talk.wants k) k ∙ ap (λ (x : Stage). answer_at x feed talk s) (sym stage))
    asked_answer r (asks_end k stage is) = in_phase (Granted k) (requested requests.End) is
        ∙ ap (λ (x : Stage). answer_at x feed talk s) (sym stage)

-- what an answer leaves
module _ (places : Places) (feed : List Window) (talk : Talk) (s : State) (taken way : List ℕ)
    (told : IsAnswered taken way) (short : AreShort talk.wants)
    (suits : (k : ℕ) → IsSuited (next_at talk.wants k) (grant_at s.grants k) []) where
  abbrev Leaves : State × Reply → Type 0
  Leaves x = Left places x.0 taken talk way (items_of x.1)

  number_left : (k : ℕ) (o : Option ℕ) → talk.stage ≡ Number k → s.phase ≡ Chosen k
      → ((p m : ℕ) → o ≡ Some p → next_at talk.wants k ≡ Some m → p % 2 ^ 24 ≡ m) → Leaves (granted talk.mode k o s)
  number_left k None stage is wanted = record {
    matched = (tt, tt);
    suited = suits;
    shakes = has Refused (has_none k stage is) told refl;
    ends = tt;
  }
  number_left k (Some p) stage is wanted = record {
    matched = (tt, tt);
    suited = λ i. a_grant talk.wants s.grants k i suits (record { mode = talk.mode; position = p })
        (λ m e. wanted p m refl e);
    shakes = has Accepted (has_number k stage refl) told refl;
    ends = tt;
  }

  pub answer_left : (r : Request) → Asks talk s.phase r → Leaves (answer_at talk.stage feed talk s)
  answer_left r (asks_place k w stage want ready) =
      subst (λ (x : Stage). Leaves (answer_at x feed talk s)) (sym stage) (record {
        matched = (tt, tt);
        suited = λ i. no_grant talk.wants s.grants k i suits;
        shakes = has Accepted (has_place k stage refl) told refl;
        ends = tt;
      })
  answer_left r (asks_number k stage is) =
      let mode : Mode = talk.mode in
      let number : Option ℕ = next_at talk.wants k in
      subst (λ (x : Stage). Leaves (answer_at x feed talk s)) (sym stage)
      (number_left k (option_and_then (grant_of mode number) (slice_get feed k)) stage is
      (λ p m e wanted. granted_alike mode number (slice_get feed k) p m e wanted (short k m wanted)))
  answer_left r (asks_end k stage is) =
      subst (λ (x : Stage). Leaves (answer_at x feed talk s)) (sym stage) (record {
        matched = tt;
        suited = suits;
        shakes = streams stage (λ b. b) tt told;
        ends = tt;
      })
