-- What a client makes of all bytes that come to it.
use Rattle.slink_feed.specs.Listening.{IsLinked, Reads as IsStream, talk_after, event_if_any}
use Rattle.slink_feed.proofs.Received.{reads_more}
use Rattle.std.proofs.Common.{◌≡◌, ℕ, ◌⊎◌, inl, inr, refl, sym, ap, subst, ◌∙◌, List, [], ◌∷◌, ◌++◌, append-nil}
use Rattle.std.proofs.Common.{append_assoc}
use Rattle.slink_feed.specs.declared.dialogue.Event.{Event}
use Rattle.slink_feed.specs.declared.dialogue.Event.TheVariants as events
use Rattle.slink_feed.specs.declared.dialogue.Stage.{Stage}
use Rattle.slink_feed.specs.declared.dialogue.Stage.TheVariants.{Unlinked, Ended}
use Rattle.slink_model.specs.Counted.{Gained, with_event, with_events}
use Rattle.slink_feed.specs.Cutting.{IsBegun}
use Rattle.slink_feed.specs.Dialogue.{Talk}
use Rattle.slink_model.specs.World.{Reads}
use Rattle.slink_model.specs.World.{Numbers, Taking, none_read, noted, piece_read}
use Rattle.slink_model.specs.World.{piece_lost}
use Rattle.slink_feed.proofs.OneReading.{IsRest}
use Rattle.slink_model.proofs.Taken.{same_client}

-- what comes of events, beside the client
abbrev pub gained : Taking → Gained
gained t = record { held = t.held; start = t.start; to_server = t.to_server }

same_gained : (f : Numbers) (e : Event) (t : Taking) → gained (noted f e t) ≡ with_event f e (gained t)
same_gained f events.None t = refl
same_gained f event t = refl

pub reported_events : (f : Numbers) (e : Event) (es : List Event) (g : Gained)
    → with_events f (event_if_any e ++ es) g ≡ with_events f es (with_event f e g)
reported_events f events.None es g = refl
reported_events f event es g = refl

with_more : (f : Numbers) (es : List Event) (e : Event) (g : Gained)
    → with_events f (es ++ event_if_any e) g ≡ with_event f e (with_events f es g)
with_more f [] events.None g = refl
with_more f [] e g = refl
with_more f (x ∷ es) e g = with_more f es e (with_event f x g)

-- what a client read of a stream, what came of it, and what was lost after its end
pub record ReadAllOf (f : Numbers) (start : Talk) (g : Gained) (all : List ℕ) (last : Taking) : Type 0 where
  pub stream : List ℕ
  pub lost : List ℕ
  pub events : List Event
  pub reads : IsStream start stream events last.client
  pub all_is : all ≡ stream ++ lost
  pub gains : gained last ≡ with_events f events g
  pub whole : IsLinked last.client.talk.stage → lost ≡ []

pub lost_all : (f : Numbers) (t : Taking) (bytes : List ℕ) (last : Taking) → Reads f t bytes last
    → ¬ (IsLinked t.client.talk.stage) → last ≡ t
lost_all f t bytes last (none_read u) over = refl
lost_all f t bytes last (piece_read u v now all piece rest e split linked brings more) over = absurd (over linked)
lost_all f t bytes last (piece_lost u v all piece rest split lost more) over = lost_all f u rest v more over

read_on : (f : Numbers) (start : Talk) (g : Gained) (t : Taking) (stream bytes : List ℕ) (es : List Event)
    (last : Taking) → Reads f t bytes last → IsStream start stream es t.client → gained t ≡ with_events f es g
    → ReadAllOf f start g (stream ++ bytes) last
read_on f start g t stream bytes es last (none_read u) r gains = record {
  stream = stream;
  lost = [];
  events = es;
  reads = r;
  all_is = refl;
  gains = gains;
  whole = λ _. refl;
}
read_on f start g t stream bytes es last (piece_read u v now all piece rest e split linked brings more) r gains =
    subst (λ b. ReadAllOf f start g b v) (append_assoc stream piece rest ∙ ap (λ b. stream ++ b) (sym split))
    (read_on f start g (noted f e (record u { client = now })) (stream ++ piece) rest (es ++ event_if_any e) v more
    (subst (IsStream start (stream ++ piece) (es ++ event_if_any e)) (sym (same_client f e (record u { client = now })))
    (reads_more start stream piece es u.client now e brings r))
    (same_gained f e (record u { client = now }) ∙ (ap (with_event f e) gains ∙ sym (with_more f es e g))))
read_on f start g t stream bytes es last (piece_lost u v all piece rest split over more) r gains =
    let same : v ≡ u = lost_all f u rest v more over in
    record {
      stream = stream;
      lost = all;
      events = es;
      reads = subst (λ (x : Taking). IsStream start stream es x.client) (sym same) r;
      all_is = refl;
      gains = ap gained same ∙ gains;
      whole = λ on. absurd (over (subst (λ (x : Taking). IsLinked x.client.talk.stage) same on));
    }

pub read_all : (f : Numbers) (t : Taking) (bytes : List ℕ) (last : Taking) → Reads f t bytes last
    → IsBegun t.client.talk.stage t.client.kept
    → ReadAllOf f t.client.talk (gained t) (t.client.kept ++ bytes) last
read_all f t bytes last reads is = read_on f t.client.talk (gained t) t t.client.kept bytes [] last reads (record {
  brought = [];
  are_brought = tt;
  bytes = refl;
  events_are = refl;
  talk = refl;
  is_begun = is;
}) refl

pub rest_is : (f : Numbers) (start : Talk) (g : Gained) (all : List ℕ) (last : Taking)
    (h : ReadAllOf f start g all last) → IsRest (talk_after start h.reads.brought).stage (last.client.kept ++ h.lost)
rest_is f start g all last h linked =
    let on = rw (← h.reads.talk) at linked in
    rw (← h.reads.talk, h.whole on, append-nil last.client.kept) h.reads.is_begun

-- a stage is linked, or not
pub linked_or : (stage : Stage) → IsLinked stage ⊎ ¬ (IsLinked stage)
linked_or Unlinked = inr (λ l. l)
linked_or (Ended ending) = inr (λ l. l)
linked_or stage = inl tt
