-- A client that says the number which it wants next is answered by that number.
use Rattle.slink_model.proofs.Pushed.{ringed}
use Rattle.std.proofs.Common.{◌≡◌, ◌≢◌, ℕ, ◌+◌, ◌≤◌, ◌⊎◌, inl, inr, refl, sym, ap, subst, ◌∙◌, arith, Bool, true, false}
use Rattle.std.proofs.Common.{not, ◌&&◌, List, [], ◌∷◌, ◌++◌, length, length-drop, set, Option, Some, None}
use Rattle.std.proofs.Common.{slice_get}
use Rattle.std.specs.Option.{option_and_then}
use Rattle.std.proofs.lemmas.Bool.{and_parts}
use Rattle.std.proofs.lemmas.Bool.Decides.{leb_tells}
use Rattle.std.proofs.lemmas.List.{drop-append-le}
use Rattle.slink_wire.specs.declared.reply.Reply.{Reply}
use Rattle.slink_wire.specs.Reply.{reply_bytes}
use Rattle.slink_feed.specs.declared.dialogue.Stage.{Stage}
use Rattle.slink_feed.specs.declared.dialogue.Stage.TheVariants.{Station, Number}
use Rattle.slink_feed.specs.declared.grant.Grant.{Grant}
use Rattle.slink_feed.specs.declared.grant.Mode.{Mode}
use Rattle.slink_feed.specs.declared.session.Phase.{Phase}
use Rattle.slink_model.specs.declared.world.Setup.{Setup}
use Rattle.slink_model.specs.declared.world.Step.{Step}
use Rattle.slink_model.specs.declared.world.Step.TheVariants.{ToServer}
use Rattle.slink_model.specs.Calling.{AreAnswered, Awaits, IsAnswered as IsAnsweredBy, IsUnanswered}
use Rattle.slink_model.specs.Counted.{CountedLink, answer_at, if_come, served_by}
use Rattle.slink_model.specs.Counted.{taken_by, waits}
use Rattle.slink_feed.specs.Dialogue.{Talk, next_at}
use Rattle.slink_feed.specs.Grant.{grant_of}
use Rattle.slink_feed.specs.Listening.{IsLinked}
use Rattle.slink_feed.specs.Session.{Grants, State, grant_at, granted}
use Rattle.slink_model.specs.Spared.{AreAskable}
use Rattle.slink_model.specs.Slice.{IsSchedule, LackFew, Resumes}
use Rattle.slink_model.specs.Ties.{Item, Places, items_of, way_bytes}
use Rattle.slink_model.specs.World.{AllHappen, Both, Happens, IsServed, LinkState, WorldState, opening}
use Rattle.slink_feed.proofs.Items.{put_there, same_or_not}
use Rattle.slink_feed.proofs.Reached.{grant_set}
use Rattle.slink_model.proofs.Counts.{Counts, served_counts}
use Rattle.slink_model.proofs.CountedWorld.{at_after, link_at}
use Rattle.slink_model.proofs.Items.{reply_items, way_more}
use Rattle.slink_model.proofs.Resumed.{resume_granted}
use Rattle.slink_model.proofs.Shaking.{Shakes, asks, has, streams}
use Rattle.slink_model.proofs.Waiting.{answered_few}

granted_there : (s new : State) (reply : Reply) (k i : ℕ) (mode : Mode) (o : Option ℕ) → i ≢ k
    → granted mode k o s ≡ (new, reply) → grant_at new.grants i ≡ grant_at s.grants i
granted_there s new reply k i mode None ne is = ap (λ (x : State × Reply). grant_at x.0.grants i) (sym is)
granted_there s new reply k i mode (Some p) ne is = ap (λ (x : State × Reply). grant_at x.0.grants i) (sym is)
    ∙ put_there s.grants k i (Some (record { mode = mode; position = p })) None ne

dropped_there : (grants new : Grants) (k i : ℕ) (g : Grant) → new ≡ set grants k None → grant_at new i ≡ Some g
    → grant_at grants i ≡ Some g
dropped_there grants new k i g is here = elim (grant_set grants k i None) [
  | inl at_k ↦ absurd (let bad : None ≡ Some g = sym at_k.1 ∙ (ap (λ (gs : Grants). grant_at gs i) (sym is) ∙ here) in
      cc bad)
  | inr there ↦ sym there ∙ (ap (λ (gs : Grants). grant_at gs i) (sym is) ∙ here)
]

empty_right : (xs ys : List ℕ) → xs ++ ys ≡ [] → ys ≡ []
empty_right [] ys e = e
empty_right (x ∷ xs) ys e = absurd (let bad : x ∷ (xs ++ ys) ≡ [] = e in cc bad)

-- While a line waits for its answer, nothing is on its way to the client.
nothing_comes : (talk : Talk) (phase : Phase) (taken way : List ℕ) (items : List Item) → 2 ≤ length way
    → Shakes talk phase taken way items → items ≡ []
nothing_comes talk phase taken way items long (asks r asked asking none) = none
nothing_comes talk phase taken way items long (has i at told one) =
    absurd (omega (arith, long, answered_few taken way told))
nothing_comes talk phase taken way items long (streams stage later sent told) =
    absurd (omega (arith, long, answered_few taken way told))

module _ (places : Places) (w : WorldState) (resumes : Resumes w) (n : ℕ) (l m : LinkState) (c : CountedLink)
    (old : Counts places w.client c l) (new : Counts places w.client (served_by w.windows w.client.talk n c) m) where
  abbrev base : CountedLink
  base = record c { taken = taken_by n c }

  -- The line that was sent last hasn't come, or it is answered.
  data Comes : Type 0 where
    not_yet : m.session.state ≡ l.session.state → m.to_client ≡ l.to_client → Comes
    it_came : (reply : Reply) → (IsLinked w.client.talk.stage → w.client.kept ++ l.to_client ≡ [])
        → m.to_client ≡ l.to_client ++ reply_bytes reply
        → answer_at w.client.talk.stage w.windows w.client.talk l.session.state ≡ (m.session.state, reply) → Comes

  came_or : (t : Bool) → (t ≡ true → waits c.taken c.written ≡ true)
      → Counts places w.client (if_come t w.windows w.client.talk base) m → Comes
  came_or false waiting now = not_yet (now.session ∙ sym old.session) (now.to_client ∙ sym old.to_client)
  came_or true waiting now =
      let stage : Stage = w.client.talk.stage in
      let x : State × Reply = answer_at stage w.windows w.client.talk c.session in
      let way : List ℕ = way_bytes c.sent in
      let long : 2 ≤ length l.to_server = elim (leb_tells (c.taken + 2) (length c.written)) [
        | inl more ↦ omega (arith, more.1, ap length old.to_server, length-drop c.taken c.written)
        | inr less ↦ absurd (let bad : true ≡ false = sym (waiting refl) ∙ less.0 in cc bad)
      ] in
      it_came x.1
      (λ there. (old.linked there).flow ∙ ap way_bytes
      (nothing_comes w.client.talk l.session.state.phase _ l.to_server _ long (old.linked there).left.shakes))
      (rw (now.to_client, old.to_client, reply_items x.1, way_more c.sent (items_of x.1))
      (drop-append-le c.delivered way (way_bytes (items_of x.1)) old.delivered_few))
      (ap (answer_at stage w.windows w.client.talk) old.session ∙ ap (λ (s : State). (s, x.1)) (sym now.session))

  came : Comes
  came = came_or (waits c.taken c.written && not (waits (taken_by n c) c.written))
      (λ e. (and_parts (waits c.taken c.written) (not (waits (taken_by n c) c.written)) e).0) new

  -- by the number that is wanted, where the line is taken
  by_number : (k : ℕ) (reply : Reply) → w.client.talk.stage ≡ Number k → w.client.kept ++ l.to_client ≡ []
      → m.to_client ≡ l.to_client ++ reply_bytes reply
      → answer_at w.client.talk.stage w.windows w.client.talk l.session.state ≡ (m.session.state, reply)
      → IsAnsweredBy w k l m
  by_number k reply stage none sent is =
      let number = ap (λ (s : Stage). answer_at s w.windows w.client.talk l.session.state) (sym stage) ∙ is in
      record {
        reply = reply;
        written = sent ∙ ap (λ b. b ++ reply_bytes reply) (empty_right w.client.kept l.to_client none);
        number = number;
        beyond = λ start ring held here.
            sym (resumes k start ring w.client.talk.mode l.session.state held here) ∙ number;
      }

  answered : (k : ℕ) → Awaits w l k → Comes → IsUnanswered l m ⊎ IsAnsweredBy w k l m
  answered k awaits (not_yet state sent) = inl (state, sent ∙ empty_right w.client.kept l.to_client awaits.1)
  answered k awaits (it_came reply none sent is) = inr (by_number k reply awaits.0 awaits.1 sent is)

  -- a grant that is there now was there, or is the answer
  abbrev Had : ℕ → Grant → Type 0
  Had k g = (grant_at l.session.state.grants k ≡ Some g) ⊎ (Awaits w l k × IsAnsweredBy w k l m)

  had : (k : ℕ) (g : Grant) → m.session.state.grants ≡ l.session.state.grants
      → grant_at m.session.state.grants k ≡ Some g → Had k g
  had k g same here = inl (ap (λ (gs : Grants). grant_at gs k) (sym same) ∙ here)

  at_stage : (stage : Stage) (k : ℕ) (g : Grant) (reply : Reply) → w.client.talk.stage ≡ stage
      → grant_at m.session.state.grants k ≡ Some g → (IsLinked stage → w.client.kept ++ l.to_client ≡ [])
      → m.to_client ≡ l.to_client ++ reply_bytes reply
      → answer_at stage w.windows w.client.talk l.session.state ≡ (m.session.state, reply) → Had k g
  at_stage (Station j) k g reply at_j here none sent is =
      inl (dropped_there l.session.state.grants m.session.state.grants j k g
      (ap (λ (x : State × Reply). x.0.grants) (sym is)) here)
  at_stage (Number j) k g reply at_j here none sent is = elim (same_or_not k j) [
    | inl e ↦ inr (subst (λ i. Awaits w l i × IsAnsweredBy w i l m) (sym e) (
      (at_j, none tt),
      by_number j reply at_j (none tt) sent
          (ap (λ (s : Stage). answer_at s w.windows w.client.talk l.session.state) at_j ∙ is),
    ))
    | inr ne ↦ inl (sym (granted_there l.session.state m.session.state reply j k w.client.talk.mode
        (option_and_then (grant_of w.client.talk.mode (next_at w.client.talk.wants j)) (slice_get w.windows j)) ne is)
        ∙ here)
  ]
  at_stage stage k g reply at_j here none sent is = had k g (ap (λ (x : State × Reply). x.0.grants) (sym is)) here

  only_so : (k : ℕ) (g : Grant) → grant_at m.session.state.grants k ≡ Some g → Comes → Had k g
  only_so k g here (not_yet state sent) = had k g (ap (λ (s : State). s.grants) state) here
  only_so k g here (it_came reply none sent is) = at_stage w.client.talk.stage k g reply refl here none sent is

  pub are_answered : AreAnswered w l m
  are_answered = record {
    answered = λ k awaits. answered k awaits came;
    only = λ k g linked here. only_so k g here came;
  }

module _ (setup : Setup) (steps : List Step) (now : WorldState) (run : AllHappen (opening setup) steps now)
    (is : IsSchedule setup steps) (askable : AreAskable setup.places.items)
    (lacks : LackFew setup.first (opening setup) steps now run) where
  -- After any steps a client is answered so.
  pub answered_after : (n : ℕ) (next : WorldState) (l m : LinkState) → Happens now (ToServer n) next
      → now.link ≡ Some l → next.link ≡ Some m → AreAnswered now l m
  answered_after n next l m happens was becomes =
      let at = at_after setup steps now run is askable in
      let world = at.world in
      let c = link_at setup is.differ askable.codes now.client _ l (rw was at world.counts) in
      are_answered setup.places.items now (resume_granted setup steps now run is lacks) n l m c.0 c.2
      (served_counts setup.places.items is.differ askable.codes now.client world.stands.called now.windows
      (ringed setup now at.rings) n l m (rw was at (subst (Both (IsServed now.windows n) now.link) becomes happens.1))
      c.0 c.2)
