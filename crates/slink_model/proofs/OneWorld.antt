-- The steps of a schedule lead to one world.
use Rattle.slink_model.proofs.Pushed.{IsShown, Rings, opening_rings, rings_next}
use Rattle.std.proofs.Common.{◌≡◌, ℕ, ◌<◌, inl, inr, refl, sym, ap, subst, ◌∙◌, List, [], ◌∷◌, length, take}
use Rattle.std.proofs.Common.{Option, Some, None}
use Rattle.slink_feed.specs.declared.dialogue.Stage.{Stage}
use Rattle.slink_feed.specs.declared.dialogue.Stage.TheVariants.{Unlinked, Ended}
use Rattle.slink_model.specs.declared.world.Setup.{Setup}
use Rattle.slink_model.specs.declared.world.Step.{Step}
use Rattle.slink_model.specs.declared.world.Step.TheVariants.{Connect, ToServer, ToClient}
use Rattle.slink_model.specs.Counted.{Counted, CountedLink, counted_opening, counted_step, shown_all}
use Rattle.slink_feed.specs.Cutting.{IsBegun}
use Rattle.slink_feed.specs.Dialogue.{Talk, requests_place}
use Rattle.slink_feed.specs.Listening.{IsLinked, Listening}
use Rattle.slink_feed.specs.Serving.{SessionState}
use Rattle.slink_model.specs.Spared.{AreAskable}
use Rattle.slink_model.specs.Slice.{IsSchedule}
use Rattle.slink_model.specs.Ties.{Places}
use Rattle.slink_model.specs.World.{AllHappen, Both, Connects, Delivers, Differ, Happens, IsRead, LinkState, WorldState}
use Rattle.slink_model.specs.World.{opening}
use Rattle.slink_feed.proofs.Closing.{held_same, states_same}
use Rattle.slink_feed.proofs.OneReading.{seen_same}
use Rattle.slink_model.specs.Spared.{HaveCodes}
use Rattle.slink_model.proofs.CountedWorld.{no_link}
use Rattle.slink_model.proofs.CountedWorld.{AreCounts, IsWorld, a_link, beside, kept_counted, linked_anew, next_world}
use Rattle.slink_model.proofs.CountedWorld.{opening_world}
use Rattle.slink_model.proofs.ReadAll.{linked_or}
use Rattle.slink_model.proofs.Pushed.{AreOf, each_of}

worlds_same : (a b : WorldState) → a.windows ≡ b.windows → a.pushed ≡ b.pushed → a.client ≡ b.client
    → a.held ≡ b.held → a.start ≡ b.start → a.link ≡ b.link → a ≡ b
worlds_same a b p q r s u v =
    λ i. record { windows = p i; pushed = q i; client = r i; held = s i; start = u i; link = v i }

links_same : (a b : LinkState) → a.session ≡ b.session → a.first_sent ≡ b.first_sent → a.to_server ≡ b.to_server
    → a.to_client ≡ b.to_client → a ≡ b
links_same a b p q r s = λ i. record { session = p i; first_sent = q i; to_server = r i; to_client = s i }

none_kept : (stage : Stage) (kept : List ℕ) → ¬ (IsLinked stage) → IsBegun stage kept → kept ≡ []
none_kept Unlinked kept over begun = begun
none_kept (Ended ending) kept over begun = begun
none_kept stage kept over begun = absurd (over tt)

module _ (setup : Setup) (differ : Differ setup.places.items) (codes : HaveCodes setup.places.items) where
  abbrev places : Places
  places = setup.places.items

  abbrev World : Counted → WorldState → Type 0
  World c w = IsWorld setup differ codes c w

  -- A counted world is the world of one, but for what the client has kept, which its link decides.
  one_link : (client : Listening) (q : Option CountedLink) (o p : Option LinkState)
      → AreCounts setup differ codes client q o → AreCounts setup differ codes client q p → o ≡ p
  one_link client q o p no_link no_link = refl
  one_link client q o p (a_link c l a) (a_link d m b) =
      let session : l.session ≡ m.session = states_same l.session m.session (a.session ∙ sym b.session)
      (held_same l.session.held m.session.held (take c.taken c.written) a.held b.held) in
      ap (λ (x : LinkState). Some x) (links_same l m session (a.first_sent ∙ sym b.first_sent)
      (a.to_server ∙ sym b.to_server) (a.to_client ∙ sym b.to_client))

  one_beside : (c : Counted) (a b : WorldState) → IsShown setup a → IsShown setup b → World c a → World c b
      → a.client.kept ≡ b.client.kept → a ≡ b
  one_beside c a b r s x y kept =
      let same : beside a c.link ≡ beside b c.link = sym x.is ∙ y.is in
      let pushed : a.pushed ≡ b.pushed = ap (λ (z : Counted). z.pushed) same in
      let client : a.client ≡ b.client = seen_same a.client b.client (ap (λ (z : Counted). z.talk) same) kept in
      worlds_same a b (r.windows ∙ (ap (shown_all setup places) pushed ∙ sym s.windows)) pushed client
      (ap (λ (z : Counted). z.held) same) (ap (λ (z : Counted). z.start) same)
      (one_link a.client c.link a.link b.link x.counts
      (subst (λ (u : Listening). AreCounts setup differ codes u c.link b.link) (sym client) y.counts))

  one_kept : (a b : Listening) (q : Option CountedLink) (l m : LinkState) → a.talk ≡ b.talk
      → IsBegun a.talk.stage a.kept → IsBegun b.talk.stage b.kept → AreCounts setup differ codes a q (Some l)
      → AreCounts setup differ codes b q (Some m) → a.kept ≡ b.kept
  one_kept a b o l m same p q (a_link c n x) (a_link d k y) = elim (linked_or a.talk.stage) [
    | inl there ↦ kept_counted setup differ codes a c l x there
        ∙ sym (kept_counted setup differ codes b d m y (subst (λ (t : Talk). IsLinked t.stage) same there))
    | inr over ↦ none_kept a.talk.stage a.kept over p
        ∙ sym (none_kept b.talk.stage b.kept (λ on. over (subst (λ (t : Talk). IsLinked t.stage) (sym same) on)) q)
  ]

  module _ (w : WorldState) where
    read_once : (c : Counted) (n : ℕ) (a b : WorldState) (o x y : Option LinkState) → Delivers n w a → Delivers n w b
        → IsShown setup a → IsShown setup b → World c a → World c b → w.link ≡ o → a.link ≡ x → b.link ≡ y
        → Both (IsRead n w a) o x → Both (IsRead n w b) o y → a ≡ b
    read_once c n a b None x y p q r s i j was at_a at_b h k = p.unlinked was ∙ sym (q.unlinked was)
    read_once c n a b (Some l) None y p q r s i j was at_a at_b h k = absurd h
    read_once c n a b (Some l) (Some x) None p q r s i j was at_a at_b h k = absurd k
    read_once c n a b (Some l) (Some x) (Some y) p q r s i j was at_a at_b h k =
        one_beside c a b r s i j (one_kept a.client b.client c.link x y
        (ap (λ (z : Counted). z.talk) (sym i.is ∙ j.is)) i.stands.keeps j.stands.keeps
        (subst (AreCounts setup differ codes a.client c.link) at_a i.counts)
        (subst (AreCounts setup differ codes b.client c.link) at_b j.counts))

    connected_once : (a b : WorldState) → Connects w a → Connects w b → a ≡ b
    connected_once a b p q =
        let session = states_same p.session q.session (p.is_new.state ∙ sym q.is_new.state)
        (held_same p.session.held q.session.held [] p.is_new.held q.is_new.held) in
        p.becomes ∙ (ap (λ (x : SessionState). linked_anew w x (requests_place 0 w.client.talk)) session
        ∙ sym q.becomes)

    step_once : (step : Step) (c : Counted) (a b : WorldState) → Happens w step a → Happens w step b
        → IsShown setup a → IsShown setup b → World c a → World c b → a ≡ b
    step_once Connect c a b p q r s i j = connected_once a b p q
    step_once (ToServer n) c a b p q r s i j =
        one_beside c a b r s i j (ap (λ (x : WorldState). x.client.kept) p.0
        ∙ sym (ap (λ (x : WorldState). x.client.kept) q.0))
    step_once (ToClient n) c a b p q r s i j =
        read_once c n a b w.link a.link b.link p q r s i j refl refl refl p.link q.link
    step_once step c a b p q r s i j = p ∙ sym q

  all_once : (steps : List Step) (w a b : WorldState) (c : Counted) → 0 < length places → AreOf places steps
      → Rings setup w → World c w → AllHappen w steps a → AllHappen w steps b → a ≡ b
  all_once [] w a b c some of r i p q = p ∙ sym q
  all_once (step ∷ steps) w a b c some of r i p q =
      let x : World (counted_step setup c step) p.0 = next_world setup differ codes w p.0 c step some of.0 p.1 r i in
      let y : World (counted_step setup c step) q.0 = next_world setup differ codes w q.0 c step some of.0 q.1 r i in
      let s : Rings setup p.0 = rings_next setup w p.0 step of.0 of.1 p.1 r in
      all_once steps p.0 a b (counted_step setup c step) some of.2 s x p.2
      (subst (λ (z : WorldState). AllHappen z steps b)
      (sym (step_once w step (counted_step setup c step) p.0 q.0 p.1 q.1 s.shown
      (rings_next setup w q.0 step of.0 of.1 q.1 r).shown x y)) q.2)

-- Any steps lead to one world.
pub one_world : (setup : Setup) (steps : List Step) (a b : WorldState) → AllHappen (opening setup) steps a
    → AllHappen (opening setup) steps b → IsSchedule setup steps → AreAskable setup.places.items → a ≡ b
one_world setup steps a b p q is askable =
    all_once setup is.differ askable.codes steps (opening setup) a b (counted_opening setup) askable.some
    (each_of setup.places.items steps is.of_places is.sound) (opening_rings setup)
    (opening_world setup steps is askable) p q
