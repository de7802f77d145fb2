-- Where a client that comes again is served from.
use Rattle.std.proofs.Common.{length-drop}
use Rattle.slink_feed.proofs.GrantedAfter.{granted_lost, granted_there}
use Rattle.slink_model.specs.Ties.{AreShown}
use Rattle.slink_model.proofs.Pushed.{are_shown, rings_long}
use Rattle.std.proofs.Common.{◌≡◌, ℕ, ◌+◌, ◌-◌, ◌%◌, ◌^◌, ◌<◌, ◌≤◌, inl, inr, sym, ap, subst, ◌∙◌, arith, ◌&&◌}
use Rattle.std.proofs.Common.{List, [], length, get_or, Option, Some, None, slice_get, nat_le, if◌then◌else◌}
use Rattle.std.proofs.lemmas.Bool.Decides.{leb_tells}
use Rattle.std.specs.Option.{option_and_then}
use Rattle.slink_feed.specs.declared.grant.Mode.{Mode}
use Rattle.slink_model.specs.declared.world.Setup.{Setup}
use Rattle.slink_model.specs.declared.world.Step.{Step}
use Rattle.slink_feed.specs.Dialogue.{next_at}
use Rattle.slink_feed.specs.Grant.{grant_of}
use Rattle.slink_feed.specs.Session.{granted}
use Rattle.slink_model.specs.Slice.{IsCarried, IsSchedule, LackFew, LacksFew, Resumes, resumed}
use Rattle.slink_model.specs.Ties.{IsLinkTied, Places, WorldTies}
use Rattle.slink_feed.specs.Window.{Window, oldest_of}
use Rattle.slink_model.specs.World.{AllHappen, LinkState, WorldState, opening}
use Rattle.slink_model.proofs.Items.{held_to}
use Rattle.slink_feed.proofs.Items.{one_value}
use Rattle.slink_model.proofs.Worlds.{ties_after}
use Rattle.std.proofs.lemmas.Bool.{and_from}
use Rattle.std.proofs.lemmas.Option.{slice_get_within}

-- the number that is wanted decides, since fewer than 2^24 records are lacking
granted_is : (mode : Mode) (w : Window) (n : ℕ) → n ≤ w.next → w.next < n + 2 ^ 24 → length w.records ≤ 1000000
    → grant_of mode (Some (n % 2 ^ 24)) w ≡ resumed w n
granted_is mode w n past lacking few = elim (leb_tells (oldest_of w) n) [
  | inl lo ↦ elim (leb_tells n w.next) [
    | inl hi ↦ granted_there mode w n few past lo.1 ∙ sym (ap (λ t. if t then Some n else None)
        (and_from (nat_le (oldest_of w) n) (nat_le n w.next) lo.0 hi.0))
    | inr over ↦ absurd (omega (arith, over.1, past))
  ]
  | inr gone ↦ granted_lost mode w n lacking (omega (arith, gone.1))
      ∙ sym (ap (λ t. if t && nat_le n w.next then Some n else None) gone.0)
]

resumes_at : (places : Places) (first : ℕ) (w : WorldState) → length w.windows ≡ length places
    → AreShown places first w.windows w.pushed → WorldTies places first w → LacksFew first w → Resumes w
resumes_at places first w long are t lacks k start ring mode s held here =
    let lt : k < length places = omega (arith, slice_get_within w.windows k ring here, long) in
    let shown = are k lt in
    let one : shown.0 ≡ ring = one_value (slice_get w.windows k) shown.0 ring shown.1 here in
    let shows = rw one at shown.2 in
    let room : ring.capacity ≤ 1000000 = subst (λ (v : Window). v.capacity ≤ 1000000) one shown.3 in
    let holds = rw held at (t.beside.holds k lt) in
    let n : ℕ = start + length (get_or w.held k []) in
    let to = held_to first start (get_or w.pushed k []) (next_at w.client.talk.wants k) (get_or w.held k []) holds in
    let few : first + length (get_or w.pushed k []) < n + 2 ^ 24 = lacks k start held in
    let short : length ring.records ≤ 1000000 = omega (
      arith,
      ap length shows.records,
      length-drop (length (get_or w.pushed k []) - ring.capacity) (get_or w.pushed k []),
      room,
    ) in
    let is = granted_is mode ring n (omega (arith, shows.next, to)) (omega (arith, shows.next, few)) short in
    ap (λ (x : Option ℕ). granted mode k (option_and_then (grant_of mode x) (slice_get w.windows k)) s) holds.4
    ∙ (ap (λ (x : Option Window). granted mode k (option_and_then (grant_of mode (Some (n % 2 ^ 24))) x) s) here
    ∙ ap (λ (x : Option ℕ). granted mode k x s) is)

pub carried_at : (places : Places) (first : ℕ) (w : WorldState) (l : LinkState) → WorldTies places first w
    → w.link ≡ Some l → IsCarried places first w l
carried_at places first w l t is =
    let tied = subst (IsLinkTied places first w.pushed w.client w.held w.start) is t.link in
    record {
      items = tied.1.items;
      bytes = tied.1.flow;
      none = λ k lt e. rw e at (tied.1.places_are k lt);
      slice = λ k g lt e. let way = rw e at (tied.1.places_are k lt) in (way.0, way.1, way.2, way.3);
    }

module _ (setup : Setup) (steps : List Step) (now : WorldState) (run : AllHappen (opening setup) steps now)
    (is : IsSchedule setup steps) (lacks : LackFew setup.first (opening setup) steps now run) where
  -- After any steps the record after the last one held is granted, where it can be.
  pub resume_granted : Resumes now
  resume_granted =
      let after = ties_after setup steps now run is lacks in
      resumes_at setup.places.items setup.first now (rings_long setup now after.0.shown)
      (are_shown setup now is.capacity after.0.shown) after.1 after.2

  -- After any steps what is on its way is carried.
  pub slice_carried : (l : LinkState) → now.link ≡ Some l → IsCarried setup.places.items setup.first now l
  slice_carried l e = carried_at setup.places.items setup.first now l (ties_after setup steps now run is lacks).1 e
