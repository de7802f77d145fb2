-- What a client holds of a link are the records of the whole packets that came to it.
use Rattle.std.specs.List.{AllByRecursion}
use Rattle.slink_model.proofs.Pushed.{in_turn}
use Rattle.slink_model.specs.Spared.{HaveCodes}
use Rattle.slink_model.specs.Counted.{with_event}
use Rattle.slink_model.proofs.Shaking.{packets_sent}
use Rattle.slink_model.proofs.Counted.{Hears, hears_number, hears_packet, hears_place}
use Rattle.slink_feed.specs.declared.dialogue.Stage.{Stage}
use Rattle.slink_model.proofs.Shaking.{AreCalled}
use Rattle.slink_model.proofs.Counting.{wholes_length}
use Rattle.std.proofs.Common.{take_at}
use Rattle.slink_model.specs.Counted.{ArePackets}
use Rattle.std.proofs.Common.{◌≡◌, All, ℕ, ◌+◌, ◌-◌, ◌*◌, ◌/◌, ◌%◌, ◌^◌, ◌<◌, ◌≤◌, zero, suc, refl, sym}
use Rattle.std.proofs.Common.{ap, subst, ◌∙◌, arith, List, [], ◌∷◌, ◌++◌}
use Rattle.std.proofs.Common.{append-nil, append_assoc, length, length-append, replicate, get_or}
use Rattle.std.proofs.Common.{Option, Some, None}
use Rattle.std.proofs.lemmas.Option.{slice_get_within}
use Rattle.slink_feed.specs.declared.dialogue.Stage.{Stage}
use Rattle.slink_feed.specs.declared.dialogue.Stage.TheVariants.{Packets}
use Rattle.slink_feed.specs.declared.dialogue.Wanted.{Wanted}
use Rattle.slink_feed.specs.Dialogue.{Talk, heard, to_place, want_at}
use Rattle.slink_feed.specs.Listening.{IsLinked}
use Rattle.slink_model.specs.declared.world.Setup.{Setup}
use Rattle.slink_model.specs.declared.world.Step.{Step}
use Rattle.slink_model.specs.declared.world.Step.TheVariants.{Connect}
use Rattle.slink_model.specs.Counted.{AreItems, Counted, CountedLink, Gained}
use Rattle.slink_model.specs.Counted.{undelivered, counted_after, counted_opening, counted_step}
use Rattle.slink_model.specs.Counted.{on_item, part}
use Rattle.slink_model.specs.Counted.{wholes, with_event}
use Rattle.slink_model.specs.Spared.{AreAskable}
use Rattle.slink_model.specs.Slice.{IsSchedule}
use Rattle.slink_model.specs.Ties.{Item, Accepted, Carried, Finished, Places, item_bytes, way_bytes}
use Rattle.slink_model.specs.Whole.{HoldsMore, HoldsWhole, KeepsLink, held_count, packet_count, record_in, records_in}
use Rattle.slink_model.specs.World.{AllHappen, Differ, Lists, Numbers, WorldState, opening, with_one}
use Rattle.slink_model.proofs.CountedShape.{AreFacts, Along, HasShape, LinkFacts, Shape, items_are, replies_length}
use Rattle.slink_model.proofs.CountedShape.{shape_next, step_along, streamed_at}
use Rattle.slink_model.proofs.CountedWorld.{IsAt, at_after, called_of, facts_of, next_at, opening_at}
use Rattle.slink_model.proofs.CountedWorld.{the_counted_world}
use Rattle.slink_model.proofs.Counting.{whole_or}
use Rattle.slink_model.proofs.Pushed.{one_more}
use Rattle.slink_model.proofs.Pushed.{AreOf, each_of}
use Rattle.slink_feed.proofs.Prefixed.{packet_long}

-- the records of a station in two lists of items
in_more : (k : ℕ) (xs ys : List Item) → records_in k (xs ++ ys) ≡ records_in k xs ++ records_in k ys
in_more k [] ys = refl
in_more k (x ∷ xs) ys =
    ap (λ rs. record_in k x ++ rs) (in_more k xs ys)
    ∙ sym (append_assoc (record_in k x) (records_in k xs) (records_in k ys))

in_replies : (k m : ℕ) (is : List Item) → records_in k (replicate m Accepted ++ is) ≡ records_in k is
in_replies k zero is = refl
in_replies k (suc m) is = in_replies k m is

-- the packets of two lists of items
counted_more : (xs ys : List Item) → packet_count (xs ++ ys) ≡ packet_count xs + packet_count ys
counted_more [] ys = omega arith
counted_more (Carried k n r ∷ xs) ys = omega (arith, counted_more xs ys)
counted_more (x ∷ xs) ys = counted_more xs ys

counted_replies : (m : ℕ) (is : List Item) → packet_count (replicate m Accepted ++ is) ≡ packet_count is
counted_replies zero is = refl
counted_replies (suc m) is = counted_replies m is

-- one record more is held
one_counted : (lists : Lists) (j : ℕ) (b : List ℕ) → j < length lists
    → held_count (with_one lists j b) ≡ held_count lists + 1
one_counted [] j b lt = absurd (omega (arith, lt))
one_counted (xs ∷ lists) zero b lt = omega (arith, length-append xs (b ∷ []))
one_counted (xs ∷ lists) (suc j) b lt =
    let within : j < length lists = omega (arith, lt) in omega (arith, one_counted lists j b within)

-- nothing more, and more after more
holds_none : (held : Lists) → HoldsMore held [] held
holds_none held = record { each = λ k. sym (append-nil (get_or held k [])); count = omega arith }

holds_both : (old mid held : Lists) (xs ys : List Item) → HoldsMore old xs mid → HoldsMore mid ys held
    → HoldsMore old (xs ++ ys) held
holds_both old mid held xs ys a b = record {
  each = λ k. b.each k ∙ (ap (λ rs. rs ++ records_in k ys) (a.each k)
      ∙ (append_assoc (get_or old k []) (records_in k xs) (records_in k ys)
      ∙ ap (λ rs. get_or old k [] ++ rs) (sym (in_more k xs ys))));
  count = omega (arith, a.count, b.count, counted_more xs ys);
}

-- what a packet brings
packet_held : (held : Lists) (j n : ℕ) (r : List ℕ) → j < length held
    → HoldsMore held (Carried j n r ∷ []) (with_one held j r)
packet_held held j n r lt = record {
  each = λ k. one_more held j k r lt ∙ ap (λ rs. get_or held k [] ++ rs)
      (sym (append-nil (record_in k (Carried j n r))));
  count = omega (arith, one_counted held j r lt);
}

-- a line that is given brings nothing
placed : (f : Numbers) (k : ℕ) (o : Option Wanted) (t : Talk) (g : Gained)
    → (with_event f (to_place o k t).1 g).held ≡ g.held
placed f k None t g = refl
placed f k (Some w) t g = refl

-- While more is taken of a link, the client holds what it held before, and the records of what it heard.
module _ (places : Places) (before : Lists) where
  abbrev pub Holding : Talk → Lists → List Item → Type 0
  Holding t held heard = HoldsMore before heard held

  reply_held : (held now : Lists) (old : List Item) → now ≡ held → HoldsMore before old held
      → HoldsMore before (old ++ Accepted ∷ []) now
  reply_held held now old same h = holds_both before held now old (Accepted ∷ []) h
      (subst (HoldsMore held (Accepted ∷ [])) (sym same)
      (record { each = λ k. sym (append-nil (get_or held k [])); count = omega arith }))

  pub held_next : (t : Talk) (f : Numbers) (g : Gained) (old : List Item) (i : Item) → AreCalled places t.wants
      → length g.held ≡ length places → Holding t g.held old → Hears places t i
      → Holding (on_item t.stage i t).0 (with_event f (on_item t.stage i t).1 g).held (old ++ i ∷ [])
  held_next t f g old i called wide h (hears_place k stage) =
      rw stage (reply_held g.held g.held old refl h)
  held_next t f g old i called wide h (hears_number k stage) =
      reply_held g.held (with_event f (on_item t.stage Accepted t).1 g).held old
      (ap (λ (s : Stage). (with_event f (on_item s Accepted t).1 g).held) stage
      ∙ placed f (k + 1) (want_at t.wants (k + 1)) _ g) h
  held_next t f g old i called wide h (hears_packet j n r stage of) =
      rw stage (holds_both before g.held (with_one g.held j r) old (Carried j n r ∷ []) h
      (packet_held g.held j n r (omega (arith, slice_get_within places j of.0 of.1, wide))))

module _ (setup : Setup) (differ : Differ setup.places.items) (codes : HaveCodes setup.places.items)
    (some : 0 < length setup.places.items) where
  abbrev places : Places
  places = setup.places.items

  abbrev Held : Lists → Counted → Type 0
  Held before c = Along places differ codes (Holding places before) (held_next places before) c.talk c.held c.link

  all_held : (before : Lists) (steps : List Step) (w v : WorldState) (c : Counted) (run : AllHappen w steps v)
      → AreOf places steps → AllByRecursion KeepsLink steps → IsAt setup differ codes c w → Held before c
      → Held before (counted_after setup c steps)
  all_held before [] w v c run of keep on h = h
  all_held before (step ∷ steps) w v c run of keep on h =
      all_held before steps run.0 v (counted_step setup c step) run.2 of.2 keep.1
      (next_at setup differ codes w run.0 c step some of.0 of.1 run.1 on)
      (step_along places differ codes (Holding places before) (held_next places before) setup c step keep.0
      (called_of setup differ codes c w on.world) on.wide (facts_of setup differ codes c w on.world) h)

  -- from the moment on when the client connects
  pub link_held : (before steps : List Step) (w v : WorldState) (c : Counted)
      (run : AllHappen w (before ++ Connect ∷ steps) v) → AreOf places (before ++ Connect ∷ steps)
      → AllByRecursion KeepsLink steps → IsAt setup differ codes c w
      → Held (counted_after setup c before).held (counted_after setup c (before ++ Connect ∷ steps))
  link_held [] steps w v c run of keep on =
      all_held c.held steps run.0 v (counted_step setup c Connect) run.2 of.2 keep
      (next_at setup differ codes w run.0 c Connect some of.0 of.1 run.1 on) (λ linked. holds_none c.held)
  link_held (step ∷ before) steps w v c run of keep on =
      link_held before steps run.0 v (counted_step setup c step) run.2 of.2 keep
      (next_at setup differ codes w run.0 c step some of.0 of.1 run.1 on)

-- packets by how many they are
packets_length : (is : List Item) → ArePackets is → length (way_bytes is) ≡ 520 * length is
packets_length [] are = omega arith
packets_length (Carried k n r ∷ is) are = omega (
  arith,
  packets_length is are.1,
  packet_long (n % 2 ^ 24) r are.0,
  length-append (item_bytes (Carried k n r)) (way_bytes is),
)
packets_length (i ∷ is) are = absurd are

packets_counted : (is : List Item) → ArePackets is → packet_count is ≡ length is
packets_counted [] are = refl
packets_counted (Carried k n r ∷ is) are = let more = packets_counted is are.1 in omega (arith, more)
packets_counted (i ∷ is) are = absurd are

item_most : (i : Item) (is : List Item) → AreItems (i ∷ is) → length (item_bytes i) ≤ 520
item_most (Carried k n r) is are = omega (arith, packet_long (n % 2 ^ 24) r are.0)
item_most Finished is are = omega arith
item_most i is are = absurd are

part_short : (is : List Item) (d : ℕ) → d ≤ length (way_bytes is) → AreItems (undelivered d is) → part d is < 520
part_short [] d le are = omega (arith, le)
part_short (i ∷ is) d le are = whole_or i is d (λ ws bs p. AreItems bs → p < 520)
    (λ fits. part_short is (d - length (item_bytes i))
    (omega (arith, le, fits, length-append (item_bytes i) (way_bytes is))))
    (λ lt some. omega (arith, lt, item_most i is some)) are

-- so many are whole
whole_counted : (places : Places) (old held : Lists) (talk : Talk) (l : CountedLink) → talk.stage ≡ Packets
    → LinkFacts places talk l → Shape places Packets (wholes l.delivered l.sent)
    → HoldsMore old (wholes l.delivered l.sent) held → HoldsWhole (length places) old held l
whole_counted places old held talk l p y x h =
    let n : ℕ = length places in
    let its : List Item = undelivered l.delivered l.sent in
    let count : (l.delivered - 8 * n) / 520 ≡ length x.packets = omega (
      arith,
      wholes_length l.sent l.delivered y.few,
      ap (λ (is : List Item). length (way_bytes is)) x.heard_is,
      replies_length (2 * n) x.packets,
      packets_length x.packets x.are,
      part_short l.sent l.delivered y.few (items_are places y.s.phase [] its tt
          (packets_sent talk y.s.phase y.taken y.way its p y.left.shakes) y.left.matched y.left.ends),
    ) in
    let some = take_at x.packets its ((l.delivered - 8 * n) / 520) (sym count) in
    let packets : packet_count (wholes l.delivered l.sent) ≡ packet_count x.packets =
    ap packet_count x.heard_is ∙ counted_replies (2 * n) x.packets in
    record {
      streamed = streamed_at places talk l p y x;
      holds = subst (λ is. HoldsMore old is held) (sym some) (record {
        each = λ k. h.each k ∙ ap (λ rs. get_or old k [] ++ rs)
            (ap (records_in k) x.heard_is ∙ in_replies k (2 * n) x.packets);
        count = h.count ∙ ap (λ m. held_count old + m) packets;
      });
      count = h.count ∙ ap (λ m. held_count old + m)
          (packets ∙ (packets_counted x.packets x.are ∙ sym count));
    }

module _ (setup : Setup) (before steps : List Step) (now : WorldState)
    (run : AllHappen (opening setup) (before ++ Connect ∷ steps) now)
    (schedule : IsSchedule setup (before ++ Connect ∷ steps)) (askable : AreAskable setup.places.items)
    (keep : All KeepsLink steps) (l : CountedLink)
    (is : (counted_after setup (counted_opening setup) (before ++ Connect ∷ steps)).link ≡ Some l) where
  abbrev all : List Step
  all = before ++ Connect ∷ steps

  abbrev after : Counted
  after = counted_after setup (counted_opening setup) all

  abbrev old : Lists
  old = (counted_after setup (counted_opening setup) before).held

  abbrev ps : Places
  ps = setup.places.items

  same : now.held ≡ after.held
  same = (the_counted_world setup all now run schedule askable).held

  -- While the client takes from its link, it holds the records of what is whole.
  pub holds_whole : IsLinked after.talk.stage → HoldsMore old (wholes l.delivered l.sent) now.held
  holds_whole = subst (λ (held : Lists). IsLinked after.talk.stage → HoldsMore old (wholes l.delivered l.sent) held)
      (sym same) (subst (Along ps schedule.differ askable.codes (Holding ps old) (held_next ps old)
      after.talk after.held) is
      (link_held setup schedule.differ askable.codes askable.some before steps (opening setup) now
      (counted_opening setup) run (each_of ps all schedule.of_places schedule.sound) (in_turn KeepsLink steps keep)
      (opening_at setup all schedule askable)))

  -- While it awaits packets, these are counted.
  pub holds_counted : after.talk.stage ≡ Packets → HoldsWhole (length ps) old now.held l
  holds_counted p =
      let at : IsAt setup schedule.differ askable.codes after now = at_after setup all now run schedule askable in
      let linked : IsLinked after.talk.stage = subst IsLinked (sym p) tt in
      whole_counted ps old now.held after.talk l p
      (subst (AreFacts ps after.talk) is (facts_of setup schedule.differ askable.codes after now at.world) linked)
      (subst (λ (s : Stage). Shape ps s (wholes l.delivered l.sent)) p
      (subst (Along ps schedule.differ askable.codes (HasShape ps) (shape_next ps) after.talk after.held)
      is at.shaped linked)) (holds_whole linked)
