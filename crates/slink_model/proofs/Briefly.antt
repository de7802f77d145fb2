-- In fewer than 2^24 steps fewer than 2^24 records are lacking.
use Rattle.std.proofs.Common.{◌≡◌, ℕ, ◌+◌, ◌^◌, ◌<◌, ◌≤◌, ap, arith, List, [], ◌∷◌}
use Rattle.std.proofs.Common.{length, length-append, get_or, Option, Some}
use Rattle.slink_model.specs.declared.world.Setup.{Setup}
use Rattle.slink_model.specs.declared.world.Step.{Step}
use Rattle.slink_feed.specs.Dialogue.{next_at}
use Rattle.slink_model.specs.Slice.{HoldsSlices, IsSchedule, LackFew, LacksFew}
use Rattle.slink_model.specs.Ties.{Holds, Places, WorldTies}
use Rattle.slink_model.specs.World.{AllHappen, Differ, WorldState, opening}
use Rattle.slink_model.proofs.Stations.{slot_within}
use Rattle.slink_model.proofs.Worlds.{opening_ties, slice_held, step_ties}
use Rattle.slink_model.proofs.Pushed.{AreOf, Rings, each_of, moves, nothing_at, one_at_most, opening_rings, rings_next}
use Rattle.slink_model.specs.Pushed.{appended_by}

started_after : (first s : ℕ) (F : List (List ℕ)) (next : Option ℕ) (held : List (List ℕ))
    → Holds first F next held (Some s) → first ≤ s
started_after first s F next held h = omega (arith, h.3)

lacks_few : (places : Places) (first : ℕ) (w : WorldState) → WorldTies places first w
    → ((i : ℕ) → length (get_or w.pushed i []) < 2 ^ 24) → LacksFew first w
lacks_few places first w t short k s is =
    let lt : k < length places = omega (arith, slot_within w.start k s is, t.beside.long.1) in
    let from = started_after first s (get_or w.pushed k []) (next_at w.client.talk.wants k) (get_or w.held k [])
    (rw is at (t.beside.holds k lt)) in
    omega (arith, from, short k)

module _ (setup : Setup) (room : setup.capacity ≤ 1000000) where
  lack_few : (steps : List Step) (w v : WorldState) (run : AllHappen w steps v) → length setup.places.items ≤ 16
      → Differ setup.places.items → AreOf setup.places.items steps → Rings setup w
      → WorldTies setup.places.items setup.first w
      → ((i : ℕ) → length (get_or w.pushed i []) + length steps < 2 ^ 24) → LackFew setup.first w steps v run
  lack_few [] w v run most differ of r t short =
      lacks_few setup.places.items setup.first w t (λ i. omega (arith, short i))
  lack_few (step ∷ steps) w v run most differ of r t short =
      let now : LacksFew setup.first w = lacks_few setup.places.items setup.first w t (λ i. omega (arith, short i)) in (
        now,
        lack_few steps run.0 v run.2 most differ of.2 (rings_next setup w run.0 step of.0 of.1 run.1 r)
            (step_ties setup room w run.0 step most differ of.0 now run.1 r t)
            (λ i. omega (
              arith,
              short i,
              ap length ((moves setup w run.0 step of.0 r.shown run.1).grows i),
              length-append (get_or w.pushed i []) (appended_by i step),
              one_at_most i step,
            )),
      )

-- In fewer than 2^24 steps nothing else is called.
pub brief_lacks : (setup : Setup) (steps : List Step) (now : WorldState) (run : AllHappen (opening setup) steps now)
    → IsSchedule setup steps → length steps < 2 ^ 24 → LackFew setup.first (opening setup) steps now run
brief_lacks setup steps now run is brief =
    lack_few setup is.capacity steps (opening setup) now run is.few_places is.differ
    (each_of setup.places.items steps is.of_places is.sound) (opening_rings setup) (opening_ties setup)
    (λ i. let none : length (get_or (opening setup).pushed i []) ≡ 0 = ap length (nothing_at setup.places.items i) in
    omega (arith, none, brief))

pub brief_held : (setup : Setup) (steps : List Step) (now : WorldState) → AllHappen (opening setup) steps now
    → IsSchedule setup steps → length steps < 2 ^ 24 → HoldsSlices setup.places.items setup.first now
brief_held setup steps now run is brief = slice_held setup steps now run is (brief_lacks setup steps now run is brief)
