-- The rings show what was pushed, and that is what the steps append.
use Rattle.slink_feed.proofs.Items.{one_value, same_or_not, set_here, set_there}
use Rattle.slink_feed.proofs.Items.{drop_none, keep_more, get_drop, within_is}
use Rattle.slink_feed.specs.Window.{Window, with_record}
use Rattle.slink_model.specs.Pushed.{appended, appended_by}
use Rattle.slink_model.specs.Slice.{IsSound}
use Rattle.slink_model.specs.Ties.{AreOfPlaces, AreShown, AreSound}
use Rattle.slink_model.specs.Ties.{Places}
use Rattle.slink_model.specs.World.{AllHappen, Happens, IsOf}
use Rattle.slink_model.specs.World.{Lists, WorldState, empty_window, opening, pushed_to}
use Rattle.slink_model.specs.World.{with_one}
use Rattle.slink_model.specs.declared.world.Setup.{Setup}
use Rattle.slink_model.specs.declared.world.Step.TheVariants.{Append, Connect, ToServer, ToClient}
use Rattle.slink_model.specs.declared.world.Step.{Step}
use Rattle.slink_wire.specs.Place.{Bears, Fields}
use Rattle.std.proofs.Common.{slice_get, length-set, get_or, map}
use Rattle.std.proofs.Common.{Option, Some, None, option_map, inl}
use Rattle.std.proofs.Common.{inr, subst, ◌∙◌, arith, List, [], ◌∷◌, ◌++◌, append_assoc, append-nil, length}
use Rattle.std.proofs.Common.{length-append, ◌≡◌, ℕ, ◌+◌, ◌-◌, ◌<◌, zero, suc, refl, sym, ap}
use Rattle.std.proofs.Common.{set, All, ◌≤◌, ◌⊎◌}
use Rattle.std.proofs.lemmas.List.{length-map}
use Rattle.std.proofs.lemmas.Option.{slice_get_within}
use Rattle.std.specs.List.{AllByRecursion}
use Rattle.slink_model.specs.Counted.{shown_all, shown_of}
use Rattle.slink_model.proofs.Items.{choice_here, choice_there}
use Rattle.slink_model.proofs.Shaking.{AreRinged}
use Rattle.slink_model.proofs.Requested.{also_at}

-- by index, and one after another
module _ {X : Type 0} (P : X → Type 0) where
  pub by_index : (xs : List X) → AllByRecursion P xs → All P xs
  by_index [] h i d lt = absurd (omega (arith, lt))
  by_index (x ∷ xs) h zero d lt = h.0
  by_index (x ∷ xs) h (suc i) d lt = by_index xs h.1 i d (omega (arith, lt))

  pub in_turn : (xs : List X) → All P xs → AllByRecursion P xs
  in_turn [] h = tt
  in_turn (x ∷ xs) h = (h 0 x (omega arith), in_turn xs (λ i d lt. h (suc i) d (omega (arith, lt))))

-- one step after another
abbrev pub AreOf : Places → List Step → Type 0
AreOf places [] = Unit {0}
AreOf places (step ∷ steps) = IsOf places step × IsSound step × AreOf places steps

pub each_of : (places : Places) (steps : List Step) → All (IsOf places) steps → All IsSound steps → AreOf places steps
each_of places [] of sound = tt
each_of places (step ∷ steps) of sound = (
  of 0 step (omega arith),
  sound 0 step (omega arith),
  each_of places steps (λ k d lt. of (suc k) d (omega (arith, lt)))
      (λ k d lt. sound (suc k) d (omega (arith, lt))),
)

pub nothing_at : (ps : Places) (k : ℕ) → ◌≡◌ {A = List (List ℕ)} (get_or (map (λ _. []) ps) k []) []
nothing_at [] k = refl
nothing_at (p ∷ ps) zero = refl
nothing_at (p ∷ ps) (suc k) = nothing_at ps k

-- the last element, or one before it
get_last : (xs : List (List ℕ)) (b : List ℕ) (i : ℕ) (r : List ℕ) → slice_get (xs ++ b ∷ []) i ≡ Some r
    → (slice_get xs i ≡ Some r) ⊎ (b ≡ r)
get_last [] b zero r h = inr (let both : Some b ≡ Some r = h in cc both)
get_last [] b (suc i) r h = absurd (let bad : None ≡ Some r = h in cc bad)
get_last (x ∷ xs) b zero r h = inl h
get_last (x ∷ xs) b (suc i) r h = get_last xs b i r h

sound_more : (place : Fields) (xs : List (List ℕ)) (b : List ℕ) → length b ≡ 512 → Bears b place
    → AreSound place xs → AreSound place (xs ++ b ∷ [])
sound_more place xs b long bears sound i r h = elim (get_last xs b i r h) [
  | inl before ↦ sound i r before
  | inr last ↦ (sym (ap length last) ∙ long, subst (λ x. Bears x place) last bears)
]

-- what is shown once a record more was pushed
shown_more : (setup : Setup) (p : Fields × Option ℕ) (pushed : List (List ℕ)) (b : List ℕ)
    → with_record (shown_of setup p pushed) b ≡ shown_of setup p (pushed ++ b ∷ [])
shown_more setup p pushed b =
    let e : setup.first + length pushed + 1 ≡ setup.first + length (pushed ++ b ∷ []) = omega (
      arith,
      length-append pushed (b ∷ []),
    ) in
    rw (keep_more setup.capacity pushed b, e) refl

all_more : (setup : Setup) (ps : Places) (pushed : Lists) (k : ℕ) (b : List ℕ) (v : Window)
    → slice_get (shown_all setup ps pushed) k ≡ Some v
    → set (shown_all setup ps pushed) k (with_record v b) ≡ shown_all setup ps (with_one pushed k b)
all_more setup [] pushed k b v here = absurd (let bad : None ≡ Some v = here in cc bad)
all_more setup (p ∷ ps) [] k b v here = absurd (let bad : None ≡ Some v = here in cc bad)
all_more setup (p ∷ ps) (f ∷ fs) zero b v here =
    let one : shown_of setup p f ≡ v = one_value (Some (shown_of setup p f)) (shown_of setup p f) v refl here in
    ap (λ (w : Window). w ∷ shown_all setup ps fs) (ap (λ (w : Window). with_record w b) (sym one)
    ∙ shown_more setup p f b)
all_more setup (p ∷ ps) (f ∷ fs) (suc k) b v here = ap (λ ws. shown_of setup p f ∷ ws) (all_more setup ps fs k b v here)

opening_shown : (setup : Setup) (ps : Places) → map (empty_window setup) ps ≡ shown_all setup ps (map (λ p. []) ps)
opening_shown setup [] = refl
opening_shown setup (p ∷ ps) =
    let e : setup.first ≡ setup.first + length {A = List ℕ} [] = omega arith in
    rw (drop_none (0 - setup.capacity), ← e, opening_shown setup ps) refl

pub shown_at : (setup : Setup) (ps : Places) (pushed : Lists) (k : ℕ) (p : Fields × Option ℕ)
    → length pushed ≡ length ps → slice_get ps k ≡ Some p
    → slice_get (shown_all setup ps pushed) k ≡ Some (shown_of setup p (get_or pushed k []))
shown_at setup [] pushed k p long here = absurd (let bad : None ≡ Some p = here in cc bad)
shown_at setup (q ∷ ps) [] k p long here = absurd (omega (arith, long))
shown_at setup (q ∷ ps) (f ∷ fs) zero p long here =
    ap (λ (x : Fields × Option ℕ). Some (shown_of setup x f)) (one_value (Some q) q p refl here)
shown_at setup (q ∷ ps) (f ∷ fs) (suc k) p long here = shown_at setup ps fs k p (omega (arith, long)) here

shown_alike : (setup : Setup) (ps : Places) (pushed : Lists) (k : ℕ) → length pushed ≡ length ps
    → option_map (λ (v : Window). v.place) (slice_get (shown_all setup ps pushed) k) ≡ option_map
    (λ (p : Fields × Option ℕ). p.0) (slice_get ps k)
shown_alike setup [] pushed k long = refl
shown_alike setup (p ∷ ps) [] k long = absurd (omega (arith, long))
shown_alike setup (p ∷ ps) (f ∷ fs) zero long = refl
shown_alike setup (p ∷ ps) (f ∷ fs) (suc k) long = shown_alike setup ps fs k (omega (arith, long))

shown_long : (setup : Setup) (ps : Places) (pushed : Lists) → length pushed ≡ length ps
    → length (shown_all setup ps pushed) ≡ length ps
shown_long setup [] pushed long = refl
shown_long setup (p ∷ ps) [] long = absurd (omega (arith, long))
shown_long setup (p ∷ ps) (f ∷ fs) long =
    let rest : length fs ≡ length ps = omega (arith, long) in omega (arith, shown_long setup ps fs rest)

pub one_more : (lists : Lists) (j k : ℕ) (b : List ℕ) → j < length lists
    → get_or (with_one lists j b) k [] ≡ get_or lists k [] ++ appended_by k (Append j b)
one_more lists j k b lt = elim (same_or_not k j) [
  | inl e ↦ rw (e, set_here lists j (get_or lists j [] ++ b ∷ []) [] lt, choice_here j (b ∷ []) []) refl
  | inr ne ↦ rw (set_there lists j k (get_or lists j [] ++ b ∷ []) [] ne)
      (rw (choice_there j k (b ∷ []) [] (λ e. ne (sym e))) (sym (append-nil (get_or lists k []))))
]

pub each_more : (lists : Lists) (k : ℕ) (b : List ℕ) (i : ℕ) (Q : List (List ℕ) → Type 0) → k < length lists
    → Q (get_or lists i []) → (Q (get_or lists i []) → Q (get_or lists i [] ++ b ∷ []))
    → Q (get_or (with_one lists k b) i [])
each_more lists k b i Q lt q more = elim (same_or_not i k) [
  | inl e ↦ rw (e, set_here lists k (get_or lists k [] ++ b ∷ []) [] lt) (rw e at (more q))
  | inr ne ↦ rw (set_there lists k i (get_or lists k [] ++ b ∷ []) [] ne) q
]

module _ (setup : Setup) where
  abbrev places : Places
  places = setup.places.items

  -- There are as many lists as stations, and each ring shows its own.
  pub record IsShown (w : WorldState) : Type 0 where
    pub windows : w.windows ≡ shown_all setup places w.pushed
    pub long : length w.pushed ≡ length places

  pub ring_at : (w : WorldState) (k : ℕ) (p : Fields × Option ℕ) → IsShown w → slice_get places k ≡ Some p
      → slice_get w.windows k ≡ Some (shown_of setup p (get_or w.pushed k []))
  ring_at w k p s here =
      ap (λ (ws : List Window). slice_get ws k) s.windows ∙ shown_at setup places w.pushed k p s.long here

  pub rings_long : (w : WorldState) → IsShown w → length w.windows ≡ length places
  rings_long w s = ap length s.windows ∙ shown_long setup places w.pushed s.long

  -- so it is after a step
  pub record Moves (w : WorldState) (step : Step) (u : WorldState) : Type 0 where
    pub shown : IsShown u
    pub grows : (k : ℕ) → get_or u.pushed k [] ≡ get_or w.pushed k [] ++ appended_by k step

  stays : (w u : WorldState) (step : Step) → ((k : ℕ) → appended_by k step ≡ []) → u.windows ≡ w.windows
      → u.pushed ≡ w.pushed → IsShown w → Moves w step u
  stays w u step none windows pushed s = record {
    shown = record { windows = rw (windows, pushed) s.windows; long = rw pushed s.long };
    grows = λ k. rw (pushed, none k, append-nil (get_or w.pushed k [])) refl;
  }

  push : (w u : WorldState) (j : ℕ) (b : List ℕ) → IsOf places (Append j b) → IsShown w
      → u ≡ pushed_to w j b (slice_get w.windows j) → Moves w (Append j b) u
  push w u j b of s is =
      let v : Window = shown_of setup of.0 (get_or w.pushed j []) in
      let lt : j < length w.pushed = omega (arith, slice_get_within places j of.0 of.1, s.long) in
      rw (is, ring_at w j of.0 s of.1) (record {
        shown = record {
          windows = ap (λ (ws : List Window). set ws j (with_record v b)) s.windows
              ∙ all_more setup places w.pushed j b v (shown_at setup places w.pushed j of.0 s.long of.1);
          long = length-set w.pushed j (get_or w.pushed j [] ++ b ∷ []) ∙ s.long;
        };
        grows = λ k. one_more w.pushed j k b lt;
      })

  pub moves : (w u : WorldState) (step : Step) → IsOf places step → IsShown w → Happens w step u → Moves w step u
  moves w u (Append j b) of s h = push w u j b of s h
  moves w u Connect of s h = rw h.becomes (stays w _ Connect (λ k. refl) refl refl s)
  moves w u (ToServer n) of s h = rw h.0 (stays w _ (ToServer n) (λ k. refl) refl refl s)
  moves w u (ToClient n) of s h = stays w u (ToClient n) (λ k. refl) h.windows h.pushed s
  moves w u step of s h = rw h (stays w _ step (λ k. refl) refl refl s)

  all_move : (w v : WorldState) (steps : List Step) → AllByRecursion (IsOf places) steps → IsShown w
      → AllHappen w steps v → (k : ℕ) → get_or v.pushed k [] ≡ get_or w.pushed k [] ++ appended k steps
  all_move w v [] of s run k = rw run (sym (append-nil (get_or w.pushed k [])))
  all_move w v (step ∷ steps) of s run k =
      let one : Moves w step run.0 = moves w run.0 step of.0 s run.1 in
      all_move run.0 v steps of.1 one.shown run.2 k
      ∙ (ap (λ xs. xs ++ appended k steps) (one.grows k) ∙ append_assoc (get_or w.pushed k []) (appended_by k step)
      (appended k steps))

  pub opening_is_shown : IsShown (opening setup)
  opening_is_shown = record { windows = opening_shown setup places; long = length-map places (λ _. []) }

  -- the same, where each record is of its station
  pub record Rings (w : WorldState) : Type 0 where
    pub shown : IsShown w
    pub sound : AreOfPlaces places w.pushed

  sound_on : (w u : WorldState) (step : Step) → IsOf places step → IsSound step
      → ((k : ℕ) → get_or u.pushed k [] ≡ get_or w.pushed k [] ++ appended_by k step) → AreOfPlaces places w.pushed
      → AreOfPlaces places u.pushed
  sound_on w u (Append j b) of long grows sound k p here = elim (same_or_not k j) [
    | inl e ↦ subst (AreSound p.0) (sym (grows k ∙ ap (λ xs. get_or w.pushed k [] ++ xs)
        (ap (λ i. appended_by i (Append j b)) e ∙ choice_here j (b ∷ []) [])))
        (sound_more p.0 (get_or w.pushed k []) b long (subst (λ (q : Fields × Option ℕ). Bears b q.0)
        (one_value (slice_get places j) of.0 p of.1 (subst (λ i. slice_get places i ≡ Some p) e here)) of.2)
        (sound k p here))
    | inr ne ↦ subst (AreSound p.0) (sym (grows k ∙ (ap (λ xs. get_or w.pushed k [] ++ xs)
        (choice_there j k (b ∷ []) [] (λ e. ne (sym e))) ∙ append-nil (get_or w.pushed k [])))) (sound k p here)
  ]
  sound_on w u step of long grows sound k p here =
      subst (AreSound p.0) (sym (grows k ∙ append-nil (get_or w.pushed k []))) (sound k p here)

  pub rings_next : (w u : WorldState) (step : Step) → IsOf places step → IsSound step → Happens w step u → Rings w
      → Rings u
  rings_next w u step of long h r =
      let one : Moves w step u = moves w u step of r.shown h in
      record { shown = one.shown; sound = sound_on w u step of long one.grows r.sound }

  pub opening_rings : Rings (opening setup)
  opening_rings = record {
    shown = opening_is_shown;
    sound = λ k p here. subst (AreSound p.0) (sym (nothing_at places k))
        (λ i r h. absurd (let bad : None ≡ Some r = h in cc bad));
  }

  -- what is known of each ring
  pub are_shown : (w : WorldState) → setup.capacity ≤ 1000000 → IsShown w
      → AreShown places setup.first w.windows w.pushed
  are_shown w room s k lt =
      let q : (p : Fields × Option ℕ) × (slice_get places k ≡ Some p) = within_is places k lt in (
        shown_of setup q.0 (get_or w.pushed k []),
        ring_at w k q.0 s q.1,
        record { records = refl; next = refl },
        room,
      )

  pub ringed : (w : WorldState) → Rings w → AreRinged places w.windows
  ringed w r = record {
    alike = alike;
    sound = λ k v here.
        let q = also_at (λ (x : Window). x.place) (λ (x : Fields × Option ℕ). x.0) (slice_get w.windows k)
        (slice_get places k) v (alike k) here in
        let F : List (List ℕ) = get_or w.pushed k [] in
        subst (λ (x : Window). AreSound x.place x.records)
        (one_value (slice_get w.windows k) (shown_of setup q.0 F) v (ring_at w k q.0 r.shown q.1) here)
        (λ j x at_j. r.sound k q.0 q.1 (length F - setup.capacity + j) x
        (sym (get_drop (length F - setup.capacity) F j) ∙ at_j));
  }
    where
      alike : (k : ℕ) → option_map (λ (v : Window). v.place) (slice_get w.windows k) ≡ option_map
          (λ (p : Fields × Option ℕ). p.0) (slice_get places k)
      alike k = ap (λ (ws : List Window). option_map (λ (v : Window). v.place) (slice_get ws k)) r.shown.windows
          ∙ shown_alike setup places w.pushed k r.shown.long

pub pushes : (setup : Setup) (steps : List Step) (now : WorldState) → AllHappen (opening setup) steps now
    → All (IsOf setup.places.items) steps
    → (k : ℕ) → get_or now.pushed k [] ≡ appended k steps
pushes setup steps now run of k =
    all_move setup (opening setup) now steps (in_turn (IsOf setup.places.items) steps of) (opening_is_shown setup) run k
    ∙ ap (λ xs. xs ++ appended k steps) (nothing_at setup.places.items k)

-- a step appends one record at most
pub one_at_most : (k : ℕ) (step : Step) → length (appended_by k step) ≤ 1
one_at_most k (Append j b) = elim (same_or_not j k) [
  | inl e ↦ let one : length (appended_by k (Append j b)) ≡ 1 =
      ap length (ap (λ i. appended_by i (Append j b)) (sym e) ∙ choice_here j (b ∷ []) []) in omega (arith, one)
  | inr ne ↦ let none : length (appended_by k (Append j b)) ≡ 0 = ap length (choice_there j k (b ∷ []) [] ne) in
      omega (arith, none)
]
one_at_most k step = omega arith
