use Rattle.std.proofs.Common.{◌∙◌, inl, inr, refl, ◌≡◌, ℕ, ◌<◌, ◌≤◌, List, arith, ap, sym, subst, drop, length, []}
use Rattle.std.proofs.Common.{length-append, get_or}
use Rattle.slink_model.specs.Pushed.{appended_by}
use Rattle.slink_model.proofs.Pushed.{IsShown, Moves, moves, nothing_at, one_at_most, opening_is_shown}
use Rattle.std.proofs.lemmas.List.{drop_all}
use Rattle.slink_model.specs.declared.world.Step.{Step}
use Rattle.slink_model.specs.declared.world.Step.TheVariants.{Append}
use Rattle.slink_model.specs.World.{AllHappen, WorldState, opening, seen}
use Rattle.slink_model.specs.Spared.{AreAskable}
use Rattle.slink_model.proofs.Briefly.{brief_held}
use Rattle.slink_model.proofs.Calling.{answered_after}
use Rattle.slink_model.proofs.CountedWorld.{client_spared, the_counted_world}
use Rattle.slink_model.proofs.Going.{goes_on_after}
use Rattle.slink_feed.proofs.Items.{same_or_not}
use Rattle.slink_model.proofs.Worlds.{schedule_is, slice_held}
use Rattle.slink_model.proofs.OneWorld.{one_world}
use Rattle.slink_model.proofs.Resumed.{resume_granted, slice_carried}
use Rattle.slink_model.proofs.Stepping.{happens_more, possible}
use Rattle.slink_model.proofs.schedule.run_schedule.Goals as goal

pub loop-step-init : goal.loop-step-init
loop-step-init c = record {
  running = c.in_ok-world.ensures.running;
  shown = subst (IsShown c.args.setup.now) (sym c.in_ok-world.ensures.opening) (opening_is_shown c.args.setup.now);
  few = λ k. let none : length (get_or (seen c.in_ok-world.world).pushed k []) ≡ 0 =
      ap (λ (w : WorldState). length (get_or w.pushed k [])) c.in_ok-world.ensures.opening
      ∙ ap length (nothing_at c.args.setup.now.places.items k) in omega (arith, none);
  sound = λ k lt. absurd (omega (arith, lt));
  rest = λ last more. subst (λ (w : WorldState). AllHappen w c.args.steps.now last) c.in_ok-world.ensures.opening more;
}

pub step-requires-clause-possible : goal.step-requires-clause-possible
step-requires-clause-possible c =
    possible c.args.setup.now _ c.loop-step.step-index _ c.loop-step.invariant.shown c.loop-step.invariant.few
    c.requires.first (omega (arith, c.loop-step-test.true, c.requires.few))
    (c.requires.steps c.loop-step.step-index (Append 0 []) (omega (arith, c.loop-step-test.true)))

pub loop-step-preserved : goal.loop-step-preserved
loop-step-preserved c =
    let step : Step = get_or c.args.steps.now c.loop-step.step-index (Append 0 []) in
    let one : Moves c.args.setup.now (seen c.loop-step.world) step (seen c.step.new.self) =
    moves c.args.setup.now (seen c.loop-step.world) (seen c.step.new.self) step
    (c.requires.steps c.loop-step.step-index (Append 0 []) (omega (arith, c.loop-step-test.true)))
    c.loop-step.invariant.shown c.in_ok-step.ensures.happens in record {
      running = c.in_ok-step.ensures.running;
      shown = one.shown;
      few = λ k. omega (
        arith,
        c.loop-step.invariant.few k,
        ap length (one.grows k),
        length-append (get_or (seen c.loop-step.world).pushed k []) (appended_by k step),
        one_at_most k step,
      );
      sound = λ k lt. elim (same_or_not k c.loop-step.step-index) [
        | inl here ↦ rw (← here) at c.in_ok-step.ensures.sound
        | inr other ↦ c.loop-step.invariant.sound k (omega (arith, lt, other))
      ];
      rest = λ last rest. c.loop-step.invariant.rest last
          (happens_more (seen c.loop-step.world) (seen c.step.new.self) last c.args.steps.now c.loop-step.step-index
          (Append 0 []) (omega (arith, c.loop-step-test.true)) c.in_ok-step.ensures.happens rest);
    }

-- the steps led to the world
happened : (steps : List Step) (n : ℕ) (opening now : WorldState) → length steps ≤ n
    → ((last : WorldState) → AllHappen now (drop n steps) last → AllHappen opening steps last)
    → AllHappen opening steps now
happened steps n opening now past rest = rest now (rw (drop_all n steps past) refl)

pub returns : goal.returns
returns c =
    let now : WorldState = seen c.loop-step.world in
    let happens : AllHappen (opening c.args.setup.now) c.args.steps.now now =
    happened c.args.steps.now c.loop-step.step-index (opening c.args.setup.now) now
    (omega (arith, c.loop-step-test.false)) c.loop-step.invariant.rest in
    let schedule = schedule_is c.args.setup.now c.args.steps.now c.requires.count c.requires.capacity.1
    c.requires.differ c.requires.steps (λ k lt. c.loop-step.invariant.sound k (omega (arith, lt))) in
    let askable : 0 < length c.args.setup.now.places.items → AreAskable c.args.setup.now.places.items =
    λ some. record { some = some; codes = c.have_codes.ensures; numbers = c.requires.numbers } in
    record {
      happen = happens;
      counted = λ some. the_counted_world c.args.setup.now c.args.steps.now now happens schedule (askable some);
      slices = λ run lacks. slice_held c.args.setup.now c.args.steps.now now run schedule lacks;
      brief = λ run brief. brief_held c.args.setup.now c.args.steps.now now run schedule brief;
      resumes = λ run lacks. resume_granted c.args.setup.now c.args.steps.now now run schedule lacks;
      carried = λ run lacks l is. slice_carried c.args.setup.now c.args.steps.now now run schedule lacks l is;
      answers = λ run lacks some n next l m. answered_after c.args.setup.now c.args.steps.now now run schedule
          (askable some) lacks n next l m;
      goes_on = λ run lacks some l at linked. goes_on_after c.args.setup.now c.args.steps.now now run schedule
          (askable some) lacks l at linked;
      spared = λ some. client_spared c.args.setup.now c.args.steps.now now happens schedule (askable some);
      only = λ some other run. one_world _ _ _ _ run happens schedule (askable some);
    }
