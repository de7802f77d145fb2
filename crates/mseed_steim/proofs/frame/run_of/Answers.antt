use Rattle.std.proofs.Common.{◌≡◌, ◌<◌, ◌≤◌, ◌+◌, ◌-◌, ◌*◌, ◌^◌, ◌++◌, ◌+ℤ◌, ℕ, List, pos, nat_abs}
use Rattle.std.proofs.Common.{arith, rules, sym, subst, refl, w32, FitsSigned, ⊎_elim}
use Rattle.std.proofs.lemmas.Int.{to_z-of_z}
use Rattle.std.proofs.lemmas.Bool.{cases_lt}
use Rattle.mseed_steim.specs.Frames.{words_from}
use Rattle.mseed_steim.specs.private.Lanes.{Begins}
use Rattle.mseed_steim.proofs.Far.{total_near}
use Rattle.mseed_steim.proofs.FrameItems.{begins_low}
use Rattle.mseed_steim.proofs.Raised.{moves_more, moves_none, raised_none, raised_plus}
use Rattle.mseed_steim.proofs.Walking.{words_cut, words_none, words_skip}
use Rattle.mseed_steim.proofs.frame.run_of.Goals as goal

pub loop-taken-init : goal.loop-taken-init
loop-taken-init c = record {
  inside = omega arith;
  few = omega arith;
  most = omega arith;
  lanes = refl;
  so_far = λ p k from begins frames.
      let none : 0 - from ≡ 0 = omega arith in
      (pos 0, (raised_none, rw (none, words_none p (16 * k + from)) (moves_none c.args.scheme)));
}

-- the words of one frame more, which is the first or after others
one_more : (p : List ℕ) (k from i : ℕ) → 0 < i → from ≤ 16 → words_from p (16 * k + from) (16 * (i + 1) - from)
    ≡ words_from p (16 * k + from) (16 * i - from) ++ words_from p (16 * (k + i) + 1) 15
one_more p k from i some low =
    let count : 16 * i - from + 16 ≡ 16 * (i + 1) - from = omega (arith, some, low) in
    grind (arith, words_cut, words_skip)

first_more : (p : List ℕ) (k from i : ℕ) → i ≡ 0 → words_from p (16 * k + from) (16 * (i + 1) - from)
    ≡ words_from p (16 * k + from) (16 * i - from) ++ words_from p (16 * (k + i) + from) (16 - from)
first_more p k from i e = search (arith, words_none)

pub loop-taken-preserved : goal.loop-taken-preserved
loop-taken-preserved c =
    let i = c.loop-taken.taken in
    let s = c.args.scheme in
    let reach : 2 ^ 20 * i + 2 ^ 20 ≡ 2 ^ 20 * (i + 1) = omega arith in
    record {
      inside = omega arith;
      few = omega (arith, c.loop-taken.invariant.few);
      most = omega arith;
      lanes = search rules;
      so_far = λ p k from begins frames.
          let before = c.loop-taken.invariant.so_far p k from begins frames in
          let here = frames i c.loop-taken-test.true in
          ⊎_elim
          (λ (some : 0 < i).
          let low = begins_low c.args.begin from begins in
          let told = c.frame_lanes-lanes.ensures p (k + i) 1 (c.begin_at.ensures.later some) here (omega arith) in (
            before.0 +ℤ told.0,
            (
              raised_plus _ _ _ before.0 told.0 before.1.0 told.1.0 c.plus-by.ensures,
              rw (one_more p k from i some low.1) (rw reach at (moves_more s _ _ _ _ before.0 told.0 _ _ before.1.1
                  told.1.1)),
            ),
          ))
          (λ (none : i ≤ 0).
          let at : i ≡ 0 = omega (arith, none) in
          let same = subst (λ (b : List ℕ). Begins b from) (sym (c.begin_at.ensures.first at)) begins in
          let told = c.frame_lanes-lanes.ensures p (k + i) from same here (omega arith) in (
            before.0 +ℤ told.0,
            (
              raised_plus _ _ _ before.0 told.0 before.1.0 told.1.0 c.plus-by.ensures,
              rw (first_more p k from i at) (rw reach at (moves_more s _ _ _ _ before.0 told.0 _ _ before.1.1
                  told.1.1)),
            ),
          ))
          (cases_lt 0 i);
    }

pub returns : goal.returns
returns c =
    let fits : FitsSigned w32 c.lowered.result = search rules in
    rw (to_z-of_z w32 c.lowered.result fits) (record {
      inside = c.loop-taken.invariant.inside;
      few = c.loop-taken.invariant.most;
      moves = λ p k from begins frames.
          let so_far = c.loop-taken.invariant.so_far p k from begins frames in
          let all = total_near so_far.1.1.0 in
          let near : nat_abs so_far.0 < 2 ^ 24 =
          rw (← so_far.1.1.1.0.by_is) (omega (
            arith,
            all,
            so_far.1.1.1.0.near,
            c.requires,
            c.loop-taken.invariant.inside,
          )) in
          rw (c.lowered.ensures so_far.0 near so_far.1.0) so_far.1.1;
    })
