use Rattle.std.proofs.Common.{◌≡◌, ◌+◌, ◌*◌, ◌^◌, ◌<◌, ℕ, nat_abs, w32, to_z, map, get_or, pos}
use Rattle.std.proofs.Common.{arith, rules, refl, drop}
use Rattle.std.proofs.lemmas.Int.{to_z-of_z}
use Rattle.std.proofs.Math.ListN.{drop_of_length-le}
use Rattle.mseed_steim.specs.private.Lanes.{span}
use Rattle.mseed_steim.proofs.Slid.{window_held, window_less, window_long, window_on}
use Rattle.mseed_steim.proofs.Summed.{begun, next_some, span_cut, top_held}
use Rattle.mseed_steim.proofs.adding.put_turns.Goals as goal

pub loop-turn-init : goal.loop-turn-init
loop-turn-init c =
    let ds = c.args.differences.now in
    let l = c.args.last in
    let first = rw (to_z-of_z w32 l c.ranges.last) at c.put_first_four.ensures in
    let cut = span_cut ds 0 4 in
    let window = first.window (span (drop 4 ds)) (omega (arith, cut, c.requires.near)) in
    let some = next_some ds l 0 4 4 c.args.out.now c.put_first_four.new.out l
    (get_or c.put_first_four.result.0 3 (pos 0)) refl (begun ds l c.args.out.now) first.sums first.last in
    let top = top_held c.put_first_four.result.0 (window_long _ _ _ _ window)
    (omega (arith, some.near, c.requires.near)) in
    record {
      places = search rules;
      summed = rw (top, to_z-of_z w32 l c.ranges.last) some;
      window = window_held _ _ c.put_first_four.result.0 c.put_first_four.result.1 window;
    }

pub put_four-half-requires-clause-window : goal.put_four-half-requires-clause-window
put_four-half-requires-clause-window c = grind (arith, span_cut, window_less)

pub put_four-whole-requires-clause-window : goal.put_four-whole-requires-clause-window
put_four-whole-requires-clause-window c =
    let ds = c.args.differences.now in
    let k : ℕ = 4 + 8 * c.loop-turn.turn in
    let past = get_or (map (to_z w32) c.loop-turn.sums) 3 (pos 0) in
    let begun = rw (to_z-of_z w32 c.args.last c.ranges.last) at c.loop-turn.invariant.summed in
    let window = window_on ds c.args.last k c.loop-turn.out past c.put_four-half.result.0 c.put_four-half.result.1
    c.requires.near begun c.put_four-half.ensures.window in
    let cut = span_cut ds (k + 4) 4 in
    window_held _ _ c.put_four-half.result.0 c.put_four-half.result.1
    (window_less _ _ _ _ _ (omega (arith, cut)) window)

pub loop-turn-preserved : goal.loop-turn-preserved
loop-turn-preserved c =
    let ds = c.args.differences.now in
    let l = c.args.last in
    let k : ℕ = 4 + 8 * c.loop-turn.turn in
    let past = get_or (map (to_z w32) c.loop-turn.sums) 3 (pos 0) in
    let next = get_or c.put_four-half.result.0 3 (pos 0) in
    let last = get_or c.put_four-whole.result.0 3 (pos 0) in
    let begun = rw (to_z-of_z w32 l c.ranges.last) at c.loop-turn.invariant.summed in
    let half = next_some ds l k 4 (k + 4) c.loop-turn.out c.put_four-half.new.out past next refl begun
    c.put_four-half.ensures.sums c.put_four-half.ensures.last in
    let window = window_on ds l k c.loop-turn.out past c.put_four-half.result.0 c.put_four-half.result.1
    c.requires.near begun c.put_four-half.ensures.window in
    let top = top_held c.put_four-half.result.0 (window_long _ _ _ _ window)
    (omega (arith, half.near, c.requires.near)) in
    let put = rw top at c.put_four-whole.ensures in
    let whole = next_some ds l (k + 4) 4 (k + 4 + 4) c.put_four-half.new.out c.put_four-whole.new.out next last
    refl half put.sums put.last in
    let more = window_on ds l (k + 4) c.put_four-half.new.out next c.put_four-whole.result.0 c.put_four-whole.result.1
    c.requires.near half put.window in
    let turn : k + 4 + 4 ≡ 4 + 8 * (c.loop-turn.turn + 1) = omega arith in
    let near_last : nat_abs last < 2 ^ 31 = omega (arith, whole.near, c.requires.near) in
    let top_last = top_held c.put_four-whole.result.0 (window_long _ _ _ _ more) near_last in
    record {
      places = search rules;
      summed = rw (← turn, top_last, to_z-of_z w32 l c.ranges.last) whole;
      window = window_held _ _ c.put_four-whole.result.0 c.put_four-whole.result.1 (rw turn at more);
    }

pub returns-clause-last : goal.returns-clause-last
returns-clause-last c = search (arith, drop_of_length-le, to_z-of_z)
