use Rattle.std.proofs.Common.{◌≢◌, arith, inr}
use Rattle.std.proofs.lemmas.List.{length-drop}
use Rattle.mseed_steim_pack.proofs.Lookaheads.{known_here}
use Rattle.mseed_steim_pack.proofs.pack.push_each.Goals as goal

pub loop-reached-init : goal.loop-reached-init
loop-reached-init g c = search (arith)

pub push_next-requires-clause-some : goal.push_next-requires-clause-some
push_next-requires-clause-some g c =
    let is = c.loop-reached.invariant.fills c.requires.reached.0 c.requires.reached.1 in
    let inside = c.loop-reached.invariant.used in
    elim c.else-reached-count.branch [
      | goal.else-reached-count-via-else-reached-count w ↦
          let more : c.loop-reached.reached.used ≢ c.count-count.result = w.if-reached-count.false in
          omega (arith, more, inside, c.count-count.ensures.value)
      | goal.else-reached-count-via-then-reached-count+else-known-reached-lt2 w ↦
          let here = (known_here c.args.scheme _ _ is.ahead).0 (omega (arith, w.if-known-reached-lt2.false)) in
          omega (arith, here.1, length-drop c.loop-reached.reached.used (g.P.Pending.differences c.args.pending.now))
    ]

pub push_next-requires-clause-early : goal.push_next-requires-clause-early
push_next-requires-clause-early g c = omega (arith, c.if-due-reached.false, c.requires.due)

pub push_next-requires-clause-reached : goal.push_next-requires-clause-reached
push_next-requires-clause-reached g c =
    (c.requires.reached.0, c.loop-reached.invariant.fills c.requires.reached.0 c.requires.reached.1)

pub loop-reached-preserved : goal.loop-reached-preserved
loop-reached-preserved g c =
    let before = c.loop-reached.invariant in
    let moves = c.in-Ok.ensures.moves in
    let is = c.in-Ok.ensures.fills c.requires.reached.0 (before.fills c.requires.reached.0 c.requires.reached.1) in
    record {
      frame = omega (arith, moves, before.frame, c.loop-reached-test.true, c.push_next.auto.frames);
      moves = record {
        inside = omega (arith, moves, c.loop-reached-test.true);
        moves = inr (omega (arith, moves, before.moves.moves));
      };
      used = is.pushing.inside;
      place = is.ahead.place;
      fills = λ head from. c.in-Ok.ensures.fills head (before.fills head from);
    }
