use Rattle.std.proofs.Common.{◌≡◌, ◌<◌, ◌≤◌, ◌+◌, ◌-◌, ◌%◌, arith, drop, inl, inr, refl}
use Rattle.std.proofs.lemmas.List.{drop-drop}
use Rattle.mseed_steim_pack.proofs.Coding.{pushed_so_far}
use Rattle.mseed_steim_pack.proofs.pack.push_known.Goals as goal

pub loop-index-init : goal.loop-index-init
loop-index-init c =
    let from = c.args.reached in
    let none : from.used ≡ from.used + (from.place - from.place) = omega arith in
    record {
      frame = omega (arith, c.requires.frame);
      moves = record { inside = c.requires.frame.inside; moves = inl (refl, refl) };
      known = (drop from.used c.requires.reached.0, c.requires.reached.1.1.ahead);
      order = omega arith;
      fills = λ ds head is. rw (← none) is;
    }

pub overflow_add-place : goal.overflow_add-place
overflow_add-place c =
    let known = c.in-Some.ensures c.loop-index.invariant.known.0 c.loop-index.invariant.known.1 in
    record { fits = omega (arith, known.1.place) }

pub loop-index-preserved : goal.loop-index-preserved
loop-index-preserved c =
    let before = c.loop-index.invariant in
    let from = c.args.reached in
    let count = c.in-Some.four.count in
    let used = from.used + (c.loop-index.place - from.place) in
    let more = c.loop-index-test.true in
    let low : 0 < c.loop-index.index % 16 = omega (arith, before.frame, more) in
    let high : c.loop-index.index % 16 ≤ 12 = omega (arith, before.frame, more) in
    let on : used + count ≡ from.used + (c.loop-index.place + count - from.place) = omega (arith, before.order) in
    record {
      frame = omega (arith, before.frame, more, c.push_four-codes.auto.frames);
      moves = record { inside = omega (arith, more); moves = inr (omega (arith, before.moves.moves)) };
      known = (drop count before.known.0, (c.in-Some.ensures before.known.0 before.known.1).1);
      order = omega (arith, before.order);
      fills = λ ds head is.
          let so_far = before.fills ds head is in
          let found = c.in-Some.ensures (drop used ds) so_far.ahead in
          record {
            pushing = pushed_so_far (c.push_four-codes.ensures c.args.scheme ds head used low high so_far.pushing
                found.0) refl on;
            ahead = rw (drop-drop count used ds, on) at found.1;
          };
    }

pub three_ahead-requires : goal.three_ahead-requires
three_ahead-requires c = record { known = c.loop-index.invariant.known }

pub overflow_add-result : goal.overflow_add-result
overflow_add-result c =
    let found = c.in-Some-three_ahead.ensures c.loop-index.invariant.known.0 c.loop-index.invariant.known.1 in
    record { fits = omega (arith, found.1.place, c.requires.few) }

pub overflow_add-result-2 : goal.overflow_add-result-2
overflow_add-result-2 c =
    let found = c.in-Some-three_ahead.ensures c.loop-index.invariant.known.0 c.loop-index.invariant.known.1 in
    record { fits = omega (arith, found.1.place) }

pub returns-clause-moves : goal.returns-clause-moves
returns-clause-moves c = search (arith)

pub returns-clause-fills : goal.returns-clause-fills
returns-clause-fills c = λ ds head from.
    let used = c.args.reached.used + (c.loop-index.place - c.args.reached.place) in
    let so_far = c.loop-index.invariant.fills ds head from in
    let frame = c.loop-index.invariant.frame in
    let low : 0 < c.loop-index.index % 16 = omega (arith, frame, c.if-index-end.false) in
    let high : c.loop-index.index % 16 ≤ 13 = omega (arith, frame, c.if-index-end.false) in
    let found = c.in-Some-three_ahead.ensures (drop used ds) so_far.ahead in
    record {
      pushing = c.push_three.ensures c.args.scheme ds head used low high so_far.pushing found.0;
      ahead = rw drop-drop at found.1;
    }
