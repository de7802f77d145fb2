use Rattle.std.proofs.Common.{◌≡◌, ◌+◌, arith, drop, refl}
use Rattle.std.proofs.lemmas.List.{drop-drop}
use Rattle.mseed_steim_pack.proofs.four.three_parts.Goals as goal

pub parts_at-requires-2 : goal.parts_at-requires-2
parts_at-requires-2 c =
    (drop c.in_ok-a.a.count c.requires.0, (c.in_ok-a.ensures c.requires.0 c.requires.1).1)

pub overflow_add-second-2 : goal.overflow_add-second-2
overflow_add-second-2 c =
    let one = c.in_ok-a.ensures c.requires.0 c.requires.1 in
    let two = c.in_ok-b.ensures (drop c.in_ok-a.a.count c.requires.0) one.1 in
    record { fits = omega (arith, two.1.place) }

pub parts_at-requires-3 : goal.parts_at-requires-3
parts_at-requires-3 c =
    let one = c.in_ok-a.ensures c.requires.0 c.requires.1 in
    let two = c.in_ok-b.ensures (drop c.in_ok-a.a.count c.requires.0) one.1 in
    (drop c.in_ok-b.b.count (drop c.in_ok-a.a.count c.requires.0), two.1)

pub returns : goal.returns
returns c = λ ds is.
    let a = c.in_ok-a.a.count in
    let b = c.in_ok-b.b.count in
    let d = c.in_ok-c.c.count in
    let one = c.in_ok-a.ensures ds is in
    let two = c.in_ok-b.ensures (drop a ds) one.1 in
    let three = c.in_ok-c.ensures (drop b (drop a ds)) two.1 in
    let on : c.args.place + a + b + d ≡ c.args.place + (a + b + d) = omega arith in (
      record { first = one.0; second = two.0; third = rw drop-drop at three.0; count = refl },
      rw (drop-drop b a ds, drop-drop d (a + b) ds, on) at three.1,
    )
