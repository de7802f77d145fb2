use Rattle.std.proofs.Common.{◌≤◌, arith, rules}
use Rattle.mseed_pack.proofs.Filled.{held_enough, held_part}
use Rattle.mseed_pack.proofs.Onward.{ahead_on, known_of, part_fits}
use Rattle.mseed_pack.proofs.frames.pack_window.Goals as goal

pub pack_part-requires : goal.pack_part-requires
pack_part-requires c =
    let xs = c.requires.held.0 in
    let h = c.requires.held.1 in
    let l = c.args.left in
    let w = c.args.frames.now.window in
    let end = c.min-end.result in
    let ordered : l.first ≤ end = omega (arith, c.min-end.ensures, h.are_left.some, h.high, c.requires.frames.long) in
    let inside : end ≤ w.end = omega (arith, c.min-end.ensures) in
    let drawn = held_part xs w l.first end h.held h.low ordered inside (search rules) in
    record {
      frames = c.requires.frames;
      low = h.low;
      order = ordered;
      high = inside;
      room = h.held.few;
      fit = part_fits end drawn ordered h.ahead;
      known = known_of end drawn ordered h.ahead;
    }

pub returns-clause-filled : goal.returns-clause-filled
returns-clause-filled c = λ xs h.
    let l = c.args.left in
    let w = c.args.frames.now.window in
    let end = c.min-end.result in
    let done = c.pack_part.ensures in
    let ordered : l.first ≤ end = omega (arith, c.min-end.ensures, h.are_left.some, h.high, c.requires.frames.long) in
    let drawn = held_part xs w l.first end h.held h.low ordered (omega (arith, c.min-end.ensures)) (search rules) in (
      rw (← c.min-end.ensures) (record {
        are_left = h.are_left;
        frames = search rules;
        most = omega (arith, c.min-end.ensures);
        enough = search (rules, held_enough);
        run = rw drawn at done.packed;
      }),
      ahead_on end drawn ordered h.ahead c.pack_part.new.known c.pack_part.result.used done.packed.inside.0 done.known,
    )
