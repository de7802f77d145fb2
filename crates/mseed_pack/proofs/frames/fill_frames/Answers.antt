use Rattle.std.proofs.Common.{◌+◌, arith, sym, subst}
use Rattle.mseed_pack.specs.declared.window.Window.{Window}
use Rattle.mseed_pack.specs.private.Filling.{Draws}
use Rattle.mseed_pack.proofs.frames.fill_frames.Goals as goal

pub pack_held-requires-clause-held : goal.pack_held-requires-clause-held
pack_held-requires-clause-held g c =
    let xs = c.requires.left.0 in
    let goes = c.requires.left.1.0 in
    let left = c.requires.left.1.1 in
    let drawn = c.hold.ensures.drawn xs goes.draws (omega (arith, c.min-count.ensures, left.some, left.inside)) in (
      xs,
      record {
        held = drawn.0.held;
        low = drawn.0.low;
        high = omega (arith, drawn.1, c.min-count.ensures, left.some);
        before = goes.before;
        ahead = goes.ahead;
        are_left = left;
      },
    )

pub returns-clause-filled : goal.returns-clause-filled
returns-clause-filled g c = λ xs goes left.
    let n = c.pack_held.result.samples in
    let drawn = c.hold.ensures.drawn xs goes.draws (omega (arith, c.min-count.ensures, left.some, left.inside)) in
    let filled = c.pack_held.ensures.filled xs (record {
      held = drawn.0.held;
      low = drawn.0.low;
      high = omega (arith, drawn.1, c.min-count.ensures, left.some);
      before = goes.before;
      ahead = goes.ahead;
      are_left = left;
    }) in (
      filled.0,
      record {
        draws = subst (λ (w : Window). Draws g.S.Supply.supplies xs c.hold.new.supply w (c.args.left.first + n))
            (sym c.pack_held.ensures.window) (record {
              held = drawn.0.held;
              supplied = drawn.0.supplied;
              low = omega (arith, drawn.0.low);
              high = omega (arith, c.pack_held.ensures.few);
            });
        before = filled.1;
        ahead = filled.2;
        few = goes.few;
      },
    )
