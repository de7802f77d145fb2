use Rattle.std.proofs.Common.{arith, rules}
use Rattle.mseed_pack.specs.private.KnownSamples.{sample_before}
use Rattle.mseed_pack.proofs.Marked.{before_fits, reached, returned}
use Rattle.mseed_pack.proofs.window.Window.sample_before.Goals as goal

pub returns-then-mark-place : goal.returns-then-mark-place
returns-then-mark-place c = λ xs h fit is.
    let inside = h.inside in
    reached c.args.mark.sample c.moved.result (sample_before xs c.args.mark.place) (sample_before xs c.args.place)
    (search rules) (search rules)
    (before_fits xs c.args.place c.requires.some (omega (arith, inside, c.requires.high)) fit) is (c.moved.ensures xs h)

pub returns-else-mark-place : goal.returns-else-mark-place
returns-else-mark-place c = λ xs h fit is.
    returned c.args.mark.sample c.moved-else-mark-place.result (sample_before xs c.args.place)
    (sample_before xs c.args.mark.place) (search rules) (search rules)
    (before_fits xs c.args.place c.requires.some (omega (arith, h.inside, c.requires.high)) fit) is
    (c.moved-else-mark-place.ensures xs h)
