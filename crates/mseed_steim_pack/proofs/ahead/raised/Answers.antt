use Rattle.std.proofs.Common.{◌<◌, arith}
use Rattle.std.proofs.lemmas.Simd.{Each1-weaker}
use Rattle.mseed_steim_pack.proofs.Sizes.{lanes_raised}
use Rattle.mseed_steim_pack.proofs.ahead.raised.Goals as goal

pub overflow_cast-is_below : goal.overflow_cast-is_below
overflow_cast-is_below c = Each1-weaker (λ x. x < 32768) _ (λ x h. record { sfits = omega (arith, h) }) c.args.sizes
    c.requires.near

pub returns : goal.returns
returns c = λ f e h. rw e (lanes_raised c.args.limit 16 f c.args.sizes c.requires.small h c.fits-sizes.0
    c.requires.near)
