use Rattle.std.proofs.Common.{◌≡◌, ◌<◌, arith, map}
use Rattle.std.proofs.lemmas.Simd.{Each1-weaker, splat_is_map}
use Rattle.mseed_steim_pack.specs.private.Ahead.{most_one}
use Rattle.mseed_steim_pack.proofs.Sizes.{two_1, one_2, one_3, same_lanes}
use Rattle.mseed_steim_pack.proofs.Lanes.{each_map}
use Rattle.mseed_steim_pack.proofs.ahead.most_one.Goals as goal

pub overflow_cast-result : goal.overflow_cast-result
overflow_cast-result c =
    let zero = splat_is_map c.args.sizes 16 1 c.fits-sizes.0 in
    let one = c.raised-most.ensures (λ _. 1) zero (λ x. omega arith) in
    let two = c.raised-most-2.ensures _ one (λ x. omega (arith, two_1 x)) in
    let value : c.raised-most-3.result ≡ map most_one c.args.sizes =
    c.raised-most-3.ensures _ two (λ x. omega (arith, one_2 x)) in
    Each1-weaker (λ x. x < 256) _ (λ x h. record { fits = omega (arith, h) }) c.raised-most-3.result (rw value
    (each_map (λ x. x < 32768) (λ x. x < 256) most_one (λ x h. omega (arith, one_3 x)) c.args.sizes c.requires))

pub returns : goal.returns
returns c =
    let zero = splat_is_map c.args.sizes 16 1 c.fits-sizes.0 in
    let one = c.raised-most.ensures (λ _. 1) zero (λ x. omega arith) in
    let two = c.raised-most-2.ensures _ one (λ x. omega (arith, two_1 x)) in
    same_lanes _ _ (c.raised-most-3.ensures _ two (λ x. omega (arith, one_2 x)))
