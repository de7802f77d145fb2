use Rattle.std.proofs.Common.{◌≡◌, ◌<◌, arith, get_or, length, List, map, ℕ, w8}
use Rattle.std.proofs.lemmas.List.{length-map}
use Rattle.std.proofs.lemmas.Simd.{Each1-weaker, SwzOk, map-map, swz_l}
use Rattle.mseed_steim.proofs.LaneTables.{looked_up, swizzle_ok}
use Rattle.mseed_steim_pack.proofs.Sizes.{same_lanes}
use Rattle.mseed_steim_pack.proofs.Lanes.{each_map}
use lib.Lanes.{Each1}
use Rattle.std.proofs.Common.{◌∙◌}
use Rattle.mseed_steim_pack.proofs.Classes.{eighth, eighth_small, eighths, parts, narrow_place, narrow_few, wide_place}
use Rattle.mseed_steim_pack.proofs.Classes.{wide_few, eighths_read, far_small, narrow_read, wide_read, lanes_two}
use Rattle.mseed_steim_pack.proofs.ahead.most_two.Goals as goal

-- a table that is read at a place for each size
read : (t : List ℕ) (place : ℕ → ℕ) → ((x : ℕ) → place x < 16) → (sizes : List ℕ) → length sizes ≡ 16
    → Each1 (λ x. x < 32768) sizes → SwzOk w8 16 16 0 (map place sizes)
    × (swz_l w8 16 t 0 (map place sizes) ≡ map (λ x. get_or t (place x) 0) sizes)
read t place few sizes h near =
    let long = length-map sizes place ∙ h in
    let below = each_map (λ x. x < 32768) (λ j. j < 16) place (λ x l. few x) sizes near in (
      swizzle_ok (map place sizes) long below,
      looked_up t (map place sizes) long below ∙ map-map (λ r. get_or t r 0) place sizes,
    )

pub overflow_cast-eighths : goal.overflow_cast-eighths
overflow_cast-eighths c = rw (eighths_read 16 c.args.sizes c.fits-sizes.0)
    (each_map (λ x. x < 32768) _ eighth (λ x h. record { fits = eighth_small x }) c.args.sizes c.requires)

pub overflow_cast-result : goal.overflow_cast-result
overflow_cast-result c = Each1-weaker (λ x. x < 256) _ (λ x h. record { fits = omega (arith, h) }) _
    (far_small 16 c.args.sizes c.fits-sizes.0 c.requires)

pub swizzle-narrow : goal.swizzle-narrow
swizzle-narrow c =
    let long = c.fits-sizes.0 in
    rw (same_lanes _ _ (eighths_read 16 c.args.sizes long), narrow_read 16 c.args.sizes long)
    (read eighths narrow_place narrow_few c.args.sizes long c.requires).0

pub swizzle-wide : goal.swizzle-wide
swizzle-wide c =
    let long = c.fits-sizes.0 in
    rw (same_lanes _ _ (eighths_read 16 c.args.sizes long), wide_read 16 c.args.sizes long)
    (read parts wide_place wide_few c.args.sizes long c.requires).0

pub returns : goal.returns
returns c =
    let sizes = c.args.sizes in
    let long = c.fits-sizes.0 in
    let narrow = (read eighths narrow_place narrow_few sizes long c.requires).1 in
    let wide = (read parts wide_place wide_few sizes long c.requires).1 in
    rw (same_lanes _ _ (eighths_read 16 sizes long), narrow_read 16 sizes long, wide_read 16 sizes long, narrow, wide)
    (lanes_two 16 sizes long c.requires)
