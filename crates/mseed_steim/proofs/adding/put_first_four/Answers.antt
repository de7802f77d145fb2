use Rattle.std.proofs.Common.{◌≡◌, ◌<◌, ◌^◌, ◌∙◌, List, ℤ, take, length, get_or, ap, pos, w32}
use Rattle.std.proofs.Common.{rules}
use Rattle.std.proofs.Common.{FitsSigned, arith, subst}
use lib.Lanes.{chunk, put_chunk}
use Rattle.std.proofs.lemmas.Int.{to_z-of_z}
use Rattle.std.proofs.lemmas.Simd.{get_or-chunk, length-chunk, take_more_put_chunk}
use Rattle.mseed_steim.specs.private.Lanes.{span}
use Rattle.mseed_steim.specs.private.Sums.{IsWindow, sums}
use Rattle.mseed_steim.proofs.Slid.{sums_are_held, window_first, window_held}
use Rattle.mseed_steim.proofs.Summed.{all_held, four_of, length-sums, last_of_four}
use Rattle.mseed_steim.proofs.adding.put_first_four.Goals as goal

pub slide-requires-clause-window : goal.slide-requires-clause-window
slide-requires-clause-window c = search (rules, all_held, four_of, length-chunk, to_z-of_z, window_first)

pub returns-clause-sums : goal.returns-clause-sums
returns-clause-sums c =
    let four : List ℤ = chunk 0 4 c.args.differences.now in
    let held = sums_are_held c.slide.result.0 four c.args.last c.ranges.last c.requires.near c.slide.ensures.sums in
    let long : length four ≡ 4 = length-chunk 0 4 c.args.differences.now c.requires.some in
    ap (λ (xs : List ℤ). take 4 (put_chunk 0 c.args.out.now xs)) held
    ∙ take_more_put_chunk 0 c.args.out.now (sums c.args.last four) 4
    (omega (arith, long, length-sums c.args.last four)) c.requires.places

pub returns-clause-last : goal.returns-clause-last
returns-clause-last c =
    let four : List ℤ = chunk 0 4 c.args.differences.now in
    let held = sums_are_held c.slide.result.0 four c.args.last c.ranges.last c.requires.near c.slide.ensures.sums in
    ap (λ (xs : List ℤ). get_or xs 3 (pos 0)) held
    ∙ last_of_four c.args.last four (length-chunk 0 4 c.args.differences.now c.requires.some)

pub returns-clause-window : goal.returns-clause-window
returns-clause-window c = λ reach more.
    let ds = c.args.differences.now in
    let four : List ℤ = chunk 0 4 ds in
    let near : span four < 2 ^ 31 = omega (arith, c.requires.near) in
    let last : FitsSigned w32 c.args.last = c.ranges.last in
    let next = rw (all_held four near, to_z-of_z w32 c.args.last last) at c.slide.ensures.window in
    window_held reach (get_or ds 3 (pos 0)) c.slide.result.0 c.slide.result.1
    (subst (λ (z : ℤ). IsWindow reach z c.slide.result.0 c.slide.result.1)
    (get_or-chunk 0 4 ds 3 (pos 0) (omega arith)) (next reach more))
