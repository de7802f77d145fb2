use Rattle.std.proofs.Common.{◌≡◌, ◌+◌, ◌-◌, ◌^◌, ◌<◌, ◌∙◌, List, ℤ, take, drop, length, get_or, map, ap, pos, nat_abs}
use Rattle.std.proofs.Common.{w32, to_z, of_z, arith, refl, rules, subst}
use lib.Lanes.{put_chunk}
use Rattle.std.proofs.lemmas.Simd.{get_or-chunk, length-chunk, take_more_put_chunk}
use Rattle.mseed_steim.specs.private.Lanes.{span}
use Rattle.mseed_steim.specs.private.Sums.{IsWindow, sums}
use Rattle.mseed_steim.proofs.Slid.{before_held, four_held, window_held, window_last, window_long}
use Rattle.mseed_steim.proofs.Summed.{length-sums, sums_held, last_of_four, top_held}
use Rattle.mseed_steim.proofs.adding.put_four.Goals as goal

pub slide-requires-clause-window : goal.slide-requires-clause-window
slide-requires-clause-window c =
    let ds = c.args.differences.now in
    let w = c.requires.window in
    let four = four_held ds c.args.at (get_or ds (c.args.at - 1) (pos 0)) c.args.past c.args.pairs w in
    let before = before_held ds c.args.at c.args.past c.args.pairs c.requires.later c.requires.some w in
    rw (four, before) (window_held _ _ c.args.past c.args.pairs w)

pub slide-requires-clause-long : goal.slide-requires-clause-long
slide-requires-clause-long c =
    let ds = c.args.differences.now in
    rw (four_held ds c.args.at (get_or ds (c.args.at - 1) (pos 0)) c.args.past c.args.pairs c.requires.window)
    (length-chunk c.args.at 4 ds c.requires.some)

pub slide-requires-clause-behind : goal.slide-requires-clause-behind
slide-requires-clause-behind c =
    let ds = c.args.differences.now in
    let w = c.requires.window in
    let four = four_held ds c.args.at (get_or ds (c.args.at - 1) (pos 0)) c.args.past c.args.pairs w in
    let before = before_held ds c.args.at c.args.past c.args.pairs c.requires.later c.requires.some w in
    rw (four, before) refl

pub returns : goal.returns
returns c =
    let ds = c.args.differences.now in
    let at = c.args.at in
    let w = c.requires.window in
    let d : ℤ = get_or ds (at - 1) (pos 0) in
    let four : List ℤ = take 4 (drop at ds) in
    let past : ℤ = get_or c.args.past 3 (pos 0) in
    let long : length four ≡ 4 = length-chunk at 4 ds c.requires.some in
    let near : nat_abs past + span four < 2 ^ 31 = window_last (span four) d c.args.past c.args.pairs w in
    let top = top_held c.args.past (window_long (span four) d c.args.past c.args.pairs w) (omega (arith, near)) in
    let same = four_held ds at d c.args.past c.args.pairs w in
    let value : c.slide.result.0 ≡ sums past four = rw (top, same) at c.slide.ensures.sums in
    let next = rw (top, same) at c.slide.ensures.window in
    let held : map (to_z w32) (map (of_z w32) c.slide.result.0) ≡ sums past four =
    ap (λ (xs : List ℤ). map (to_z w32) (map (of_z w32) xs)) value ∙ sums_held past four near in
    record {
      sums = ap (λ (xs : List ℤ). take (at + 4) (put_chunk at c.args.out.now xs)) held
          ∙ take_more_put_chunk at c.args.out.now (sums past four) (at + 4) (omega (arith, long, length-sums past four))
          c.requires.places;
      last = ap (λ (xs : List ℤ). get_or xs 3 (pos 0)) held ∙ last_of_four past four long;
      window = λ reach more.
          window_held reach (get_or ds (at + 3) (pos 0)) c.slide.result.0 c.slide.result.1
          (subst (λ (z : ℤ). IsWindow reach z c.slide.result.0 c.slide.result.1)
          (get_or-chunk at 4 ds 3 (pos 0) (omega arith)) (next reach more));
      places = search rules;
    }
