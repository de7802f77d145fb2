use Rattle.std.proofs.Common.{◌≡◌, ◌+◌, ◌<◌, ◌^◌, ◌∙◌, List, [], ◌∷◌, take, ap, ℤ, ◌+ℤ◌, pos, get_or, nat_abs}
use Rattle.std.proofs.Common.{to_z, of_z, w32, arith}
use Rattle.mseed_steim.specs.private.Lanes.{span}
use Rattle.mseed_steim.proofs.Far.{abs_sum}
use Rattle.mseed_steim.proofs.Slid.{held_pair, held_slide}
use Rattle.mseed_steim.proofs.Summed.{added, four_of}
use Rattle.mseed_steim.proofs.adding.slide.Goals as goal

pub returns-clause-sums : goal.returns-clause-sums
returns-clause-sums c =
    let w = c.requires.window in
    let f = four_of c.args.four c.requires.long in
    let d : ℤ = get_or c.args.before 0 (pos 0) in
    let behind : c.args.before ≡ d ∷ f.a ∷ f.b ∷ f.c ∷ [] =
    c.requires.behind ∙ ap (λ (xs : List ℤ). d ∷ take 3 xs) f.same in
    rw (w.sums_are, w.pairs_are, behind, f.same)
    (held_slide w.first w.second w.third d f.a f.b f.c f.d (omega (arith, w.near, ap span f.same)))

pub returns-clause-window : goal.returns-clause-window
returns-clause-window c = λ reach more.
    let w = c.requires.window in
    let d : ℤ = get_or c.args.before 0 (pos 0) in
    let f = four_of c.args.four c.requires.long in
    let t : ℤ = ((w.first +ℤ w.second) +ℤ w.third) +ℤ d in
    let near : nat_abs w.first + (nat_abs w.second + (nat_abs w.third + nat_abs d))
    + span (f.a ∷ f.b ∷ f.c ∷ f.d ∷ []) < 2 ^ 31 = omega (arith, w.near, ap span f.same) in
    let less = rw (w.sums_are, f.same) at more in
    let to_a = abs_sum t f.a in
    let behind : c.args.before ≡ d ∷ f.a ∷ f.b ∷ f.c ∷ [] =
    c.requires.behind ∙ ap (λ (xs : List ℤ). d ∷ take 3 xs) f.same in
    let one : ℤ = to_z w32 (added (of_z w32 d) (of_z w32 f.a)) in
    let other : ℤ = to_z w32 (added (of_z w32 f.a) (of_z w32 f.b)) in
    let last : ℤ = to_z w32 (added (of_z w32 f.c) (of_z w32 f.d)) in
    let third = held_pair f.b f.c (omega (arith, near)) in
    let fourth = held_pair f.c f.d (omega (arith, near)) in
    rw (w.sums_are, w.pairs_are, behind, f.same) (record {
      first = t +ℤ f.a;
      second = f.b;
      third = f.c;
      sums_are = held_slide w.first w.second w.third d f.a f.b f.c f.d near;
      one = one;
      other = other;
      pairs_are = ap (λ (z : ℤ). one ∷ other ∷ z ∷ last ∷ []) third
          ∙ ap (λ (z : ℤ). one ∷ other ∷ (f.c +ℤ f.b) ∷ z ∷ []) fourth;
      near = omega (arith, less, to_a);
    })
