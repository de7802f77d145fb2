use Rattle.std.proofs.Common.{◌≡◌, ◌+◌, ◌≤◌, ℕ, take, length, arith, refl, rules, Ok, w32}
use Rattle.std.proofs.Common.{FitsSigned, ◌∙◌}
use Rattle.std.proofs.lemmas.Int.{to_z-of_z}
use Rattle.std.proofs.lemmas.List.{length-take-le}
use Rattle.mseed_steim.specs.declared.sum.Sum.{Sum}
use Rattle.mseed_steim.proofs.Continuing.{continues_near, first_span}
use Rattle.mseed_steim.proofs.Continuing.{span_needed, walks_needed}
use Rattle.mseed_steim.proofs.keep.keep_needed.Goals as goal

pub returns : goal.returns
returns g c = λ more.
    let ds = c.args.differences.now in
    let k : ℕ = c.min-needed.result in
    let sum = c.args.sum in
    let all : length ds ≡ 128 = search rules in
    let needed : k ≤ c.args.count = omega (arith, c.min-needed.ensures) in
    let long : length (take k ds) ≡ k = length-take-le k ds (omega (arith, all, needed, c.requires.few)) in
    let first = first_span sum.met (take k ds) in
    let some = span_needed ds k c.args.count needed in
    let fits_last : FitsSigned w32 c.keep_near.result = search rules in
    let next : Sum = record { met = sum.met + k; last = c.keep_near.result } in
    let put = c.put_first.ensures k in
    let last = rw put at c.keep_near.ensures.last in
    rw (to_z-of_z w32 c.keep_near.result fits_last) (walks_needed g.K.Keeper.kept c.args.samples sum ds c.args.count k
    c.args.out.now c.keep_near.new.out more (Ok next) c.requires.met c.min-needed.ensures
    (λ rest. continues_near (take k ds) sum next rest (omega (arith, long, c.min-needed.ensures, c.requires.met))
    (omega (arith, first, some, c.requires.near)) (rw (long, ← last) refl) (rw put at c.keep_near.ensures.put)
    (c.keep_near.ensures.places ∙ c.requires.places)) refl)
