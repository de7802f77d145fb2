use Rattle.std.proofs.Common.{◌≡◌, ℤ, refl, arith, subst, sym, FitsSigned, w64, to_z, of_z}
use Rattle.std.proofs.lemmas.Bool.{false≢true}
use Rattle.std.proofs.lemmas.Int.{ints, to_z-of_z}
use Rattle.mseed_time.specs.Rate.{Ratio}
use Rattle.mseed_time.specs.Ratios.{ratio_of}
use Rattle.mseed_repack.specs.Stretches.{IsOnTime}
use Rattle.mseed_repack.proofs.stretch.Stretch.is_next.Goals as goal

pub returns-then-not-is_one_rate : goal.returns-then-not-is_one_rate
returns-then-not-is_one_rate c = (
  λ no. absurd (false≢true no),
  λ is. absurd (false≢true (c.if-not-is_one_rate.ensures.1 is.same)),
)

pub is_on_time-requires : goal.is_on_time-requires
is_on_time-requires c =
    let s = c.args.self.now in
    record {
      few = omega (arith, s.few, s.samples_bound);
      low = omega (arith, ints, s.few, s.added_low);
      high = omega (arith, ints, s.few, s.added_high);
    }

pub returns : goal.returns
returns c =
    let s = c.args.self.now in
    let P : Ratio → ℤ → Type 0 = λ r added. IsOnTime s.start s.samples r added c.args.next.now.0 in
    let fits : FitsSigned w64 s.added = omega (arith, ints, s.few, s.added_low, s.added_high) in
    let kept : to_z w64 (of_z w64 s.added) ≡ s.added = to_z-of_z w64 s.added fits in (
      λ on. record {
        same = c.if-not-is_one_rate.ensures.0 refl;
        on_time = subst (λ (z : ℤ). P (ratio_of s.rate) z) kept (rw c.ratio-own.ensures at (c.is_on_time.ensures.0 on));
      },
      λ is. c.is_on_time.ensures.1 (subst (λ (r : Ratio). P r (to_z w64 (of_z w64 s.added))) (sym c.ratio-own.ensures)
          (subst (λ (z : ℤ). P (ratio_of s.rate) z) (sym kept) is.on_time)),
    )
