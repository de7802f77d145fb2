use Rattle.std.proofs.Common.{◌≡◌, inl, inr}
use Rattle.std.proofs.Common.{◌-◌, arith, ⊎_elim}
use Rattle.std.proofs.lemmas.Bool.{cases_lt}
use Rattle.mseed_time.specs.Ratios.{ratio_of}
use Rattle.mseed_pack.proofs.Misfits.{not_so}
use Rattle.mseed_pack.proofs.Times.{between_timed}
use Rattle.mseed_pack.proofs.fitting.first_outside.Goals as goal

pub loop-inside-init : goal.loop-inside-init
loop-inside-init c =
    let span = c.args.span in
    let first = not_so c.if-is_outside_at.ensures.1 in
    let last = ⊎_elim (λ early. absurd (first early)) (λ late. late) c.requires.ends in
    record {
      begin = omega arith;
      apart = elim (cases_lt span.begin (span.end - 1)) [
        | inl less ↦ less
        | inr more ↦
            let same : span.end - 1 ≡ span.begin = omega (arith, more, c.requires.some) in
            absurd (first (rw same at last))
      ];
      end = omega (arith, c.requires.some);
      early = first;
      late = last;
    }

pub returns-clause-before : goal.returns-clause-before
returns-clause-before c = λ k low high.
    between_timed c.args.start (ratio_of c.args.rate) c.args.span.added c.args.span.begin c.loop-inside.inside k low
    (omega (arith, high, c.loop-inside-test.false)) (not_so c.if-is_outside_at.ensures.1) c.loop-inside.invariant.early
