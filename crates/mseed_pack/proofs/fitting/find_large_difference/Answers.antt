use Rattle.std.proofs.Common.{pos, arith, ◌∙◌, sym, w64, rules}
use Rattle.std.proofs.lemmas.Bool.{false≢true}
use Rattle.std.proofs.lemmas.Int.{to_z-of_z}
use Rattle.std.proofs.lemmas.List.Elements.{All-from_get_or}
use Rattle.mseed_pack.specs.Fitting.{IsDifferenceOf}
use Rattle.mseed_pack.specs.Stretches.{differences}
use Rattle.mseed_pack.proofs.Differences.{length-differences}
use Rattle.mseed_pack.proofs.fitting.find_large_difference.Goals as goal

pub returns-clause-none : goal.returns-clause-none
returns-clause-none c =
    All-from_get_or (IsDifferenceOf c.args.encoding) (differences c.args.samples.now) (pos 0)
    (λ k h. c.loop-index.invariant k (omega (arith, h, length-differences c.args.samples.now, c.loop-index-test.false)))

pub returns-then-not-is_difference-clause-some : goal.returns-then-not-is_difference-clause-some
returns-then-not-is_difference-clause-some c = record {
  inside = omega (arith, length-differences c.args.samples.now, c.loop-index-test.true);
  not_it = λ fits. false≢true (sym c.if-not-is_difference.true ∙ c.is_difference.ensures.1
      (rw (to_z-of_z w64 c.difference_at.result (search rules), c.difference_at.ensures) fits));
  before = c.loop-index.invariant;
}
