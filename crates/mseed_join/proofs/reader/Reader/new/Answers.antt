use Rattle.std.proofs.Common.{[], ℕ, arith, ap, length, refl, subst, sym}
use Rattle.mseed_join.specs.Joined.{AreLines}
use Rattle.mseed_join.proofs.reader.Reader.new.Goals as goal

pub returns : goal.returns
returns g c =
    let lines = c.in_ok-lines.ensures in
    record {
      by = record {
        passed = [];
        reported = sym lines.held;
        lines = subst (λ (n : ℕ). AreLines [] n) (sym lines.lines) AreLines.none;
        bytes = omega (arith, ap length lines.held, lines.counts.0);
        calls = sym lines.counts.1;
      };
      read = c.new-2.ensures.read;
      past_is = c.new-2.ensures.past_faults;
      goes_on = record { failures = refl; is_at_end = refl };
    }
