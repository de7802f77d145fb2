use Rattle.std.proofs.Common.{arith, rules, true}
use Rattle.std.proofs.lemmas.Bool.{false≢true}
use Rattle.jiff_core.proofs.SignedLemmas.{signed_casts}
use Rattle.mseed_time.specs.Naming.{IsOutside}
use Rattle.mseed_time.proofs.Naming.{name_unique, named_value, outside_unnamed}
use Rattle.mseed_time.proofs.btime.Btime.of_micros.Goals as goal

pub returns-clause-names : goal.returns-clause-names
returns-clause-names c = record {
  valid = c.of_ticks.result.valid;
  second = c.of_ticks.ensures.second;
  low = omega (arith, signed_casts);
  high = omega (arith, signed_casts);
  value = omega (arith, signed_casts);
}

pub returns-clause-unique : goal.returns-clause-unique
returns-clause-unique c t u spells = name_unique _ _ _ _ _ (returns-clause-names c) spells

pub returns-clause-value : goal.returns-clause-value
returns-clause-value c = named_value _ _ _ (returns-clause-names c)

pub returns-clause-no_name : goal.returns-clause-no_name
returns-clause-no_name c = ((λ h. absurd (false≢true h)), λ none. absurd (none _ _ (returns-clause-names c)))

pub returns-then-since_1800-lt-START_OF_1900-clause-no_name :
    goal.returns-then-since_1800-lt-START_OF_1900-clause-no_name
returns-then-since_1800-lt-START_OF_1900-clause-no_name c =
    let outside : IsOutside c.args.instant = search rules in
    ((λ _. outside_unnamed c.args.instant outside), (λ _ i. true))
