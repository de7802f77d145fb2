use Rattle.std.proofs.Common.{rules}
use Rattle.mseed_c.proofs.row.row_of.Goals as goal

pub returns-clause-describes : goal.returns-clause-describes
returns-clause-describes c = record {
  length_is = search rules;
  samples_are = search rules;
  rate = record {
    ratio = search rules;
    factor = λ some. search rules;
    multiplier = λ some. search rules;
    no_factor = λ none. search rules;
    no_multiplier = λ none. search rules;
  };
  time_is = search rules;
  start_is = λ fine. search rules;
  no_start = λ bad. search rules;
  encoding_is = search rules;
  quality_is = search rules;
  leap_is = search rules;
  key_is = search rules;
}
