use Rattle.std.proofs.Common.{◌/◌, ◌%◌, ap, ◌∙◌, arith, pos}
use Rattle.mseed_time.proofs.Days.{microsecond_of-counted}
use Rattle.mseed_time.proofs.btime.Btime.of_ticks.Goals as goal

pub returns-clause-value : goal.returns-clause-value
returns-clause-value c =
    let seconds = c.args.ticks / 10_000 in
    let value = microsecond_of-counted
    (record {
      year = c.year_and_day-year.result.0;
      day = c.year_and_day-year.result.1;
      hour = seconds / 60 / 60 % 24;
      minute = seconds / 60 % 60;
      second = seconds % 60;
      fraction =
          c.args.ticks % 10_000;
    }) (seconds / 60 / 60 / 24) c.year_and_day-year.ensures.value in
    value ∙ ap pos (omega arith)
