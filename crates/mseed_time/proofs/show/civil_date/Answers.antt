use Rattle.std.proofs.Common.{◌≡◌, ◌+◌, arith, ◌∙◌, FitsSigned}
use Rattle.std.proofs.lemmas.Int.{ints, to_z-of_z}
use mir.Syntax.{w16}
use Rattle.jiff_core.proofs.CalendarLemmas.{days_in_month_bounds}
use Rattle.mseed_time.specs.Calendar.{year_start, year_of}
use Rattle.mseed_time.proofs.Civil.{begun_most, date_is}
use Rattle.mseed_time.proofs.show.civil_date.Goals as goal

pub returns : goal.returns
returns c =
    let date = c.from_days_since_min-date.result in
    let is = date_is date c.args.day c.requires c.from_days_since_min-date.ensures in
    let fits : FitsSigned w16 date.year = omega (arith, ints, date.year_in) in
    let year : c.from.result ≡ year_of c.args.day =
    c.from.ensures ∙ (rw (to_z-of_z w16 date.year fits, is.year) at c.unsigned_abs.ensures.value) in
    let most = begun_most (λ n. year_start (1800 + n)) 399 c.args.day in
    record {
      year = year;
      four = omega (arith, year, most);
      month = c.from-2.ensures ∙ is.month;
      day_of_month = c.from-3.ensures ∙ is.day_of_month;
      two = (
        omega (arith, c.from-2.ensures, date.month_in),
        omega (arith, c.from-3.ensures, date.day_in, days_in_month_bounds date.year date.month),
      );
    }
