use Rattle.std.proofs.Common.{◌≡◌, ℕ, Some, arith, pos, subst}
use Rattle.std.proofs.lemmas.Int.{ints}
use Rattle.mseed_time.specs.Calendar.{day_in_year}
use Rattle.mseed_time.proofs.Dating.{day_in_year-jiff}
use Rattle.mseed_time.proofs.calendar.day_in_year.Goals as goal

pub returns-in-Ok-clause-value : goal.returns-in-Ok-clause-value
returns-in-Ok-clause-value c =
    let date = c.in-Ok.date in
    let is = c.in-Ok.ensures.value in
    let year : date.year ≡ pos c.args.year = omega (arith, ints, is.0) in
    let month : date.month ≡ c.args.month = omega (arith, ints, is.1) in
    let day : date.day ≡ c.args.day = omega (arith, ints, is.2) in
    subst (λ (m : ℕ). Some c.day_of_year.result ≡ day_in_year c.args.year m c.args.day) month
    (subst (λ (d : ℕ). Some c.day_of_year.result ≡ day_in_year c.args.year date.month d) day
    (day_in_year-jiff date.year c.args.year date.month date.day c.day_of_year.result year date.month_in.0
    date.month_in.1 date.day_in.0 date.day_in.1 c.day_of_year.ensures.value))
