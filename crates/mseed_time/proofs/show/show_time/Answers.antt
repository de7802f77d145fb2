use Rattle.std.proofs.Common.{◌≡◌, ap, unsigned_abs, ◌%◌}
use Rattle.mseed_time.specs.Text.{since_1800, time_text}
use Rattle.mseed_time.proofs.Pairs.{pairs_text}
use Rattle.mseed_time.proofs.show.show_time.Goals as goal

pub returns : goal.returns
unfolding time_text
returns c =
    let since : since_1800 c.args.instant ≡ c.since_first-since.result =
    ap unsigned_abs c.since_first-since.ensures.value in
    let date = c.civil_date-year.ensures in
    rw since (pairs_text _ _ _ (c.since_first-since.result % 86_400_000_000) _ _ _ _ _ _ _ _ _ _
    (rw date.year at c.two_digits-century.ensures) (rw date.year at c.two_digits-year.ensures)
    (rw date.month at c.two_digits-month.ensures) (rw date.day_of_month at c.two_digits-day.ensures)
    c.two_digits-hour.ensures c.two_digits-minute.ensures c.two_digits-second.ensures c.two_digits-high.ensures
    c.two_digits-middle.ensures c.two_digits-low.ensures)
